-- The walk along two indexes.
use Rattle.std.specs.Prelude.{ℕ, ◌+◌, ◌-◌, ◌*◌, ◌≤◌, ◌<◌, ◌≡◌, List, [], ◌∷◌, ◌++◌, map, length, drop, get_or}
use Rattle.model.specs.Table.{Record, form128}
use Rattle.model.specs.Order.{index_of}
use Rattle.model.specs.Difference.{Line, removed, added, fields_apart, changed_line, add_line, lines_bytes}
use Rattle.slice.specs.Wrote.{Wrote}
use Rattle.table.specs.Slots.{Good, slots_of, record_in}
use Rattle.std.specs.declared.cmp.Ordering.{Ordering}
use Rattle.std.specs.declared.cmp.Ordering.TheVariants.{Less, Equal, Greater}
use Rattle.order.specs.Compared.{compared}
use Rattle.difference.specs.declared.walk.Walk.{Walk}

-- ---- lists of records whose keys rise, walked together

module _ {A : Type 0} where
  abbrev pub pick : Ordering → (low here high : A) → A
  pick Less a b c = a
  pick Equal a b c = b
  pick Greater a b c = c

-- r and what comes after it, against records
abbrev pub merge_at : (r : Record) (rest : List Record → List Line) → List Record → List Line
merge_at r rest [] = removed r.key ∷ rest []
merge_at r rest (q ∷ qs) =
    let low = removed r.key ∷ rest (q ∷ qs) in
    let both = add_line (changed_line r.key (fields_apart r q)) (rest qs) in
    let high = added q.key ∷ merge_at r rest qs in
    pick (compared r.key q.key) low both high

-- the lines of two lists of records, each head compared with the other
unfoldable pub merge : (before after : List Record) → List Line
merge [] qs = map (λ (q : Record). added q.key) qs
merge (r ∷ rs) qs = merge_at r (λ qs. merge rs qs) qs

-- which list has the next key
abbrev pub next_of : (before after : List Record) → Ordering
next_of [] qs = Greater
next_of (r ∷ rs) [] = Less
next_of (r ∷ rs) (q ∷ qs) = compared r.key q.key

-- ---- tables and their indexes

-- the list l is the index of a good table
pub record Along (t l : List ℕ) : Type 0 where
  pub good : Good form128 t
  pub is : l ≡ index_of (slots_of form128 t)

abbrev pub number_at : (l : List ℕ) (i : ℕ) → ℕ
number_at l i = get_or l i 0

-- the records along an index, from its place i on
abbrev pub records_from : (t l : List ℕ) (i : ℕ) → List Record
records_from t l i = drop i (map (record_in form128 t) l)

-- the lines that a walk at places i and j has yet to write
abbrev pub lines_left : (a l b m : List ℕ) (i j : ℕ) → List Line
lines_left a l b m i j = merge (records_from a l i) (records_from b m j)

-- the answer of which table has the next key
abbrev pub Heads : (a l b m : List ℕ) → Walk → Ordering → Type 0
Heads a l b m w r = r ≡ next_of (records_from a l w.first) (records_from b m w.second)

-- how many records are left
abbrev pub left : (l m : List ℕ) (i j : ℕ) → ℕ
left l m i j = (length l - i) + (length m - j)

-- the walk is within the indexes, and the lines that are left have room
pub record Ready (l m : List ℕ) (w : Walk) (out : List ℕ) : Type 0 where
  pub first : w.first ≤ length l
  pub second : w.second ≤ length m
  pub room : w.at + 51 * left l m w.first w.second ≤ length out

-- from places i and j to x and y stand these lines, of at most 51 bytes for each record that is passed
pub record Passes (a l b m : List ℕ) (i j x y : ℕ) (lines : List Line) : Type 0 where
  pub first : x ≤ length l
  pub second : y ≤ length m
  pub less : left l m x y < left l m i j
  pub short : length (lines_bytes lines) + 51 * left l m x y ≤ 51 * left l m i j
  pub rest : lines_left a l b m i j ≡ lines ++ lines_left a l b m x y

-- the walk went on from w to v, and wrote the lines between
pub record Steps (a l b m : List ℕ) (w v : Walk) (out after : List ℕ) : Type 0 where
  pub lines : List Line
  pub passes : Passes a l b m w.first w.second v.first v.second lines
  pub wrote : Wrote w.at (lines_bytes lines) out after v.at
