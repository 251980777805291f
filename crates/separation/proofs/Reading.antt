-- The first tests of a shared table are those of its two parts, each as a table of its own; and what passes or is refused by them is called, and
-- shown, as the part is as a table of its own.
use mathlib.Core.Path.{◌≡◌, refl, sym, ap, ◌∙◌}
use mathlib.Core.Bool.{Bool, true, false, ◌&&◌}
use mathlib.Core.List.{List, ◌++◌}
use mathlib.Core.Option.{Option, none, some}
use Prim.Native.Nat.{ℕ, ◌-◌, ◌*◌, ◌/◌, ◌≤◌, ◌<◌}
use native.Mathlib.Nat.{mul-le-mul_right, div-add-mod', mul-div_cancel}
use native.Mathlib.Omega.{arith}
use lib.ListN.{length, take, drop, length-drop, take-append-drop}
use lib.Seq.{length-take-le, take_at, drop_at}
use lib.Dec.{leb, ltb}
use borrow.Author.Tests.{leb-true, le-leb, lt-ltb}
use Rattle.model.specs.Bytes.{all}
use Rattle.model.specs.Checked.{Checked, refuse, ok, check, given, ◌>>=◌, ◌>>◌}
use Rattle.model.specs.Table.{Form, Slot, record_size, table_limit, table_bytes, size_rules, read_table, distinct}
use Rattle.model.specs.Partition.{Party, owner, installer, other, View, whole, shared_by, side, partition, bytes_in, with_bytes}
use Rattle.model.specs.Gate.{good_part, good_table, Inputs, gate}
use Rattle.model.specs.Parse.{parse}
use Rattle.model.specs.Execute.{execute}
use Rattle.model.specs.Call.{Outcome, untouched, effect_on, or_untouched, with_rest, call_in, call}
use Rattle.model.specs.CurrentValue.{nothing, or_nothing, place_in, shows_in, current_value_in, current_value}
use Rattle.model.proofs.Basics.{every, none-some}
use Rattle.model.proofs.Records.{Kept}
use Rattle.model.proofs.Tables.{All, WasTable, table_bytes-read_table, read_table-table_bytes, length-table_bytes}
use Rattle.separation.proofs.Parts.{with_side-side, all-side, all_append, table_bytes-append, table_bytes-side}

-- ---- a call on a table whose first tests come to those of the caller's part

pub with_bytes-bytes_in : (f : Form) (v : View) (t : List ℕ) → with_bytes f v (bytes_in f v t) t ≡ t
with_bytes-bytes_in f whole t = refl
with_bytes-bytes_in f (shared_by p n) t = with_side-side p (n * record_size f) t

-- a table that the first tests refuse shows nothing
pub shown-refused : (f : Form) (v : View) (t : List ℕ) {n : ℕ} → good_part f v t ≡ refuse n → (now : ℕ) (c : List ℕ) → current_value_in f v t now c ≡ nothing
unfolding current_value_in gate
shown-refused f whole t e now c = rw e
shown-refused f (shared_by owner n) t e now c = rw e
shown-refused f (shared_by installer n) t e now c = rw e

module _ (f : Form) (v : View) (t : List ℕ) (e : good_part f v t ≡ good_table f (bytes_in f v t)) where
  gate-by-part : (now room : ℕ) (c : List ℕ) → gate f v t now room c ≡ gate f whole (bytes_in f v t) now room c
  unfolding gate
  gate-by-part now room c = rw e

  -- the call does to the part what it does to it as a table of its own
  pub call-by-part : (now : ℕ) (c b : List ℕ) → call_in f v t now c b ≡ with_rest f v t (call f (bytes_in f v t) now c b)
  unfolding call_in
  call-by-part now c b = rw (gate-by-part now (length b) c) (go (λ i. effect_on f (bytes_in f v t) b i.slots (parse f now i.words >>= execute f now i.slots)) (gate f whole (bytes_in f v t) now (length b) c))
    where
      go : (act : Inputs → Outcome) (x : Checked Inputs)
          → or_untouched t b (x >>= λ i. ok (with_rest f v t (act i))) ≡ with_rest f v t (or_untouched (bytes_in f v t) b (x >>= λ i. ok (act i)))
      go act (refuse n) = ap (λ (x : List ℕ). untouched n x b) (sym (with_bytes-bytes_in f v t))
      go act (ok i) = refl

  -- and shows what it shows
  pub shown-by-part : (now : ℕ) (c : List ℕ) → current_value_in f v t now c ≡ place_in f v (current_value f (bytes_in f v t) now c)
  unfolding current_value_in
  shown-by-part now c =
      ap (λ (x : Checked Inputs). place_in f v (or_nothing (x >>= λ i. shows_in f now i.slots i.words))) (gate-by-part now f.reply_room c)

-- ---- a party's part of a table that reads

module _ (f : Form) (n : ℕ) (t : List ℕ) (ss : List Slot) (e : read_table f t ≡ some ss) (least : 1 ≤ n) (most : n < length ss) where
  was : WasTable f t ss
  was = table_bytes-read_table f t ss e

  -- the part's bytes are those of its slots
  pub partition-bytes : (p : Party) → table_bytes f (side p n ss) ≡ partition f p n t
  partition-bytes p = table_bytes-side f p n ss was.kept ∙ ap (partition f p n) was.bytes

  length-side : (p : Party) → (1 ≤ length (side p n ss)) × (length (side p n ss) ≤ 256)
  length-side owner = let e : length (take n ss) ≡ n = length-take-le n ss (omega arith) in (omega arith, omega (arith, was.most))
  length-side installer = let e : length (drop n ss) ≡ length ss - n = length-drop n ss in (omega arith, omega (arith, was.most))

  pub part-reads : (p : Party) → read_table f (partition f p n t) ≡ some (side p n ss)
  part-reads p =
      ap (read_table f) (sym (partition-bytes p))
      ∙ read_table-table_bytes f (side p n ss) (all-side (Kept f) p n ss was.kept) (length-side p).0 (length-side p).1

-- ---- both parts

-- as many slots as the bytes are long
count-bytes : (f : Form) (t : List ℕ) (ss : List Slot) → All (Kept f) ss → table_bytes f ss ≡ t → length ss ≡ length t / record_size f
count-bytes f t ss kept bytes =
    sym (mul-div_cancel (length ss) {n = record_size f} (omega arith))
    ∙ ap (λ (m : ℕ). m / record_size f) (sym (length-table_bytes f ss kept) ∙ ap length bytes)

pub count-slots : (f : Form) (t : List ℕ) (ss : List Slot) → read_table f t ≡ some ss → length ss ≡ length t / record_size f
count-slots f t ss e = let w = table_bytes-read_table f t ss e in count-bytes f t ss w.kept w.bytes

-- a table of the right length and a good boundary
module _ (f : Form) (n : ℕ) (t : List ℕ) (size : all (size_rules f t) ≡ true) (least : 1 ≤ n) (most : n < length t / record_size f) where
  pub within-bytes : n * record_size f ≤ length t
  within-bytes = omega (arith, div-add-mod' (length t) (record_size f), mul-le-mul_right {m = n} {n = length t / record_size f} (record_size f) (omega arith))

  part-unread : (p : Party) → read_table f (partition f p n t) ≡ none → read_table f t ≡ none
  part-unread p h = go (read_table f t) refl
    where
      go : (o : Option (List Slot)) → read_table f t ≡ o → o ≡ none
      go none e = refl
      go (some ss) e = none-some (side p n ss) (sym h ∙ part-reads f n t ss e least (omega (arith, count-slots f t ss e)) p)

  module _ (a d : List Slot) (ea : read_table f (partition f owner n t) ≡ some a) (ed : read_table f (partition f installer n t) ≡ some d) where
    length-first : length a ≡ n
    length-first =
        count-slots f (partition f owner n t) a ea
        ∙ (ap (λ (m : ℕ). m / record_size f) (length-take-le (n * record_size f) t within-bytes) ∙ mul-div_cancel n {n = record_size f} (omega arith))

    joined : read_table f t ≡ some (a ++ d)
    joined =
        let wa = table_bytes-read_table f (partition f owner n t) a ea in
        let wd = table_bytes-read_table f (partition f installer n t) d ed in
        let kept : All (Kept f) (a ++ d) = all_append (Kept f) a d wa.kept wd.kept in
        let bytes : table_bytes f (a ++ d) ≡ t =
        table_bytes-append f a d ∙ ((λ i. wa.bytes i ++ wd.bytes i) ∙ take-append-drop (n * record_size f) t) in
        let count = count-bytes f t (a ++ d) kept bytes in
        let rules = every (size_rules f t) size in
        ap (read_table f) (sym bytes)
        ∙ read_table-table_bytes f (a ++ d) kept (omega (arith, leb-true 1 (length t / record_size f) rules.1.0)) (omega (arith, leb-true (length t / record_size f) table_limit rules.1.1.0))

    boundary : leb 1 n && ltb n (length (a ++ d)) ≡ true
    boundary = rw (le-leb 1 n least, lt-ltb n (length (a ++ d)) (omega (arith, count-slots f t (a ++ d) joined)))

    first : take n (a ++ d) ≡ a
    first = take_at a d n length-first

    rest : drop n (a ++ d) ≡ d
    rest = drop_at a d n length-first

  -- a test by 1 before a refusal by 1
  refused-after : (y : Option (List Slot)) → ◌≡◌ {A = Checked (List Slot)} (refuse 1) ((given 1 y >>= λ ss. (check 1 (distinct ss) >> ok ss)) >> refuse 1)
  refused-after none = refl
  refused-after (some ss) = go (distinct ss)
    where
      go : (b : Bool) → ◌≡◌ {A = Checked (List Slot)} (refuse 1) ((check 1 b >> ok ss) >> refuse 1)
      go true = refl
      go false = refl

  -- the first tests are those of the other part and of the caller's, as tables of their own
  pub by_parts : (p : Party) → good_part f (shared_by p n) t ≡ good_table f (partition f (other p) n t) >> good_table f (partition f p n t)
  by_parts p = go p (read_table f (partition f owner n t)) (read_table f (partition f installer n t)) refl refl
    where
      -- equal keys in either part, whichever is tested first
      keys : (a d r : List Slot) (x y : Bool) → (check 1 (x && y) >> ok r ≡ (check 1 y >> ok d) >> (check 1 x >> ok r)) × (check 1 (x && y) >> ok r ≡ (check 1 x >> ok a) >> (check 1 y >> ok r))
      keys a d r true true = (refl, refl)
      keys a d r true false = (refl, refl)
      keys a d r false true = (refl, refl)
      keys a d r false false = (refl, refl)

      go : (p : Party) (x y : Option (List Slot)) → read_table f (partition f owner n t) ≡ x → read_table f (partition f installer n t) ≡ y
          → good_part f (shared_by p n) t ≡ good_table f (partition f (other p) n t) >> good_table f (partition f p n t)
      go owner none y ex ey = rw (part-unread owner ex, ex) (refused-after (read_table f (partition f installer n t)))
      go installer none y ex ey = rw (part-unread owner ex, ex)
      go owner (some a) none ex ey = rw (part-unread installer ey, ey)
      go installer (some a) none ex ey = rw (part-unread installer ey, ey) (refused-after (read_table f (partition f owner n t)))
      go owner (some a) (some d) ex ey = rw (joined a d ex ey, boundary a d ex ey, first a d ex ey, rest a d ex ey, ex, ey) (keys a d a (distinct a) (distinct d)).0
      go installer (some a) (some d) ex ey = rw (joined a d ex ey, boundary a d ex ey, first a d ex ey, rest a d ex ey, ex, ey) (keys a d d (distinct a) (distinct d)).1
