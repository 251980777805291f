-- One step of the walk: the lists of records from a place on, and the line of the next key.
use mathlib.Core.Path.{◌≡◌, refl, ap, ◌∙◌}
use mathlib.Core.List.{List, [], ◌∷◌, ◌++◌, map}
use mathlib.Core.Option.{Option, none, some}
use Prim.Native.Nat.{ℕ, ◌+◌, ◌≤◌, ◌<◌}
use native.Mathlib.Numerals.{add-one}
use lib.ListN.{length, length-map, drop_of_length-le, get_or-map}
use lib.Seq.{drop-cons}
use Rattle.model.specs.Table.{Record, form128}
use Rattle.model.specs.Difference.{Line, removed, added, fields_apart, changed_line, add_line}
use Rattle.table.specs.Slots.{record_in}
use Rattle.std.proofs.Common.{Less, Equal, Greater}
use Rattle.difference.specs.Lines.{change_lines}
use Rattle.difference.specs.Walk.{merge, next_of, records_from, number_at}

-- ---- the records from place i of an index on

abbrev pub record_along : (t l : List ℕ) (i : ℕ) → Record
record_along t l i = record_in form128 t (number_at l i)

module _ (t l : List ℕ) (i : ℕ) where
  pub records-next : i < length l → records_from t l i ≡ record_along t l i ∷ records_from t l (i + 1)
  records-next h =
      let rs = map (record_in form128 t) l in
      let k : i < length rs = rw (length-map l (record_in form128 t)) h in
      rw (add-one i) (drop-cons rs i (record_in form128 t 0) k ∙ rw (get_or-map (record_in form128 t) l i 0))

  pub records-end : length l ≤ i → records_from t l i ≡ []
  records-end h =
      let k : length (map (record_in form128 t) l) ≤ i = rw (length-map l (record_in form128 t)) h in
      drop_of_length-le (map (record_in form128 t) l) k

-- ---- one list is at its end

module _ (a l b m : List ℕ) (i j : ℕ) where
  pub first_ended : length l ≤ i → next_of (records_from a l i) (records_from b m j) ≡ Greater
  first_ended h = ap (λ (rs : List Record). next_of rs (records_from b m j)) (records-end a l i h)

  pub second_ended : i < length l → length m ≤ j → next_of (records_from a l i) (records_from b m j) ≡ Less
  second_ended h k = λ x. next_of (records-next a l i h x) (records-end b m j k x)

-- ---- the line of the next key, by which list has it

pub merge-earlier : (r : Record) (rs qs : List Record) → next_of (r ∷ rs) qs ≡ Less → merge (r ∷ rs) qs ≡ removed r.key ∷ merge rs qs
unfolding merge
merge-earlier r rs [] e = refl
merge-earlier r rs (q ∷ qs) e = rw e

pub merge-later : (rs : List Record) (q : Record) (qs : List Record) → next_of rs (q ∷ qs) ≡ Greater → merge rs (q ∷ qs) ≡ added q.key ∷ merge rs qs
unfolding merge
merge-later [] q qs e = refl
merge-later (r ∷ rs) q qs e = rw e

add-then : (o : Option Line) (ls : List Line) → add_line o ls ≡ add_line o [] ++ ls
add-then none ls = refl
add-then (some l) ls = refl

pub merge_equal : (r : Record) (rs : List Record) (q : Record) (qs : List Record) → next_of (r ∷ rs) (q ∷ qs) ≡ Equal
    → merge (r ∷ rs) (q ∷ qs) ≡ change_lines r q ++ merge rs qs
unfolding merge
merge_equal r rs q qs e = rw e (add-then (changed_line r.key (fields_apart r q)) (merge rs qs))
