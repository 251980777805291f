-- What the check's answer says of a table: its slots, or the refusal by 1.
use Prim.Native.Nat.{ℕ}
use mathlib.Core.Path.{◌≡◌, refl}
use mathlib.Core.Bool.{true, false, ◌&&◌}
use mathlib.Core.List.{List, []}
use mathlib.Core.Option.{Option, none, some, get_or}
use Rattle.model.specs.Checked.{refuse, ok}
use Rattle.model.specs.Optional.{is_some}
use Rattle.model.specs.Table.{Form, Slot, read_table, distinct}
use Rattle.model.specs.Gate.{good_table}
use Rattle.model.proofs.Basics.{and_left, and_right}
use Rattle.table.specs.Slots.{Reads, Good, slots_of}
use Rattle.table.proofs.Records.{slots-of}
use Rattle.integrity.specs.Check.{faultless}

module _ (f : Form) (t : List ℕ) where
  module _ (good : faultless f t ≡ true) where
    pub good-reads : Reads f t
    good-reads = and_left (is_some (read_table f t)) _ good

    pub good-keys : distinct (slots_of f t) ≡ true
    good-keys = and_right (is_some (read_table f t)) _ good

    pub good-table : Good f t
    good-table = record { reads = good-reads; keys = good-keys }

    pub good-slots : good_table f t ≡ ok (slots_of f t)
    good-slots = rw (slots-of f t good-reads, good-keys)

  pub not_good : faultless f t ≡ false → good_table f t ≡ refuse 1
  unfolding slots_of
  not_good h = go (read_table f t) refl h
    where
      go : (o : Option (List Slot)) → read_table f t ≡ o → is_some o && distinct (get_or o []) ≡ false → good_table f t ≡ refuse 1
      go none e b = rw e
      go (some ss) e b = rw (e, b)
