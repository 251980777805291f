-- A table that reads, by its slots, and the check that it does, record by record.
use Prim.Native.Nat.{ℕ, suc, ◌+◌, ◌-◌, ◌*◌, ◌/◌, ◌≤◌, ◌<◌}
use native.Mathlib.Nat.{zero-mul, suc-mul, sub-zero, mul-le-mul_right, mul-div_cancel}
use native.Mathlib.Numerals.{add-one}
use native.Mathlib.Omega.{arith}
use mathlib.Core.Path.{◌≡◌, refl, sym, ap, ◌∙◌}
use mathlib.Core.Bool.{Bool, true, false, cond, ◌&&◌}
use mathlib.Core.List.{List, [], ◌∷◌}
use mathlib.Core.Option
use mathlib.Core.Option.{Option, none, some}
use lib.ListN.{length, drop, get_or, get_elem?}
use lib.Seq.{drop-drop}
use Rattle.model.specs.Bytes.{all}
use Rattle.model.specs.Optional.{◌>>=◌}
use Rattle.model.specs.Table.{Form, Slot, empty, record_size, slot_bytes, record_at, read_slot, read_slots, table_limit, size_rules, read_table}
use Rattle.model.specs.Optional.{is_some}
use borrow.Author.Tests.{leb-true}
use Rattle.model.proofs.Basics.{never, and_left, Every, every, at-within}
use Rattle.model.proofs.Records.{Kept, read_slot-slot_bytes}
use Rattle.model.proofs.Tables.{WasTable, table_bytes-read_table, length-table_bytes, record_at-table_bytes, all-at}
use Rattle.table.specs.Slots.{Reads, Inside, slots_of}

-- ---- the slots of a table that reads

pub slots-of : (f : Form) (t : List ℕ) → Reads f t → read_table f t ≡ some (slots_of f t)
unfolding slots_of
slots-of f t h = by (read_table f t) h
  where
    by : (o : Option (List Slot)) → is_some o ≡ true → o ≡ some (Option.get_or o [])
    by none h = never false h refl
    by (some ss) h = refl

-- record i of n lies within n records: the one law about places
pub inside : (f : Form) (n i : ℕ) → i < n → i * record_size f + record_size f ≤ n * record_size f
inside f n i h = rw (← suc-mul i (record_size f)) (mul-le-mul_right (record_size f) h)

module _ (f : Form) (t : List ℕ) (ok : Reads f t) where
  pub table_of : WasTable f t (slots_of f t)
  table_of = table_bytes-read_table f t (slots_of f t) (slots-of f t ok)

  pub table-length : length t ≡ length (slots_of f t) * record_size f
  table-length = ap length (sym table_of.bytes) ∙ length-table_bytes f (slots_of f t) table_of.kept

  pub count-is : length t / record_size f ≡ length (slots_of f t)
  count-is = rw table-length (mul-div_cancel (length (slots_of f t)) {n = record_size f} (omega arith))

  module _ (i : ℕ) (h : i < length (slots_of f t)) where
    pub inside-table : Inside f t i
    inside-table = rw table-length (inside f (length (slots_of f t)) i h)

    there : get_elem? (slots_of f t) i ≡ some (get_or (slots_of f t) i empty)
    there = at-within (slots_of f t) i empty h

    pub slot-bytes : record_at f i t ≡ slot_bytes f (get_or (slots_of f t) i empty)
    slot-bytes = ap (record_at f i) (sym table_of.bytes) ∙ record_at-table_bytes f (slots_of f t) i _ table_of.kept there

    pub slot_at : read_slot f (record_at f i t) ≡ some (get_or (slots_of f t) i empty)
    slot_at = ap (read_slot f) slot-bytes ∙ read_slot-slot_bytes f _ (all-at (Kept f) (slots_of f t) i _ table_of.kept there)

-- ---- the check, record by record

-- whether the records of a table from the i-th on read, of n
unfoldable pub read_from : Form → (n i : ℕ) → List ℕ → Bool
read_from f n i t = is_some (read_slots f (n - i) (drop (i * record_size f) t))

some-both : (o : Option Slot) (os : Option (List Slot)) → is_some (o >>= λ s. os >>= λ ss. some (s ∷ ss)) ≡ is_some o && is_some os
some-both none os = refl
some-both (some s) none = refl
some-both (some s) (some ss) = refl

module _ (f : Form) (n : ℕ) (t : List ℕ) where
  pub read_none : is_some (read_slots f n t) ≡ read_from f n 0 t
  unfolding read_from
  read_none = rw (zero-mul (record_size f), sub-zero n)

  pub read_next : (i : ℕ) → i < n → read_from f n i t ≡ is_some (read_slot f (record_at f i t)) && read_from f n (i + 1) t
  unfolding read_from
  read_next i h =
      let left : n - i ≡ suc (n - (i + 1)) = omega arith in
      rw left
      (some-both (read_slot f (record_at f i t)) (read_slots f (n - (i + 1)) (drop (record_size f) (drop (i * record_size f) t)))
      ∙ rw (drop-drop (record_size f) (i * record_size f) t, ← suc-mul i (record_size f), ← add-one i))

  pub read-end : (i : ℕ) → n ≤ i → read_from f n i t ≡ true
  unfolding read_from
  read-end i h = let left : n - i ≡ 0 = omega arith in rw left

-- a table's check is its size and its records
pub read_table_lem : (f : Form) (t : List ℕ) → is_some (read_table f t) ≡ all (size_rules f t) && is_some (read_slots f (length t / record_size f) t)
unfolding read_table
read_table_lem f t = by (all (size_rules f t))
  where
    by : (ok : Bool) → is_some (cond ok (read_slots f (length t / record_size f) t) none) ≡ ok && is_some (read_slots f (length t / record_size f) t)
    by true = refl
    by false = refl

module _ (f : Form) (t : List ℕ) (ok : Reads f t) where
  sizes : Every (size_rules f t)
  sizes = every (size_rules f t) (and_left (all (size_rules f t)) _ (sym (read_table_lem f t) ∙ ok))

  -- a table has a slot
  pub some-slot : 0 < length (slots_of f t)
  some-slot = omega (arith, leb-true 1 (length t / record_size f) sizes.1.0, count-is f t ok)

  -- and no more than 256
  pub slots-limit : length (slots_of f t) ≤ 256
  slots-limit = omega (arith, leb-true (length t / record_size f) table_limit sizes.1.1.0, count-is f t ok)
