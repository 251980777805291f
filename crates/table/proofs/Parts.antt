-- The part of a table that is slot i: what a call says of its bytes it says of the slot, and where it comes back with the bytes of a slot, the
-- table is that of its slots with this one replaced.
use Prim.Native.Nat.{ℕ, ◌+◌, ◌-◌, ◌*◌, ◌≤◌, ◌<◌}
use native.Mathlib.Omega.{arith}
use mathlib.Core.Path.{◌≡◌, refl, sym, ap, subst, ◌∙◌}
use mathlib.Core.Bool.{false, not}
use mathlib.Core.List.{List}
use mathlib.Core.Option
use mathlib.Core.Option.{Option, some}
use lib.ListN.{length, get_or, get_elem?, take, drop, replicate, replicate-append-replicate}
use borrow.Rule.Slice.PartMut.{put_mid}
use Rattle.model.specs.Bytes.{part, padded, written, from_little_endian}
use Rattle.model.specs.Table.{Form, Slot, Record, empty, used, is_empty, fields, record_size, record_bytes, slot_bytes, record_at}
use Rattle.model.specs.Search.{is_expired, live, ahead}
use Rattle.model.specs.Optional.{is_some}
use Rattle.model.proofs.Basics.{at-get_or, at_length}
use Rattle.model.proofs.Records.{InRange, Kept, in-use-read_slot}
use Rattle.model.proofs.Tables.{all-at, table_bytes-set}
use Rattle.slice.proofs.Written.{length_part, part-is, part-back, drop-replicate}
use Rattle.record.specs.Forms.{Lawful}
use Rattle.record.specs.Record.{as_slot, Readable, InUseOf, InUse, IsSlot, Fits, Changed}
use Rattle.record.proofs.Checking.{in-use-key}
use Rattle.table.specs.Slots.{Reads, Inside, slots_of, record_of, record_in, InUseAt, with_slot, IsRecord}
use Rattle.table.proofs.Records.{table_of, inside-table, slot-bytes, slot_at}

-- the part that code borrows for slot i: it begins at i times the size, and is as long as the size
pub record Borrows (f : Form) (i from n : ℕ) : Type 0 where
  pub begins : from ≡ i * record_size f
  pub size : n ≡ record_size f

pub borrowed : (f : Form) (t : List ℕ) (i from n : ℕ) → Borrows f i from n → take (from + n - from) (drop from t) ≡ record_at f i t
borrowed f t i from n p = part-is from n t ∙ (λ j. part (p.begins j) (p.size j) t)

pub length-slot : (f : Form) (t : List ℕ) (i : ℕ) → Inside f t i → length (record_at f i t) ≡ record_size f
length-slot f t i h = length_part (i * record_size f) (record_size f) t h

-- zeros have no expiry
zeros-expiry : (n : ℕ) → 24 ≤ n → (fields (replicate n 0)).expiry ≡ 0
unfolding from_little_endian
zeros-expiry n h =
    let m : n - 16 ≡ 8 + (n - 24) = omega arith in
    rw (drop-replicate 16 n 0, m, ← replicate-append-replicate 8 (n - 24))

-- ---- a slot of a table that reads

module _ (f : Form) (t : List ℕ) (ok : Reads f t) (i : ℕ) (h : i < length (slots_of f t)) where
  -- the bytes are those of the slot
  pub slot_is : as_slot f (record_at f i t) ≡ get_or (slots_of f t) i empty
  slot_is = ap (λ (o : Option Slot). Option.get_or o empty) (slot_at f t ok i h)

  pub slot-readable : Readable f (record_at f i t)
  slot-readable = record { size = length-slot f t i (inside-table f t ok i h); read = ap is_some (slot_at f t ok i h) }

  pub is-slot : Lawful f → IsSlot (record_at f i t)
  is-slot l = record { form = f; lawful = l; is = slot-readable }

  -- an empty record is live, since it has no expiry
  pub slot-expired : (time : ℕ) → not (live time (fields (record_at f i t))) ≡ is_expired time (get_or (slots_of f t) i empty)
  unfolding from_little_endian
  slot-expired time =
      go (get_or (slots_of f t) i empty) (sym (slot-bytes f t ok i h)) (in-use-read_slot f (record_at f i t) (get_or (slots_of f t) i empty) (slot_at f t ok i h))
    where
      go : (s : Slot) → slot_bytes f s ≡ record_at f i t → (is_empty s ≡ false → s ≡ used (fields (record_at f i t)))
          → not (live time (fields (record_at f i t))) ≡ is_expired time s
      go empty e u = ap (λ (x : ℕ). not (ahead time x)) (ap (λ (b : List ℕ). (fields b).expiry) (sym e) ∙ zeros-expiry (record_size f) (omega arith))
      go (used r) e u = ap (is_expired time) (sym (u refl))

  module _ (u : is_empty (get_or (slots_of f t) i empty) ≡ false) where
    pub slot-used : get_or (slots_of f t) i empty ≡ used (fields (record_at f i t))
    slot-used = in-use-read_slot f (record_at f i t) (get_or (slots_of f t) i empty) (slot_at f t ok i h) u

    pub slot-in-use : InUseOf f (record_at f i t)
    slot-in-use = record { size = slot-readable.size; read = slot_at f t ok i h ∙ ap {B = Option Slot} some slot-used }

    -- the key with the zeros after it
    pub slot-key : part 24 24 (record_at f i t) ≡ padded 24 (fields (record_at f i t)).key
    slot-key = in-use-key f (record_at f i t) slot-in-use

  -- the part comes back with the bytes of a slot
  pub replaced : (from n : ℕ) → Borrows f i from n → (s : Slot) (r : List ℕ) → r ≡ slot_bytes f s → length r ≡ length (take (from + n - from) (drop from t))
      → put_mid from (from + n - from) t r ≡ with_slot f t i s
  replaced from n p s r e kept =
      let size : length r ≡ record_size f = kept ∙ ap length (borrowed f t i from n p) ∙ slot-readable.size in
      part-back from n t r (size ∙ sym p.size)
      ∙ (λ j. written (p.begins j) (e j) (sym (table_of f t ok).bytes j))
      ∙ sym (table_bytes-set f (slots_of f t) i s (table_of f t ok).kept h (ap length (sym e) ∙ size))

-- ---- a slot in use

-- for a caller that knows the record at the slot
module _ (f : Form) (t : List ℕ) (i : ℕ) (r : Record) (e : get_elem? (slots_of f t) i ≡ some (used r)) where
  pub record-in : record_in f t i ≡ r
  record-in = ap record_of (at-get_or (slots_of f t) i (used r) empty e)

  pub in-use-at : InUseAt f t i
  in-use-at = e ∙ ap (λ (x : Record). some (used x)) (sym record-in)

-- it is one of the slots
pub within : (f : Form) (t : List ℕ) (i : ℕ) → InUseAt f t i → i < length (slots_of f t)
within f t i u = at_length (slots_of f t) i (used (record_in f t i)) u

module _ (f : Form) (t : List ℕ) (ok : Reads f t) (i : ℕ) (u : InUseAt f t i) where
  -- and its record is in range
  pub in-range : InRange f (record_in f t i)
  in-range = all-at (Kept f) (slots_of f t) i (used (record_in f t i)) (table_of f t ok).kept u

  here : i < length (slots_of f t)
  here = within f t i u

  full : is_empty (get_or (slots_of f t) i empty) ≡ false
  full = ap is_empty (at-get_or (slots_of f t) i (used (record_in f t i)) empty u)

  pub slot-fields : fields (record_at f i t) ≡ record_in f t i
  slot-fields = sym (ap record_of (slot-used f t ok i here full))

  of-form : InUseOf f (record_at f i t)
  of-form = slot-in-use f t ok i here full

  -- the bytes of the slot, however they were come by
  pub is-record : Lawful f → (b : List ℕ) → b ≡ record_at f i t → IsRecord f t i b
  is-record l b e = record {
    bytes = e;
    in_use = subst InUse (sym e) (record { form = f; lawful = l; is = of-form });
    is = ap fields e ∙ slot-fields;
  }

  module _ (from n : ℕ) (p : Borrows f i from n) where
    pub in_use : Lawful f → InUse (take (from + n - from) (drop from t))
    in_use l = (is-record l (take (from + n - from) (drop from t)) (borrowed f t i from n p)).in_use

    -- there is room for s in the borrowed record, as in the slot's
    pub room : (s : List ℕ) → length (record_in f t i).value + length s ≤ f.value_limit → Fits (take (from + n - from) (drop from t)) s
    room s h =
        let v : length (fields (record_at f i t)).value ≡ length (record_in f t i).value = ap (λ (r : Record). length r.value) slot-fields in
        subst (λ (b : List ℕ). Fits b s) (sym (borrowed f t i from n p)) (omega (arith, v, of-form.size))

    -- the borrowed record comes back changed by g: so is the slot's
    pub changed : (g : Record → Record) (b : List ℕ) → Changed g (take (from + n - from) (drop from t)) b → length b ≡ length (take (from + n - from) (drop from t))
        → put_mid from (from + n - from) t b ≡ with_slot f t i (used (g (record_in f t i)))
    changed g b c kept =
        let done : Changed g (record_at f i t) b = subst (λ (x : List ℕ). Changed g x b) (borrowed f t i from n p) c in
        replaced f t ok i here from n p (used (g (record_in f t i))) b (done f of-form ∙ ap (λ (r : Record). record_bytes f (g r)) slot-fields) kept
