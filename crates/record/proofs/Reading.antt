-- `read_slot` by tests of the bytes: byte 0 tells an empty record from one in use.
use mathlib.Core.Path.{◌≡◌, refl, sym, ap, ◌∙◌}
use mathlib.Core.Logic.{◌⊎◌, inl, inr, ⊎_elim}
use mathlib.Core.Bool.{Bool, true, false, cond, ◌||◌, not, not-eq-not, or-false}
use mathlib.Core.List.{List}
use mathlib.Core.Option.{Option, none, some}
use Prim.Native.Nat.{ℕ, zero, suc}
use native.Mathlib.Omega.{arith}
use lib.ListN.{get_or, replicate}
use borrow.Author.Tests.{eqb-true, eqb-false, ne_eqb}
use Rattle.model.specs.Table.{Form, Slot, empty, used, record_size, record_bytes, fields, lawful, is_record, is_empty_record, read_slot, is_empty}
use Rattle.model.specs.Optional.{is_some}
use Rattle.model.proofs.Records.{WasRead, lawful-in-range, in-range-lawful, slot_bytes-read_slot, in-use-read_slot}
use Rattle.slice.proofs.Equal.{never, and_left, and_right, same_true, eq-same, ne_same}
use Rattle.record.specs.Record.{as_slot, Readable, InUseOf, is_used}

-- the first of zeros, however many
zeros-first : (n : ℕ) → ◌≡◌ {A = ℕ} (get_or (replicate n 0) 0 0) 0
zeros-first zero = refl
zeros-first (suc n) = refl

module _ (f : Form) where
  -- ---- bytes that are a record in use: their fields are in range and have these bytes

  abbrev pub IsRecord : List ℕ → Type 0
  IsRecord b = WasRead f b (used (fields b))

  pub is_record-true : (b : List ℕ) → is_record f b ≡ true → IsRecord b
  is_record-true b h = record {
    bytes = sym (same_true b (record_bytes f (fields b)) (and_right (lawful f (fields b)) _ h));
    kept = lawful-in-range f (fields b) (and_left (lawful f (fields b)) _ h);
  }

  pub is-is_record : (b : List ℕ) → IsRecord b → is_record f b ≡ true
  is-is_record b h = rw (in-range-lawful f (fields b) h.kept) (eq-same b (record_bytes f (fields b)) (sym h.bytes))

  pub in-use-record : (b : List ℕ) → InUseOf f b → IsRecord b
  in-use-record b h = slot_bytes-read_slot f b (used (fields b)) h.read

  pub first-used : (b : List ℕ) → IsRecord b → get_or b 0 0 ≡ 1
  unfolding record_bytes
  first-used b h = ap (λ (l : List ℕ). get_or l 0 0) (sym h.bytes)

  -- ---- whether bytes read, by byte 0

  read-either : (b : List ℕ) → is_some (read_slot f b) ≡ is_empty_record f b || is_record f b
  unfolding read_slot
  read-either b = by (is_empty_record f b) (is_record f b)
    where
      by : (z u : Bool) → is_some (cond z (some empty) (cond u (some (used (fields b))) none)) ≡ z || u
      by true u = refl
      by false true = refl
      by false false = refl

  pub read-unused : (b : List ℕ) → is_used b ≡ false → is_some (read_slot f b) ≡ is_empty_record f b
  read-unused b n =
      let other : is_record f b ≡ false = not-eq-not.0 (λ e. eqb-false (get_or b 0 0) 1 n (first-used b (is_record-true b e))) in
      read-either b ∙ rw other (or-false (is_empty_record f b))

  pub readable-zero : (b : List ℕ) → get_or b 0 0 ≡ 0 → is_some (read_slot f b) ≡ is_empty_record f b
  readable-zero b z = read-unused b (ne_eqb (get_or b 0 0) 1 (λ e. omega arith))

  pub readable-other : (b : List ℕ) → (get_or b 0 0 ≡ 0 → ⊥) → is_some (read_slot f b) ≡ is_record f b
  readable-other b n =
      read-either b ∙ rw (ne_same b (replicate (record_size f) 0) (λ e. n (ap (λ (l : List ℕ). get_or l 0 0) e ∙ zeros-first (record_size f))))

  pub read-used : (b : List ℕ) → is_used b ≡ true → is_some (read_slot f b) ≡ is_record f b
  read-used b u = readable-other b (λ z. omega (arith, eqb-true (get_or b 0 0) 1 u))

  -- ---- the slot of readable bytes, by byte 0

  module _ (b : List ℕ) (h : Readable f b) where
    -- they are an empty record or one in use
    cases : (read_slot f b ≡ some empty) ⊎ InUseOf f b
    cases = by (read_slot f b) refl h.read
      where
        by : (o : Option Slot) → read_slot f b ≡ o → is_some o ≡ true → (read_slot f b ≡ some empty) ⊎ InUseOf f b
        by none e t = never false t refl
        by (some empty) e t = inl e
        by (some (used r)) e t = inr (record { size = h.size; read = e ∙ ap {B = Option Slot} some (in-use-read_slot f b (used r) e refl) })

    first-empty : read_slot f b ≡ some empty → get_or b 0 0 ≡ 0
    first-empty e = ap (λ (l : List ℕ). get_or l 0 0) (sym (slot_bytes-read_slot f b empty e).bytes) ∙ zeros-first (record_size f)

    pub slot-zero : get_or b 0 0 ≡ 0 → as_slot f b ≡ empty
    slot-zero z = ⊎_elim (λ e. rw e) (λ u. absurd (omega (arith, first-used b (in-use-record b u)))) cases

    pub in-use-other : (get_or b 0 0 ≡ 0 → ⊥) → InUseOf f b
    in-use-other n = ⊎_elim (λ e. absurd (n (first-empty e))) (λ u. u) cases

    pub slot-first : not (is_empty (as_slot f b)) ≡ is_used b
    slot-first = ⊎_elim (λ e. rw (slot-zero (first-empty e), first-empty e)) (λ u. rw (u.read, first-used b (in-use-record b u))) cases

    pub used-in-use : is_used b ≡ true → InUseOf f b
    used-in-use u = in-use-other (λ z. omega (arith, eqb-true (get_or b 0 0) 1 u))

    pub slot-unused : is_used b ≡ false → as_slot f b ≡ empty
    slot-unused n = ⊎_elim (λ e. rw e) (λ u. absurd (eqb-false (get_or b 0 0) 1 n (first-used b (in-use-record b u)))) cases
