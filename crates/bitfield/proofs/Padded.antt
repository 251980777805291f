-- A value with zeros after it: a field is read from it as from the value, and written to it as to the value.
use mathlib.Core.Path.{◌≡◌, refl, sym, ap, ◌∙◌}
use mathlib.Core.Bool.{Bool, false, true}
use mathlib.Core.List.{List}
use Prim.Native.Nat.{ℕ, suc, ◌+◌, ◌-◌, ◌*◌, ◌/◌, ◌≤◌, ◌<◌, max}
use native.Mathlib.Nat.{zero-add}
use native.Mathlib.Omega.{arith}
use lib.ListN.{length, take, replicate}
use lib.Seq.{ext_get_or, take_at}
use lib.Dec.{leb, ltb}
use lib.IntN.{ℤ}
use borrow.Author.Tests.{ltb-true, ltb-false, leb-true, leb-false}
use Rattle.model.specs.Bytes.{padded, written}
use Rattle.model.specs.Bits.{from_bits, to_bits, bits_of, bit_at}
use Rattle.model.specs.Field.{is_int_type, modulus, modulo, Field, end_bit, last_byte, field_bits, grown, set_field_bits, set_field}
use Rattle.model.proofs.Bits.{length-to_bits, length-bits_of, bits_at-same, bits_of-eq, get_or-sets-in}
use Rattle.model.proofs.Fields.{get_or-padded, bit_at-padded, length-padded-max, end-grown, bits_of-set_field_bits, length-set_field_bits, bytes-set_field_bits, bit-before, bit-behind, length-set_field}
use Rattle.model.proofs.Ranges.{type-wide}
use Rattle.slice.proofs.Written.{drop-replicate}
use Rattle.bitfield.specs.Run.{Holds, Clean}

-- ---- the value in a buffer

pub take-padded : (n : ℕ) (v : List ℕ) → take (length v) (padded n v) ≡ v
take-padded n v = take_at v (replicate (n - length v) 0) (length v) refl

module _ {v : List ℕ} {n : ℕ} {b : List ℕ} {len : ℕ} (h : Holds v n b len) where
  -- it is the buffer's front
  pub front : take len b ≡ v
  front = ap (λ (m : ℕ). take m b) h.size ∙ (ap (take (length v)) h.bytes ∙ take-padded n v)

  pub length-held : length b ≡ n
  length-held = ap length h.bytes ∙ (length-padded-max n v ∙ omega (arith, h.within))

  pub held-clean : n ≤ 128 → Clean b len
  held-clean s = record { holds = rw (front, length-held) h; small = omega (arith, length-held) }

-- a buffer of zeros holds what is written over its front
pub holds-copy : {b after s : List ℕ} → b ≡ replicate (length b) 0 → length s ≤ length b → after ≡ written 0 s b → Holds s (length b) after (length s)
holds-copy {b} {after} {s} z h e =
    record { bytes = e ∙ (ap (written 0 s) z ∙ rw (drop-replicate (0 + length s) (length b) 0, zero-add)); size = refl; within = h }

-- ---- fields

pub field_bits-padded : (f : Field) (n : ℕ) (v : List ℕ) → field_bits f (padded n v) ≡ field_bits f v
unfolding field_bits
field_bits-padded f n v =
    ap from_bits (bits_at-same f.offset f.offset f.type.width (bits_of (padded n v)) (bits_of v) (λ j l. bit_at-padded n v (f.offset + j)))

-- bit j of a field that was written
bit_in : (f : Field) (v : List ℕ) (x j : ℕ) → j < f.type.width → bit_at (f.offset + j) (bits_of (set_field_bits f x v)) ≡ bit_at j (to_bits f.type.width x)
bit_in f v x j h =
    let l = length-to_bits f.type.width x in
    ap (bit_at (f.offset + j)) (bits_of-set_field_bits f v x)
    ∙ get_or-sets-in (bits_of (grown f v)) f.offset (to_bits f.type.width x) j false (omega (arith, end-grown f v)) (omega arith)

module _ (f : Field) (n x : ℕ) (v : List ℕ) (inside : end_bit f ≤ 8 * n) (wide : 1 ≤ f.type.width) (short : length v ≤ n) where
  -- a bit before the field, in it or behind it
  same_bit : (i : ℕ) (before behind : Bool) → ltb i f.offset ≡ before → leb (end_bit f) i ≡ behind
      → bit_at i (bits_of (set_field_bits f x (padded n v))) ≡ bit_at i (bits_of (padded n (set_field_bits f x v)))
  same_bit i true behind p q =
      let h = ltb-true i f.offset p in
      bit-before f (padded n v) x i h ∙ (bit_at-padded n v i ∙ (sym (bit-before f v x i h) ∙ sym (bit_at-padded n (set_field_bits f x v) i)))
  same_bit i false true p q =
      let h = leb-true (end_bit f) i q in
      bit-behind f (padded n v) x i h ∙ (bit_at-padded n v i ∙ (sym (bit-behind f v x i h) ∙ sym (bit_at-padded n (set_field_bits f x v) i)))
  same_bit i false false p q =
      let lo = ltb-false i f.offset p in
      let hi = leb-false (end_bit f) i q in
      let e : i ≡ f.offset + (i - f.offset) = omega arith in
      let l : i - f.offset < f.type.width = omega arith in
      ap (λ (m : ℕ). bit_at m (bits_of (set_field_bits f x (padded n v)))) e
      ∙ (bit_in f (padded n v) x (i - f.offset) l
      ∙ (sym (bit_in f v x (i - f.offset) l)
      ∙ (ap (λ (m : ℕ). bit_at m (bits_of (set_field_bits f x v))) (sym e) ∙ sym (bit_at-padded n (set_field_bits f x v) i))))

  pub set_field_bits-padded : set_field_bits f x (padded n v) ≡ padded n (set_field_bits f x v)
  set_field_bits-padded =
      let last : suc (last_byte f) ≤ n = omega arith in
      let a = length-set_field_bits f (padded n v) x in
      let b = length-set_field_bits f v x in
      let c = length-padded-max n v in
      let d = length-padded-max n (set_field_bits f x v) in
      bits_of-eq (set_field_bits f x (padded n v)) (padded n (set_field_bits f x v)) (bytes-set_field_bits f (padded n v) x)
      (λ i. rw (get_or-padded n (set_field_bits f x v) i) (bytes-set_field_bits f v x i))
      (ext_get_or false (bits_of (set_field_bits f x (padded n v))) (bits_of (padded n (set_field_bits f x v)))
      (omega (arith, length-bits_of (set_field_bits f x (padded n v)), length-bits_of (padded n (set_field_bits f x v))))
      (λ i l. same_bit i (ltb i f.offset) (leb (end_bit f) i) refl refl))

-- what writing a number into a field of a buffer leaves
pub set_holds : {b after : List ℕ} {len r : ℕ} (f : Field) → Clean b len → is_int_type f.type ≡ true → end_bit f ≤ 8 * length b → (z : ℤ)
    → after ≡ set_field_bits f (modulo z (modulus f.type)) b → r ≡ max len ((end_bit f - 1) / 8 + 1) → Holds (set_field f z (take len b)) (length b) after r
set_holds {b} {after} {len} {r} f c w t z e q =
    let h = c.holds in
    let n = length b in
    let v = take len b in
    let x = modulo z (modulus f.type) in
    let l = length-set_field f z v in
    record {
      bytes = e ∙ (ap (set_field_bits f x) h.bytes ∙ set_field_bits-padded f n x v t (type-wide f.type w) h.within);
      size = q ∙ omega (arith, h.size);
      within = omega (arith, t, type-wide f.type w, h.within);
    }
