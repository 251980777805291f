-- Reading and writing fields: what is written is read, and nothing else changes.
use mathlib.Core.Path.{◌≡◌, refl, sym, ap, ◌∙◌, subst}
use mathlib.Core.Bool.{Bool, true, false}
use mathlib.Core.List.{List, [], ◌∷◌, ◌++◌}
use Prim.Native.Nat.{ℕ, zero, suc, ◌+◌, ◌-◌, ◌/◌, ◌%◌, ◌^◌, ◌≤◌, ◌<◌, max}
use native.Mathlib.Nat.{mod-eq_of_lt}
use native.Mathlib.Omega.{arith}
use lib.ListN.{length, get_or, replicate, length-append, length-replicate}
use lib.Seq.{sets, length-sets}
use lib.IntN.{ℤ}
use lib.Pow.{pow_pos}
use Rattle.model.specs.Bytes.{padded}
use Rattle.model.specs.Bits.{from_bits, to_bits, bits_of, bit_at, bits_at}
use Rattle.model.specs.Field.{modulus, fits, modulo, meaning, Field, end_bit, last_byte, field_bits, get_field, grown, set_field_bits, set_field}
use Rattle.model.proofs.Integers.{modulo-lt}
use Rattle.model.proofs.Ranges.{meaning-fits, meaning-modulo}
use Rattle.model.proofs.Bits.{Bytes, length-to_bits, length-bits_of, length-bytes_of, length-bits_at, from_bits-lt, from_bits-to_bits, bits_of-bytes_of, bytes_of-bytes, bit_at-byte, bits_at-same, bits_at-sets, get_d_sets_before, get_or-sets-behind}

-- ---- a value that grows

pub get_or-zeros : (n i : ℕ) → ◌≡◌ {A = ℕ} (get_or (replicate n 0) i 0) 0
get_or-zeros zero i = refl
get_or-zeros (suc n) zero = refl
get_or-zeros (suc n) (suc i) = get_or-zeros n i

get_or-more : (v : List ℕ) (n i : ℕ) → get_or (v ++ replicate n 0) i 0 ≡ get_or v i 0
get_or-more [] n i = get_or-zeros n i
get_or-more (b ∷ v) n zero = refl
get_or-more (b ∷ v) n (suc i) = get_or-more v n i

pub get_or-padded : (n : ℕ) (v : List ℕ) (i : ℕ) → get_or (padded n v) i 0 ≡ get_or v i 0
get_or-padded n v i = get_or-more v (n - length v) i

-- zeros at the end are the bits that were read there
pub bit_at-padded : (n : ℕ) (v : List ℕ) (i : ℕ) → bit_at i (bits_of (padded n v)) ≡ bit_at i (bits_of v)
bit_at-padded n v i =
    bit_at-byte (padded n v) i
    ∙ (ap (λ (b : ℕ). bit_at (i % 8) (to_bits 8 b)) (get_or-padded n v (i / 8)) ∙ sym (bit_at-byte v i))

pub length-padded-max : (n : ℕ) (v : List ℕ) → length (padded n v) ≡ max (length v) n
length-padded-max n v = omega (arith, length-append v (replicate (n - length v) 0), length-replicate {A = ℕ} (n - length v) 0)

module _ (f : Field) (v : List ℕ) where
  -- the field lies within the grown value
  pub end-grown : end_bit f ≤ length (bits_of (grown f v))
  end-grown = omega (arith, length-bits_of (grown f v), length-padded-max (suc (last_byte f)) v)

  -- ---- after a write

  module _ (x : ℕ) where
    pub bits_of-set_field_bits : bits_of (set_field_bits f x v) ≡ sets (bits_of (grown f v)) f.offset (to_bits f.type.width x)
    unfolding set_field_bits
    bits_of-set_field_bits =
        bits_of-bytes_of (length (grown f v)) (sets (bits_of (grown f v)) f.offset (to_bits f.type.width x))
        (length-sets (bits_of (grown f v)) f.offset (to_bits f.type.width x) ∙ length-bits_of (grown f v))

    pub length-set_field_bits : length (set_field_bits f x v) ≡ max (length v) (suc (last_byte f))
    unfolding set_field_bits
    length-set_field_bits = length-bytes_of (length (grown f v)) _ ∙ length-padded-max (suc (last_byte f)) v

    pub bytes-set_field_bits : Bytes (set_field_bits f x v)
    unfolding set_field_bits
    bytes-set_field_bits =
        bytes_of-bytes (length (grown f v)) (sets (bits_of (grown f v)) f.offset (to_bits f.type.width x))
        (length-sets (bits_of (grown f v)) f.offset (to_bits f.type.width x) ∙ length-bits_of (grown f v))

    -- no bit outside the field changes
    pub bit-before : (i : ℕ) → i < f.offset → bit_at i (bits_of (set_field_bits f x v)) ≡ bit_at i (bits_of v)
    bit-before i h =
        ap (bit_at i) bits_of-set_field_bits
        ∙ (get_d_sets_before (bits_of (grown f v)) f.offset (to_bits f.type.width x) i false h ∙ bit_at-padded (suc (last_byte f)) v i)

    pub bit-behind : (i : ℕ) → end_bit f ≤ i → bit_at i (bits_of (set_field_bits f x v)) ≡ bit_at i (bits_of v)
    bit-behind i h =
        ap (bit_at i) bits_of-set_field_bits
        ∙ (get_or-sets-behind (bits_of (grown f v)) f.offset (to_bits f.type.width x) i false (omega (arith, length-to_bits f.type.width x))
        ∙ bit_at-padded (suc (last_byte f)) v i)

    -- the field holds the low bits of what was written
    pub field_bits-set_field_bits : field_bits f (set_field_bits f x v) ≡ x % modulus f.type
    unfolding field_bits
    field_bits-set_field_bits =
        let w = f.type.width in
        let l = length-to_bits w x in
        ap (λ (bs : List Bool). from_bits (bits_at f.offset w bs)) bits_of-set_field_bits
        ∙ (ap (λ (n : ℕ). from_bits (bits_at f.offset n (sets (bits_of (grown f v)) f.offset (to_bits w x)))) (sym l)
        ∙ (ap from_bits (bits_at-sets (bits_of (grown f v)) f.offset (to_bits w x) (omega (arith, end-grown)))
        ∙ from_bits-to_bits w x))

-- ---- numbers in fields

pub field_bits-lt : (f : Field) (v : List ℕ) → field_bits f v < modulus f.type
unfolding field_bits
field_bits-lt f v =
    let bs = bits_at f.offset f.type.width (bits_of v) in
    subst (λ (n : ℕ). from_bits bs < 2 ^ n) (length-bits_at f.offset f.type.width (bits_of v)) (from_bits-lt bs)

-- what is read fits
pub get_field-fits : (f : Field) (v : List ℕ) → 1 ≤ f.type.width → fits f.type (get_field f v) ≡ true
get_field-fits f v w = meaning-fits f.type (field_bits f v) (field_bits-lt f v) w

-- what was written is read
pub get_field-set_field : (f : Field) (z : ℤ) (v : List ℕ) → 1 ≤ f.type.width → fits f.type z ≡ true → get_field f (set_field f z v) ≡ z
get_field-set_field f z v w e =
    let k = f.type in
    let m = modulo z (modulus k) in
    ap (meaning k) (field_bits-set_field_bits f v m ∙ mod-eq_of_lt (modulo-lt z (modulus k) (pow_pos k.width))) ∙ meaning-modulo k z w e

-- the length after a write
pub length-set_field : (f : Field) (z : ℤ) (v : List ℕ) → length (set_field f z v) ≡ max (length v) (suc (last_byte f))
length-set_field f z v = length-set_field_bits f v (modulo z (modulus f.type))

-- two fields with no bit in common
pub data Apart (f g : Field) : Type 0 where
  before : end_bit f ≤ g.offset → Apart f g
  behind : end_bit g ≤ f.offset → Apart f g

-- another field keeps its bits
pub field_bits-other : (f g : Field) (x : ℕ) (v : List ℕ) → Apart f g → field_bits g (set_field_bits f x v) ≡ field_bits g v
unfolding field_bits
field_bits-other f g x v (before h) =
    ap from_bits (bits_at-same g.offset g.offset g.type.width (bits_of (set_field_bits f x v)) (bits_of v) (λ j l. bit-behind f v x (g.offset + j) (omega arith)))
field_bits-other f g x v (behind h) =
    ap from_bits (bits_at-same g.offset g.offset g.type.width (bits_of (set_field_bits f x v)) (bits_of v) (λ j l. bit-before f v x (g.offset + j) (omega arith)))

pub get_field-other : (f g : Field) (z : ℤ) (v : List ℕ) → Apart f g → get_field g (set_field f z v) ≡ get_field g v
get_field-other f g z v a = ap (meaning g.type) (field_bits-other f g (modulo z (modulus f.type)) v a)
