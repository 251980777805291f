-- Numbers of a type in words of 64 bits: masks, the ends of a range, and the sum that wraps.
use Rattle.std.proofs.Common.{◌≡◌, ℕ, suc, ◌+◌, ◌-◌, ◌*◌, ◌/◌, ◌%◌, ◌^◌, ◌<◌, ◌≤◌, true, false, ℤ, pos, negsuc, ◌+ℤ◌, ◌-ℤ◌, neg_ℤ, sym, ap, ◌∙◌, subst, mod-eq_of_lt, one-mul, arith, pow_pos, w64, SFits, of_z, ltb-true}
use native.Mathlib.Nat.{add-mod-mod}
use lib.Signed.{mag}
use lib.Bits.{bit_and, and_mask}
use lib.Pow.{pow-lt, high, ones_lt, ones_split}
use Rattle.model.specs.Number.{signed_limit}
use Rattle.model.specs.Field.{IntType, is_int_type, modulus, negatives, least, greatest, modulo, meaning}
use Rattle.model.proofs.Integers.{modulo-add, modulo-low}
use Rattle.model.proofs.Ranges.{ends, modulus-signed, meaning-fits, modulo-meaning, fits_signed}
use Rattle.number.proofs.Integers.{up, dn, back, back_is, up_neg, dn-neg, up-add, mag-add, parts-eq, neg-fits}

-- ---- masks

-- n ones without the low n - w are w ones
pub ones-shift : (n w : ℕ) → w ≤ n → (2 ^ n - 1) / 2 ^ (n - w) ≡ 2 ^ w - 1
ones-shift n w h =
    let k = n - w in
    let e : w + k ≡ n = omega arith in
    ap (λ (m : ℕ). (2 ^ m - 1) / 2 ^ k) (sym e) ∙ (ap (λ (x : ℕ). x / 2 ^ k) (ones_split w k) ∙ high (2 ^ w - 1) k (ones_lt k))

-- one shifted
pub one_shifted : (n : ℕ) → n < 64 → 1 * 2 ^ n % 2 ^ 64 ≡ 2 ^ n
one_shifted n h = ap (λ (p : ℕ). p % 2 ^ 64) (one-mul (2 ^ n)) ∙ mod-eq_of_lt (pow-lt {i = n} {j = 64} h)

-- the low bits of a number modulo 2^64 are those of the number
pub word_low : (z : ℤ) (w : ℕ) → w ≤ 64 → modulo z (2 ^ 64) % 2 ^ w ≡ modulo z (2 ^ w)
word_low z w h =
    let e : 64 - w + w ≡ 64 = omega arith in
    subst (λ (n : ℕ). modulo z (2 ^ n) % 2 ^ w ≡ modulo z (2 ^ w)) e (modulo-low z (64 - w) w)

-- the bits of a number of 64 bits
pub word_is : (z : ℤ) → SFits w64 z → of_z w64 z ≡ modulo z (2 ^ 64)
word_is (pos n) f = sym (mod-eq_of_lt {n = n} {m = 2 ^ 64} (omega (arith, f.sfits)))
word_is (negsuc n) f = ap (λ (k : ℕ). 2 ^ 64 - suc k) (sym (mod-eq_of_lt {n = n} {m = 2 ^ 64} (omega (arith, f.sfits))))

-- ---- numbers of 64 bits

-- what the machine reads back of a call's result
pub back-result : {r z : ℤ} → mag r < 2 ^ 63 → r ≡ z → back r ≡ z
back-result f e = back_is (record { sfits = f }) ∙ e

pub unsigned-none : (k : IntType) → k.signed ≡ false → negatives k ≡ 0
unsigned-none k s = rw s

module _ (k : IntType) (law : is_int_type k ≡ true) where
  -- what bits mean is an i64
  pub meaning-word : (x : ℕ) → x < modulus k → SFits w64 (meaning k x)
  meaning-word x h = let z = meaning k x in record { sfits = ltb-true (mag z) signed_limit (fits_signed k z law (meaning-fits k x h (ends k law).wide)) }

  -- ---- the ends of the range

  module _ (s : k.signed ≡ true) where
    pub twice : modulus k ≡ 2 * negatives k
    twice = modulus-signed k (ends k law).wide s

    -- minus the greatest number, less one, is the least
    minus : up (pos 0 -ℤ greatest k) + up (greatest k) ≡ dn (pos 0 -ℤ greatest k)
    minus = let g = greatest k in omega (arith, up-add (pos 0) (neg_ℤ g), up_neg g, dn-neg g)

    pub minus-fits : SFits w64 (pos 0 -ℤ greatest k)
    minus-fits =
        let g = greatest k in
        record { sfits = mag-add (pos 0) (neg_ℤ g) (2 ^ 63) (omega (arith, up_neg g, dn-neg g)) (omega (arith, up_neg g, dn-neg g, (ends k law).top)) }

    pub least-is : pos 0 -ℤ greatest k -ℤ pos 1 ≡ least k
    least-is =
        let z = pos 0 -ℤ greatest k in
        let n = pos (negatives k) in
        parts-eq (z -ℤ pos 1) (least k) (omega (arith, minus, up-add z (neg_ℤ (pos 1)), up_neg n, dn-neg n, twice, pow_pos k.width))

  pub least_fits : SFits w64 (least k)
  least_fits = neg-fits (negatives k) (ends k law).bottom

  -- ---- the sum that wraps

  -- a field's bits x and the word y, added with wrapping and reduced by the mask m, are the bits of the exact sum
  pub wrapped-bits : {m y s : ℕ} (x : ℕ) (by : ℤ) → x < modulus k → y ≡ modulo by (2 ^ 64) → s ≡ (x + y) % 2 ^ 64 → m ≡ modulus k - 1
      → bit_and s m ≡ modulo (meaning k x +ℤ by) (modulus k)
  wrapped-bits {y} {s} x by below ey es em =
      let w = k.width in
      let n = (ends k law).narrow in
      ap (bit_and s) em
      ∙ (and_mask s w
      ∙ (ap (λ (r : ℕ). r % modulus k) es
      ∙ (word_low (pos (x + y)) w n
      ∙ (ap (λ (r : ℕ). (x + r) % modulus k) ey
      ∙ (sym (add-mod-mod x (modulo by (2 ^ 64)) (modulus k))
      ∙ ((λ i. (sym (modulo-meaning k x below) i + word_low by w n i) % modulus k) ∙ sym (modulo-add (meaning k x) by (modulus k) (pow_pos w))))))))
