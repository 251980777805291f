-- The range of a field, over sign and width at once, and two's complement both ways.
use mathlib.Core.Path.{◌≡◌, refl, sym, ap, ◌∙◌}
use mathlib.Core.Bool.{Bool, true, false, cond, ◌&&◌}
use Prim.Native.Nat.{ℕ, zero, suc, ◌+◌, ◌-◌, ◌*◌, ◌^◌, ◌≤◌, ◌<◌}
use native.Mathlib.Nat.{mod-eq_of_lt, pow-succ'}
use native.Mathlib.Omega.{arith}
use lib.Dec.{leb, ltb}
use lib.IntN.{ℤ, pos, negsuc, ◌+ℤ◌}
use lib.Signed.{le_z}
use lib.Pow.{pow_pos, pow-lt, pow_mono}
use borrow.Author.Tests.{leb-true, ltb-true, ltb-false, lt-ltb}
use Rattle.model.proofs.Basics.{never, and_left, and_right}
use Rattle.model.specs.Number.{is_signed, signed_limit}
use Rattle.model.specs.Field.{IntType, is_int_type, modulus, negatives, least, greatest, fits, modulo, meaning}
use Rattle.model.proofs.Integers.{up, dn, le-true, true-le, up_neg, dn-neg, up-add, one-part, parts-eq}

pub type-wide : (k : IntType) → is_int_type k ≡ true → 1 ≤ k.width
type-wide k e = leb-true 1 k.width (and_left (leb 1 k.width) _ e)

-- all that the laws need to know of sign and width
pub negatives-lt : (k : IntType) → 1 ≤ k.width → negatives k < modulus k
negatives-lt k h = go k.signed
  where
    go : (b : Bool) → cond b (2 ^ (k.width - 1)) 0 < 2 ^ k.width
    go true = pow-lt {i = k.width - 1} {j = k.width} (omega arith)
    go false = pow_pos k.width

-- a number that fits, as facts on naturals
pub record Ranged (k : IntType) (z : ℤ) : Type 0 where
  pub bottom : dn z ≤ negatives k
  pub top : up z + negatives k < modulus k

pub fits-range : (k : IntType) (z : ℤ) → 1 ≤ k.width → fits k z ≡ true → Ranged k z
fits-range k z w e =
    let n = negatives-lt k w in
    let lo = le-true (least k) z (and_left (le_z (least k) z) (le_z z (greatest k)) e) in
    let hi = le-true z (greatest k) (and_right (le_z (least k) z) (le_z z (greatest k)) e) in
    let a = up_neg (pos (negatives k)) in
    let b = dn-neg (pos (negatives k)) in
    one-part z (λ p. record { bottom = omega arith; top = omega arith }) (λ p. record { bottom = omega arith; top = omega arith })

pub range-fits : (k : IntType) (z : ℤ) → Ranged k z → fits k z ≡ true
range-fits k z r =
    both (le_z (least k) z) (le_z z (greatest k))
    (true-le (least k) z (omega (arith, r.bottom, up_neg (pos (negatives k)), dn-neg (pos (negatives k)))))
    (true-le z (greatest k) (omega (arith, r.top)))
  where
    both : (a b : Bool) → a ≡ true → b ≡ true → a && b ≡ true
    both a b p q = rw (p, q)

-- ---- two's complement

pub by-meaning : (P : ℤ → Type 0) (k : IntType) (x : ℕ) → (x < modulus k - negatives k → P (pos x)) → (modulus k - negatives k ≤ x → P (negsuc (modulus k - suc x)))
    → P (meaning k x)
unfolding meaning
by-meaning P k x f g = go (ltb x (modulus k - negatives k)) refl
  where
    go : (b : Bool) → ltb x (modulus k - negatives k) ≡ b → P (cond b (pos x) (negsuc (modulus k - suc x)))
    go true e = f (ltb-true x (modulus k - negatives k) e)
    go false e = g (ltb-false x (modulus k - negatives k) e)

-- a number below the half is itself
pub meaning-pos : (k : IntType) (n : ℕ) → n + negatives k < modulus k → meaning k n ≡ pos n
meaning-pos k n h = by-meaning (λ (z : ℤ). z ≡ pos n) k n (λ l. refl) (λ l. absurd (omega arith))

meaning-neg : (k : IntType) (n : ℕ) → suc n ≤ negatives k → negatives k < modulus k → meaning k (modulus k - suc n) ≡ negsuc n
meaning-neg k n h l = by-meaning (λ (z : ℤ). z ≡ negsuc n) k (modulus k - suc n) (λ c. absurd (omega arith)) (λ c. ap negsuc (omega arith))

pub modulus-signed : (k : IntType) → 1 ≤ k.width → k.signed ≡ true → modulus k ≡ 2 * negatives k
modulus-signed k w s = go k.signed k.width s w
  where
    less : (n : ℕ) → suc n - 1 ≡ n
    less n = omega arith

    go : (b : Bool) (w : ℕ) → b ≡ true → 1 ≤ w → 2 ^ w ≡ 2 * cond b (2 ^ (w - 1)) 0
    go b zero e h = absurd (omega arith)
    go true (suc n) e h = pow-succ' 2 n ∙ ap (λ (m : ℕ). 2 * 2 ^ m) (sym (less n))
    go false (suc n) e h = never false e refl

-- the sign extended, with no number past 64 bits: from the half on, what is left above it counts from the least number
pub meaning-signed : (k : IntType) (x : ℕ) → 1 ≤ k.width → k.signed ≡ true → negatives k ≤ x → x < modulus k → meaning k x ≡ pos (x - negatives k) +ℤ least k
meaning-signed k x w s h l =
    let d = modulus-signed k w s in
    by-meaning (λ (z : ℤ). z ≡ pos (x - negatives k) +ℤ least k) k x
    (λ c. absurd (omega arith))
    (λ c.
    parts-eq (negsuc (modulus k - suc x)) (pos (x - negatives k) +ℤ least k)
    (omega (arith, up-add (pos (x - negatives k)) (least k), up_neg (pos (negatives k)), dn-neg (pos (negatives k)))))

-- a number that fits comes back from its bits
pub meaning-modulo : (k : IntType) (z : ℤ) → 1 ≤ k.width → fits k z ≡ true → meaning k (modulo z (modulus k)) ≡ z
meaning-modulo k (pos n) w e =
    let r = fits-range k (pos n) w e in
    ap (meaning k) (mod-eq_of_lt {n = n} {m = modulus k} (omega (arith, r.top))) ∙ meaning-pos k n r.top
meaning-modulo k (negsuc n) w e =
    let r = fits-range k (negsuc n) w e in
    let l = negatives-lt k w in
    ap (λ (m : ℕ). meaning k (modulus k - suc m)) (mod-eq_of_lt {n = n} {m = modulus k} (omega (arith, r.bottom))) ∙ meaning-neg k n r.bottom l

module _ (k : IntType) (x : ℕ) (below : x < modulus k) where
  -- what bits mean fits
  pub meaning-fits : 1 ≤ k.width → fits k (meaning k x) ≡ true
  meaning-fits w =
      let n = negatives-lt k w in
      range-fits k (meaning k x)
      (by-meaning (Ranged k) k x (λ l. record { bottom = omega arith; top = omega arith }) (λ l. record { bottom = omega arith; top = omega arith }))

  -- and has those bits
  pub modulo-meaning : modulo (meaning k x) (modulus k) ≡ x
  modulo-meaning =
      by-meaning (λ (z : ℤ). modulo z (modulus k) ≡ x) k x
      (λ l. mod-eq_of_lt below)
      (λ l. ap (λ (m : ℕ). modulus k - suc m) (mod-eq_of_lt {n = modulus k - suc x} {m = modulus k} (omega arith)) ∙ omega arith)

-- ---- what fits is a number of 64 bits

-- a type's ends are numbers of 64 bits
pub record Ends (k : IntType) : Type 0 where
  pub wide : 1 ≤ k.width
  pub narrow : k.width ≤ 64
  pub bottom : negatives k ≤ 2 ^ 63
  pub top : modulus k ≤ 2 ^ 63 + negatives k

pub ends : (k : IntType) → is_int_type k ≡ true → Ends k
ends k e =
    let lo = type-wide k e in
    let b = go k.signed k.width lo (and_right (leb 1 k.width) _ e) in
    record { wide = lo; narrow = b.0; bottom = b.1; top = b.2 }
  where
    less : (n : ℕ) → suc n - 1 ≡ n
    less n = omega arith

    go : (b : Bool) (w : ℕ) → 1 ≤ w → leb w (cond b 64 63) ≡ true → (w ≤ 64) × (cond b (2 ^ (w - 1)) 0 ≤ 2 ^ 63) × (2 ^ w ≤ 2 ^ 63 + cond b (2 ^ (w - 1)) 0)
    go b zero l e = absurd (omega arith)
    go true (suc n) l e =
        let m = leb-true (suc n) 64 e in
        let p : 2 ^ n ≤ 2 ^ 63 = pow_mono {i = n} {j = 63} (omega arith) in
        let q : 2 ^ (suc n - 1) ≡ 2 ^ n = ap (λ (x : ℕ). 2 ^ x) (less n) in
        let s = pow-succ' 2 n in
        (m, omega arith, omega arith)
    go false (suc n) l e = let m = leb-true (suc n) 63 e in let p : 2 ^ suc n ≤ 2 ^ 63 = pow_mono {i = suc n} {j = 63} m in (omega arith, omega arith, omega arith)

signed_by : (z : ℤ) → up z < 2 ^ 63 → dn z ≤ 2 ^ 63 → is_signed z ≡ true
signed_by (pos n) p q = lt-ltb n signed_limit p
signed_by (negsuc n) p q = lt-ltb n signed_limit q

pub fits_signed : (k : IntType) (z : ℤ) → is_int_type k ≡ true → fits k z ≡ true → is_signed z ≡ true
fits_signed k z law f =
    let e = ends k law in
    let r = fits-range k z e.wide f in
    signed_by z (omega (arith, e.top, r.top)) (omega (arith, e.bottom, r.bottom))
