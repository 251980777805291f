-- Signed numbers of 64 bits by the two naturals of which they are the difference, as the model has them.
use mathlib.Core.Path.{◌≡◌, refl}
use Prim.Native.Nat.{ℕ, zero, suc, ◌+◌, ◌^◌, ◌≤◌, ◌<◌}
use native.Mathlib.Omega.{arith}
use lib.IntN.{ℤ, pos, negsuc, neg_ℤ, nat_abs, ◌+ℤ◌}
use lib.Signed.{mag}
use mir.Syntax.{w64}
use mir.Val.{SFits, to_z, of_z}
use mir.Facts.{to_z-of_z}
pub use Rattle.model.proofs.Integers.{up, dn, lt-true, lt-false, up-add, up_neg, dn-neg, parts-eq}

-- what holds of either sign where the parts make the sum holds of the sum
pub by-sum : (P : ℤ → Type 0) (a b : ℤ) → ((n : ℕ) → n + (dn a + dn b) ≡ up a + up b → P (pos n)) → ((n : ℕ) → dn a + dn b ≡ suc n + (up a + up b) → P (negsuc n))
    → P (a +ℤ b)
by-sum P a b f g = go (a +ℤ b) (up-add a b)
  where
    go : (z : ℤ) → up z + (dn a + dn b) ≡ dn z + (up a + up b) → P z
    go (pos n) e = f n (omega arith)
    go (negsuc n) e = g n (omega arith)

-- a sum is in a range
pub mag-add : (a b : ℤ) (h : ℕ) → up a + up b < h + (dn a + dn b) → dn a + dn b ≤ h + (up a + up b) → mag (a +ℤ b) < h
mag-add a b h x y = by-sum (λ (z : ℤ). mag z < h) a b (λ n e. omega arith) (λ n e. omega arith)

-- a signed local holds bits: what the machine reads back of z
abbrev pub back : ℤ → ℤ
back z = to_z w64 (of_z w64 z)

pub back_is : {z : ℤ} → SFits w64 z → back z ≡ z
back_is f = to_z-of_z {w = w64} f

pub fits-of : (z : ℤ) → up z < 2 ^ 63 → dn z ≤ 2 ^ 63 → SFits w64 z
fits-of (pos n) x y = record { sfits = x }
fits-of (negsuc n) x y = record { sfits = y }

pub abs_neg : (m : ℕ) → nat_abs (neg_ℤ (pos m)) ≡ m
abs_neg zero = refl
abs_neg (suc m) = refl

-- minus m is an i64
pub neg-fits : (m : ℕ) → m ≤ 2 ^ 63 → SFits w64 (neg_ℤ (pos m))
neg-fits m h = fits-of (neg_ℤ (pos m)) (omega (arith, up_neg (pos m))) (omega (arith, dn-neg (pos m)))
