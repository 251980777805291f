-- Laws of the model's decimal text.
-- Assumes nothing.
use mathlib.Core.Path.{◌≡◌, refl, ap, ◌∙◌}
use mathlib.Core.Bool.{Bool, true, false, cond}
use mathlib.Core.List.{List, [], ◌∷◌, ◌++◌, append_assoc}
use Prim.Native.Nat.{ℕ, zero, suc, ◌+◌, ◌/◌, ◌%◌, ◌^◌, ◌≤◌, ◌<◌}
use native.Mathlib.Nat.{pow-succ', one-le-pow}
use native.Mathlib.Omega.{arith}
use lib.Dec.{ltb}
use lib.ListN.{length, length-append}
use borrow.Author.Tests.{lt-ltb, le-ltb}
use Rattle.model.specs.Number.{digits, nat_text}
use Rattle.model.proofs.Numbers.{by_digits}

-- ---- decimal text

-- the digits stand before what follows them
before-by : (x : ℕ) (a b s : List ℕ) (t : Bool) → a ≡ b ++ s → cond t ((48 + x) ∷ s) a ≡ cond t ((48 + x) ∷ []) b ++ s
before-by x a b s true e = refl
before-by x a b s false e = e

digits-before : (f x : ℕ) (s : List ℕ) → digits f x s ≡ digits f x [] ++ s
digits-before zero x s = refl
digits-before (suc f) x s =
    before-by x _ _ s (ltb x 10)
    (rw (digits-before f (x / 10) ((48 + x % 10) ∷ s), digits-before f (x / 10) ((48 + x % 10) ∷ [])) (simp append_assoc))

-- t is the text of x
pub record Text (x : ℕ) (t : List ℕ) : Type 0 where
  fuel : ℕ
  low : x < 10 ^ suc fuel
  is : t ≡ digits (suc fuel) x []

pub text_of : (n : ℕ) → n < 2 ^ 64 → Text n (nat_text n)
unfolding nat_text
text_of n h = record { fuel = 19; low = omega arith; is = refl }

-- a text of one digit
pub one-digit : {x : ℕ} {t : List ℕ} → Text x t → x < 10 → t ≡ (48 + x) ∷ []
one-digit {x} r h = r.is ∙ rw (lt-ltb x 10 h)

-- a text of more: the last digit stands after the text of the tenth part
pub record Split (x : ℕ) (t : List ℕ) : Type 0 where
  pub front : List ℕ
  pub text : Text (x / 10) front
  pub is : t ≡ front ++ ((48 + x % 10) ∷ [])

split_by : (f x : ℕ) → 10 ≤ x → x < 10 ^ suc f → Split x (digits (suc f) x [])
split_by zero x h l = absurd (omega arith)
split_by (suc f) x h l =
    record {
      front = digits (suc f) (x / 10) [];
      text = record { fuel = f; low = omega (arith, pow-succ' 10 (suc f)); is = refl };
      is = rw (le-ltb x 10 h) (digits-before (suc f) (x / 10) ((48 + x % 10) ∷ []));
    }

pub split : {x : ℕ} {t : List ℕ} → Text x t → 10 ≤ x → Split x t
split {x} r h = rw r.is (split_by r.fuel x h r.low)

-- a text has a digit
digits-some : (f x : ℕ) (s : List ℕ) → length s ≤ length (digits f x s)
digits-some f x s = rw (digits-before f x s, length-append) (omega arith)

pub text-some : {x : ℕ} {t : List ℕ} → Text x t → 1 ≤ length t
text-some {x} r =
    rw r.is (by_digits (λ (l : List ℕ). 1 ≤ length l) r.fuel x [] (λ l. omega arith) (λ l. digits-some r.fuel (x / 10) ((48 + x % 10) ∷ [])))

-- a power of ten bounds the length
pub text-longer : (k : ℕ) {x : ℕ} {t : List ℕ} → Text x t → 10 ^ k ≤ x → k < length t
text-longer zero r h = text-some r
text-longer (suc k) {x} r h =
    let e = pow-succ' 10 k in
    let p = split r (omega (arith, one-le-pow k 10 (omega arith))) in
    omega (arith, text-longer k p.text (omega arith), simp length-append at (ap length p.is))
