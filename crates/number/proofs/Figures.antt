-- Digits by powers of ten, from the first on, and that the model's text has these digits.
-- Assumes nothing.
use mathlib.Core.Path.{◌≡◌, sym, ap, ◌∙◌}
use mathlib.Core.List.{List, [], ◌∷◌, ◌++◌}
use Prim.Native.Nat.{ℕ, zero, suc, ◌+◌, ◌*◌, ◌/◌, ◌%◌, ◌^◌, ◌≤◌, ◌<◌}
use native.Mathlib.Nat.{pow-suc, pow-succ', pow-le-pow_right, one-le-pow, lt_of_not-le, mul_assoc, mod-add-div, mod-lt, mod-eq_of_lt, mod-mod_of_dvd, dvd-mul_right, div-one, div-lt_iff_lt-mul, add-mul-div_left, add-mul-mod_self_left, div-div-eq-div-mul}
use native.Mathlib.Omega.{arith}
use lib.ListN.{length, length-append}
use Rattle.number.proofs.Writing.{Text, one-digit, split, text-some, text-longer}

-- the lower power has the lower exponent
pub exponent_lt : (a b : ℕ) → 10 ^ a < 10 ^ b → a < b
exponent_lt a b l = lt_of_not-le (λ h. omega (arith, l, pow-le-pow_right {n = 10} (omega arith) {i = b} {j = a} h))

pub exponent-le : (a b : ℕ) → 10 ^ a ≤ 10 ^ b → a ≤ b
exponent-le a b l = omega (arith, exponent_lt a (suc b) (omega (arith, l, pow-suc 10 b, one-le-pow b 10 (omega arith))))

-- x, which is below 10 ^ m, in m digits: each is how often its power of ten can be taken away
abbrev pub figures : (m x : ℕ) → List ℕ
figures zero x = []
figures (suc m) x = (48 + x / 10 ^ m) ∷ figures m (x % 10 ^ m)

-- the first of them, at its power
pub figures-first : (m x : ℕ) {p : ℕ} → p ≡ 10 ^ m → figures (suc m) x ≡ (48 + x / p) ∷ figures m (x % p)
figures-first m x e = rw e

-- a tenth of what is left below ten times a power is what is left of the tenth part below the power
tenth-left : (p x : ℕ) → 0 < p → x % (10 * p) / 10 ≡ x / 10 % p
tenth-left p x h =
    let r = x % (10 * p) in
    let q = x / (10 * p) in
    let whole : r + 10 * (p * q) ≡ x = simp mul_assoc at (mod-add-div x (10 * p)) in
    let low : r / 10 < p = (div-lt_iff_lt-mul {k = 10} {x = r} {y = p} (omega arith)).1 (omega (arith, mod-lt x {m = 10 * p} (omega arith))) in
    sym (ap (λ (y : ℕ). y / 10 % p) (sym whole) ∙ ap (λ (y : ℕ). y % p) (add-mul-div_left r (p * q) {y = 10} (omega arith))
    ∙ add-mul-mod_self_left (r / 10) p q ∙ mod-eq_of_lt low)

-- the last digit stands after those of the tenth part
figures-last : (m x : ℕ) → x < 10 ^ suc m → figures (suc m) x ≡ figures m (x / 10) ++ ((48 + x % 10) ∷ [])
figures-last zero x h = ap (λ (y : ℕ). (48 + y) ∷ []) (div-one x ∙ sym (mod-eq_of_lt h))
figures-last (suc m) x h =
    let p = 10 ^ m in
    let e = pow-succ' 10 m in
    let some = one-le-pow m 10 (omega arith) in
    let rest : figures (suc m) (x % (10 * p)) ≡ figures m (x / 10 % p) ++ ((48 + x % 10) ∷ []) =
    figures-last m (x % (10 * p)) (omega (arith, e, mod-lt x {m = 10 * p} (omega arith)))
    ∙ (λ i. figures m (tenth-left p x some i) ++ ((48 + mod-mod_of_dvd 10 x (dvd-mul_right 10 p) i) ∷ [])) in
    rw e (λ i. (48 + sym (div-div-eq-div-mul x 10 p) i) ∷ rest i)

-- a number is below the power of ten that the length of its text says
pub text-low : {x : ℕ} {t : List ℕ} → Text x t → x < 10 ^ length t
text-low {x} {t} r = lt_of_not-le (λ h. omega (arith, text-longer (length t) r h))

-- the text of a number has its digits by powers of ten: the two readings agree
pub text-figures : (m : ℕ) {x : ℕ} {t : List ℕ} → length t ≡ m → Text x t → t ≡ figures m x
text-figures zero e r = absurd (omega (arith, text-some r))
text-figures (suc zero) {x} e r = one-digit r (rw e at (text-low r)) ∙ ap (λ (y : ℕ). (48 + y) ∷ []) (sym (div-one x))
text-figures (suc (suc m)) {x} {t} e r =
    let long : 9 < x = lt_of_not-le (λ h. omega (arith, ap length (one-digit r (omega (arith, h))))) in
    let p = split r long in
    let front = text-figures (suc m) (omega (arith, simp length-append at (ap length p.is))) p.text in
    p.is ∙ ap (λ (s : List ℕ). s ++ ((48 + x % 10) ∷ [])) front ∙ sym (figures-last (suc m) x (rw e at (text-low r)))
