-- Signed numbers as differences of two naturals of which one is 0, so that `omega` can do the rest; and numbers modulo m.
use mathlib.Core.Path.{◌≡◌, refl, sym, ap, ◌∙◌}
use mathlib.Core.Bool.{Bool, true, false, cond}
use Prim.Native.Nat.{ℕ, zero, suc, ◌+◌, ◌-◌, ◌*◌, ◌/◌, ◌%◌, ◌^◌, ◌≤◌, ◌<◌}
use native.Mathlib.Nat.{mod-lt, mod-eq_of_lt, add-mod, mod-add-mod, add-mul-mod_self_right, mul-suc, div-add-mod'}
use native.Mathlib.Omega.{arith}
use lib.Pow.{pow_pos, mod-mod-pow}
use lib.Dec.{ltb}
use lib.IntN.{ℤ, pos, negsuc, neg_ℤ, ◌+ℤ◌, ◌*ℤ◌}
use lib.Signed.{lt_z, le_z}
use borrow.Author.Tests.{ltb-true, ltb-false, leb-true, le-leb, lt-ltb, le-ltb}
use Rattle.model.proofs.Basics.{never}
use Rattle.model.specs.Field.{modulo}

-- z is `up z - dn z`
abbrev pub up : ℤ → ℕ
up (pos n) = n
up (negsuc n) = 0

abbrev pub dn : ℤ → ℕ
dn (pos n) = 0
dn (negsuc n) = suc n

-- ---- order

pub lt-true : (a b : ℤ) → lt_z a b ≡ true → up a + dn b < up b + dn a
lt-true (pos a) (pos b) e = omega (arith, ltb-true a b e)
lt-true (pos a) (negsuc b) e = never false e refl
lt-true (negsuc a) (pos b) e = omega arith
lt-true (negsuc a) (negsuc b) e = omega (arith, ltb-true b a e)

pub lt-false : (a b : ℤ) → lt_z a b ≡ false → up b + dn a ≤ up a + dn b
lt-false (pos a) (pos b) e = omega (arith, ltb-false a b e)
lt-false (pos a) (negsuc b) e = omega arith
lt-false (negsuc a) (pos b) e = never true refl e
lt-false (negsuc a) (negsuc b) e = omega (arith, ltb-false b a e)

pub true-lt : (a b : ℤ) → up a + dn b < up b + dn a → lt_z a b ≡ true
true-lt (pos a) (pos b) h = lt-ltb a b (omega arith)
true-lt (pos a) (negsuc b) h = absurd (omega arith)
true-lt (negsuc a) (pos b) h = refl
true-lt (negsuc a) (negsuc b) h = lt-ltb b a (omega arith)

pub false-lt : (a b : ℤ) → up b + dn a ≤ up a + dn b → lt_z a b ≡ false
false-lt (pos a) (pos b) h = le-ltb a b (omega arith)
false-lt (pos a) (negsuc b) h = refl
false-lt (negsuc a) (pos b) h = absurd (omega arith)
false-lt (negsuc a) (negsuc b) h = le-ltb b a (omega arith)

pub le-true : (a b : ℤ) → le_z a b ≡ true → up a + dn b ≤ up b + dn a
le-true (pos a) (pos b) e = omega (arith, leb-true a b e)
le-true (pos a) (negsuc b) e = never false e refl
le-true (negsuc a) (pos b) e = omega arith
le-true (negsuc a) (negsuc b) e = omega (arith, leb-true b a e)

pub true-le : (a b : ℤ) → up a + dn b ≤ up b + dn a → le_z a b ≡ true
true-le (pos a) (pos b) h = le-leb a b (omega arith)
true-le (pos a) (negsuc b) h = absurd (omega arith)
true-le (negsuc a) (pos b) h = refl
true-le (negsuc a) (negsuc b) h = le-leb b a (omega arith)

-- ---- parts

by_sign : (p q : ℕ) (t : Bool) → ltb p q ≡ t → up (cond t (negsuc (q - suc p)) (pos (p - q))) + q ≡ dn (cond t (negsuc (q - suc p)) (pos (p - q))) + p
by_sign p q true e = omega (arith, ltb-true p q e)
by_sign p q false e = omega (arith, ltb-false p q e)

pub up-add : (a b : ℤ) → up (a +ℤ b) + (dn a + dn b) ≡ dn (a +ℤ b) + (up a + up b)
up-add (pos a) (pos b) = omega arith
up-add (pos a) (negsuc b) = omega (arith, by_sign a (suc b) (ltb a (suc b)) refl)
up-add (negsuc a) (pos b) = omega (arith, by_sign b (suc a) (ltb b (suc a)) refl)
up-add (negsuc a) (negsuc b) = omega arith

pub up_neg : (z : ℤ) → up (neg_ℤ z) ≡ dn z
up_neg (pos zero) = refl
up_neg (pos (suc n)) = refl
up_neg (negsuc n) = refl

pub dn-neg : (z : ℤ) → dn (neg_ℤ z) ≡ up z
dn-neg (pos zero) = refl
dn-neg (pos (suc n)) = refl
dn-neg (negsuc n) = refl

-- one of the parts is 0
pub one-part {ℓ} : {X : Type ℓ} (z : ℤ) → (dn z ≡ 0 → X) → (up z ≡ 0 → X) → X
one-part (pos n) f g = f refl
one-part (negsuc n) f g = g refl

pub parts-eq : (a b : ℤ) → up a + dn b ≡ up b + dn a → a ≡ b
parts-eq (pos a) (pos b) h = ap pos (omega arith)
parts-eq (pos a) (negsuc b) h = absurd (omega arith)
parts-eq (negsuc a) (pos b) h = absurd (omega arith)
parts-eq (negsuc a) (negsuc b) h = ap negsuc (omega arith)

-- ---- numbers modulo m

-- what is added on both sides may go
pub mod-cancel : (m : ℕ) (x y c : ℕ) → 0 < m → (x + c) % m ≡ (y + c) % m → x % m ≡ y % m
mod-cancel zero x y c h e = absurd (omega arith)
mod-cancel (suc m) x y c h e = sym (back x) ∙ (ap (λ (r : ℕ). (r + c * m) % suc m) e ∙ back y)
  where
    back : (x : ℕ) → ((x + c) % suc m + c * m) % suc m ≡ x % suc m
    back x =
        mod-add-mod (x + c) (suc m) (c * m)
        ∙ (ap (λ (r : ℕ). r % suc m) (omega (arith, mul-suc c m)) ∙ add-mul-mod_self_right x c (suc m))

pub modulo-lt : (z : ℤ) (m : ℕ) → 0 < m → modulo z m < m
modulo-lt (pos n) m h = mod-lt n h
modulo-lt (negsuc n) m h = omega (arith, mod-lt n h)

-- z modulo m differs from z by a multiple of m
pub modulo-parts : (z : ℤ) (m : ℕ) → 0 < m → (modulo z m + dn z) % m ≡ up z % m
modulo-parts (pos n) m h = mod-add-mod n m 0 ∙ ap (λ (r : ℕ). r % m) (omega arith)
modulo-parts (negsuc n) m h =
    let r = mod-lt n h in
    let q = div-add-mod' n m in
    let e : m - suc (n % m) + suc n ≡ 0 + suc (n / m) * m = omega arith in
    ap (λ (x : ℕ). x % m) e ∙ add-mul-mod_self_right 0 (suc (n / m)) m

pub modulo-quotient : (z : ℤ) (m : ℕ) → 0 < m → (q : ℤ) × (z ≡ pos (modulo z m) +ℤ q *ℤ pos m)
modulo-quotient (pos n) m h = (pos (n / m), ap pos (omega (arith, div-add-mod' n m)))
modulo-quotient (negsuc n) m h =
    let t = suc (n / m) * m in
    let r = mod-lt n h in
    let q = div-add-mod' n m in
    let a = up_neg (pos t) in
    let b = dn-neg (pos t) in
    let s = up-add (pos (m - suc (n % m))) (neg_ℤ (pos t)) in
    (negsuc (n / m), parts-eq (negsuc n) (pos (m - suc (n % m)) +ℤ neg_ℤ (pos t)) (omega arith))

-- and is the only such number below m
pub modulo-eq : (z : ℤ) (m r : ℕ) → 0 < m → r < m → (r + dn z) % m ≡ up z % m → modulo z m ≡ r
modulo-eq z m r h l e =
    sym (mod-eq_of_lt (modulo-lt z m h)) ∙ (mod-cancel m (modulo z m) r (dn z) h (modulo-parts z m h ∙ sym e) ∙ mod-eq_of_lt l)

-- what is equal modulo m stays so in a sum
mod_plus : (m a b c d : ℕ) → a % m ≡ b % m → c % m ≡ d % m → (a + c) % m ≡ (b + d) % m
mod_plus m a b c d p q = add-mod a c m ∙ ((λ i. (p i + q i) % m) ∙ sym (add-mod b d m))

-- a sum modulo m is the sum of the numbers modulo m
pub modulo-add : (a b : ℤ) (m : ℕ) → 0 < m → modulo (a +ℤ b) m ≡ (modulo a m + modulo b m) % m
modulo-add a b m h =
    let x = modulo a m in
    let y = modulo b m in
    let s = up-add a b in
    modulo-eq (a +ℤ b) m ((x + y) % m) h (mod-lt (x + y) h)
    (mod-add-mod (x + y) m (dn (a +ℤ b))
    ∙ mod-cancel m (x + y + dn (a +ℤ b)) (up (a +ℤ b)) (dn a + dn b) h
    (ap (λ (r : ℕ). r % m) (regroup x y (dn (a +ℤ b)) (dn a) (dn b))
    ∙ (mod_plus m (x + dn a + (y + dn b)) (up a + up b) (dn (a +ℤ b)) (dn (a +ℤ b)) (mod_plus m (x + dn a) (up a) (y + dn b) (up b) (modulo-parts a m h) (modulo-parts b m h)) refl
    ∙ ap (λ (r : ℕ). r % m) (omega arith))))
  where
    regroup : (x y d p q : ℕ) → x + y + d + (p + q) ≡ x + p + (y + q) + d
    regroup x y d p q = omega arith

-- a number modulo a power of two, taken modulo a lower one
pub modulo-low : (z : ℤ) (j k : ℕ) → modulo z (2 ^ (j + k)) % 2 ^ k ≡ modulo z (2 ^ k)
modulo-low z j k =
    let x = modulo z (2 ^ (j + k)) in
    sym
    (modulo-eq z (2 ^ k) (x % 2 ^ k) (pow_pos k) (mod-lt x (pow_pos k))
    (mod-add-mod x (2 ^ k) (dn z)
    ∙ (sym (mod-mod-pow (x + dn z) j k) ∙ (ap (λ (r : ℕ). r % 2 ^ k) (modulo-parts z (2 ^ (j + k)) (pow_pos (j + k))) ∙ mod-mod-pow (up z) j k))))
