-- What a comparison tells, and how it goes on byte by byte.
use mathlib.Core.Path.{◌≡◌, refl, sym, ◌∙◌}
use mathlib.Core.Bool.{Bool, true, false, cond, ◌&&◌, ◌||◌}
use mathlib.Core.List.{List, [], ◌∷◌}
use Prim.Native.Nat.{ℕ}
use native.Mathlib.Omega.{arith}
use lib.Dec.{ltb, eqb}
use borrow.Author.Tests.{ltb-true, ltb-false, eq-eqb, ne_eqb}
use Rattle.model.specs.Order.{before}
use Rattle.model.proofs.Basics.{never}
use Rattle.model.proofs.Order.{Compared, sooner, same_key, after, before-total}
use Rattle.std.proofs.Common.{Ordering}
use Rattle.std.proofs.Common.{Less, Equal, Greater}
use Rattle.std.specs.Ordering.{nat_cmp, ordering_then}
use Rattle.std.specs.Cmp.Lexicographic.{slice_cmp}
use Rattle.order.specs.Compared.{compared}

-- s comes before t, is t, or comes after it
abbrev pub Stated : (s t : List ℕ) → Ordering → Type 0
Stated s t Less = before s t ≡ true
Stated s t Equal = s ≡ t
Stated s t Greater = before t s ≡ true

pub compared-stated : (s t : List ℕ) → Stated s t (compared s t)
unfolding compared
compared-stated s t = go (before s t) (before t s) refl refl (before-total s t)
  where
    go : (a b : Bool) → before s t ≡ a → before t s ≡ b → Compared s t → Stated s t (cond a Less (cond b Greater Equal))
    go true b p q c = p
    go false true p q c = q
    go false false p q (sooner h) = never (before s t) h p
    go false false p q (same_key h) = h
    go false false p q (after h) = never (before t s) h q

-- the first byte decides, or what comes after it
pub compared-byte : (x y : ℕ) (s t : List ℕ) → compared (x ∷ s) (y ∷ t) ≡ cond (ltb x y) Less (cond (ltb y x) Greater (compared s t))
unfolding compared
compared-byte x y s t = go (ltb x y) (ltb y x) refl refl
  where
    go : (a b : Bool) → ltb x y ≡ a → ltb y x ≡ b
        → cond (a || (eqb x y && before s t)) Less (cond (b || (eqb y x && before t s)) Greater Equal)
        ≡ cond a Less (cond b Greater (cond (before s t) Less (cond (before t s) Greater Equal)))
    go true b p q = refl
    go false true p q = rw (ne_eqb x y (λ e. omega (arith, ltb-true y x q)))
    go false false p q =
        let e : x ≡ y = omega (arith, ltb-false x y p, ltb-false y x q) in
        rw (eq-eqb x y e, eq-eqb y x (sym e))

-- std's comparison of lists is the same
cmp-byte : (x y : ℕ) (r : Ordering) → ordering_then (nat_cmp x y) r ≡ cond (ltb x y) Less (cond (ltb y x) Greater r)
cmp-byte x y r = go (ltb x y) (ltb y x) refl refl
  where
    go : (a b : Bool) → ltb x y ≡ a → ltb y x ≡ b → ordering_then (cond a Less (cond (eqb x y) Equal Greater)) r ≡ cond a Less (cond b Greater r)
    go true b p q = refl
    go false true p q = rw (ne_eqb x y (λ e. omega (arith, ltb-true y x q)))
    go false false p q = rw (eq-eqb x y (omega (arith, ltb-false x y p, ltb-false y x q)))

pub cmp_compared : (s t : List ℕ) → slice_cmp nat_cmp s t ≡ compared s t
unfolding compared
cmp_compared [] [] = refl
cmp_compared [] (y ∷ t) = refl
cmp_compared (x ∷ s) [] = refl
cmp_compared (x ∷ s) (y ∷ t) = cmp-byte x y (slice_cmp nat_cmp s t) ∙ rw (cmp_compared s t) (sym (compared-byte x y s t))
