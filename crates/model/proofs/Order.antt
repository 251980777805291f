-- Byte order of keys: irreflexive, transitive, total.
use mathlib.Core.Path.{◌≡◌, refl, sym, ap, ◌∙◌}
use mathlib.Core.Logic.{◌⊎◌, inl, inr}
use mathlib.Core.Bool.{Bool, true, false, ◌&&◌, ◌||◌}
use mathlib.Core.List.{List, [], ◌∷◌}
use Prim.Native.Nat.{ℕ, ◌<◌}
use native.Mathlib.Omega.{arith}
use lib.Dec.{ltb, eqb}
use borrow.Author.Tests.{ltb-true, ltb-false, eqb-true, lt-ltb, le-ltb, eq-eqb}
use Rattle.model.specs.Bytes.{text, same}
use Rattle.model.proofs.Basics.{never, and_left, and_right, or-true, same_refl}
use Rattle.model.specs.Order.{before}

-- ---- rows, computed

byte-order :
    (before (text "a") (text "b") ≡ true) × (before (text "b") (text "a") ≡ false) × (before (text "a") (text "a") ≡ false)
    × (before [] [] ≡ false) × (before [] (0 ∷ []) ≡ true) × (before (0 ∷ []) [] ≡ false)
    × (before (text "foo") (text "foobar") ≡ true) × (before (text "foobar") (text "foo") ≡ false)
    × (before (127 ∷ []) (128 ∷ []) ≡ true) × (before (255 ∷ []) (0 ∷ []) ≡ false)
    × (before (1 ∷ 255 ∷ []) (2 ∷ []) ≡ true) × (before (1 ∷ 0 ∷ []) (1 ∷ []) ≡ false)
byte-order = (refl, refl, refl, refl, refl, refl, refl, refl, refl, refl, refl, refl)

-- ---- one byte

byte-less : (x y : ℕ) (s t : List ℕ) → x < y → before (x ∷ s) (y ∷ t) ≡ true
byte-less x y s t h = rw (lt-ltb x y h)

byte-same : (x y : ℕ) (s t : List ℕ) → x ≡ y → before s t ≡ true → before (x ∷ s) (y ∷ t) ≡ true
byte-same x y s t p h = rw (eq-eqb x y p, h) (or-true (ltb x y))

by_byte : (x y : ℕ) (s t : List ℕ) → before (x ∷ s) (y ∷ t) ≡ true → (x < y) ⊎ ((x ≡ y) × (before s t ≡ true))
by_byte x y s t h = go (ltb x y) refl h
  where
    go : (b : Bool) → ltb x y ≡ b → b || (eqb x y && before s t) ≡ true → (x < y) ⊎ ((x ≡ y) × (before s t ≡ true))
    go true e h = inl (ltb-true x y e)
    go false e h = inr (eqb-true x y (and_left (eqb x y) (before s t) h), and_right (eqb x y) (before s t) h)

-- ---- the laws

pub before-irreflexive : (s : List ℕ) → before s s ≡ false
before-irreflexive [] = refl
before-irreflexive (x ∷ s) = rw (le-ltb x x (omega arith), eq-eqb x x refl) (before-irreflexive s)

pub before-transitive : (s t u : List ℕ) → before s t ≡ true → before t u ≡ true → before s u ≡ true
before-transitive [] [] u p q = q
before-transitive [] (y ∷ t) [] p q = q
before-transitive [] (y ∷ t) (z ∷ u) p q = refl
before-transitive (x ∷ s) [] u p q = never false p refl
before-transitive (x ∷ s) (y ∷ t) [] p q = q
before-transitive (x ∷ s) (y ∷ t) (z ∷ u) p q = go (before-transitive s t u) (by_byte x y s t p) (by_byte y z t u q)
  where
    go : (before s t ≡ true → before t u ≡ true → before s u ≡ true) → (x < y) ⊎ ((x ≡ y) × (before s t ≡ true))
        → (y < z) ⊎ ((y ≡ z) × (before t u ≡ true)) → before (x ∷ s) (z ∷ u) ≡ true
    go ih (inl a) (inl b) = byte-less x z s u (omega arith)
    go ih (inl a) (inr b) = byte-less x z s u (omega arith)
    go ih (inr a) (inl b) = byte-less x z s u (omega arith)
    go ih (inr a) (inr b) = byte-same x z s u (a.0 ∙ b.0) (ih a.1 b.1)

pub before-asymmetric : (s t : List ℕ) → before s t ≡ true → before t s ≡ false
before-asymmetric s t p = go (before t s) refl
  where
    go : (b : Bool) → before t s ≡ b → b ≡ false
    go true q = never (before s s) (before-transitive s t s p q) (before-irreflexive s)
    go false q = refl

pub before-apart : (s t : List ℕ) → before s t ≡ true → s ≡ t → ⊥
before-apart s t p e = never (before s t) p (ap (before s) (sym e) ∙ before-irreflexive s)

-- one of two keys is before the other, or they are equal
pub data Compared (s t : List ℕ) : Type 0 where
  sooner : before s t ≡ true → Compared s t
  same_key : s ≡ t → Compared s t
  after : before t s ≡ true → Compared s t

pub before-total : (s t : List ℕ) → Compared s t
before-total [] [] = same_key refl
before-total [] (y ∷ t) = sooner refl
before-total (x ∷ s) [] = after refl
before-total (x ∷ s) (y ∷ t) = go (ltb x y) (ltb y x) refl refl (before-total s t)
  where
    heads : x ≡ y → Compared s t → Compared (x ∷ s) (y ∷ t)
    heads p (sooner h) = sooner (byte-same x y s t p h)
    heads p (same_key h) = same_key (cc)
    heads p (after h) = after (byte-same y x t s (sym p) h)

    go : (a b : Bool) → ltb x y ≡ a → ltb y x ≡ b → Compared s t → Compared (x ∷ s) (y ∷ t)
    go true b p q c = sooner (byte-less x y s t (ltb-true x y p))
    go false true p q c = after (byte-less y x t s (ltb-true y x q))
    go false false p q c = heads (omega (arith, ltb-false x y p, ltb-false y x q)) c

-- the two tests that a search makes
pub not-before : (s t : List ℕ) → same s t ≡ false → before s t ≡ false → before t s ≡ true
not-before s t p q = go (before-total s t)
  where
    go : Compared s t → before t s ≡ true
    go (sooner h) = never (before s t) h q
    go (same_key h) = never (same s t) (ap (same s) (sym h) ∙ same_refl s) p
    go (after h) = h
