-- Types: which signs and widths make one, and a type's word by its letter and its width.
use Prim.Native.Nat.{ℕ, ◌≤◌, ◌<◌}
use native.Mathlib.Omega.{arith}
use mathlib.Core.Path.{◌≡◌, refl, ap, ◌∙◌}
use mathlib.Core.Bool.{Bool, true, false, cond, ◌&&◌}
use mathlib.Core.List.{List, [], ◌∷◌}
use mathlib.Core.Option.{Option, none, some}
use lib.Dec.{leb, ltb}
use lib.ListN.{length, drop, get_or}
use borrow.Author.Tests.{ltb-false, lt-leb}
use Rattle.std.specs.Prelude.{Some, None}
use Rattle.outcome.specs.Outcome.{from_model}
use Rattle.model.specs.Optional.{◌>>=◌, only}
use Rattle.model.specs.Number.{read_nat}
use Rattle.model.specs.Field.{is_int_type}
use Rattle.model.specs.Subcommands.{sign_in, type_in}
use Rattle.subcommands.specs.Words.{width_from, type_of}

-- ---- a sign and a width

-- the greatest width
abbrev most : Bool → ℕ
most s = cond s 64 63

most-range : (s : Bool) → (63 ≤ most s) × (most s ≤ 64)
most-range true = omega arith
most-range false = omega arith

module _ (s : Bool) (w : ℕ) where
  too_wide : most s < w → only is_int_type (some (type_of s w)) ≡ none
  too_wide h = rw (lt-leb w (most s) h) (go (leb 1 w))
    where
      go : (b : Bool) → cond (b && false) (some (type_of s w)) none ≡ none
      go true = refl
      go false = refl

-- ---- a letter and a width

-- a width of more than two digits is that of no type
no-width : (s : Bool) (o : Option ℕ) → None ≡ width_from o → only is_int_type (o >>= λ w. some (type_of s w)) ≡ none
no-width s none e = refl
no-width s (some n) e = go (ltb n 100) refl e
  where
    go : (b : Bool) → ltb n 100 ≡ b → None ≡ from_model (cond b (some n) none) → only is_int_type (some (type_of s n)) ≡ none
    go true t e = cc
    go false t e = too_wide s n (omega (arith, ltb-false n 100 t, most-range s))

a-width : (o : Option ℕ) {w : ℕ} → Some w ≡ width_from o → o ≡ some w
a-width none e = cc
a-width (some n) {w} e = go (ltb n 100) e
  where
    go : (b : Bool) → Some w ≡ from_model (cond b (some n) none) → some n ≡ some w
    go true e = cc
    go false e = cc

pub type-empty : (w : List ℕ) → length w ≡ 0 → type_in w ≡ none
unfolding type_in
type-empty [] l = refl
type-empty (c ∷ w) l = absurd (omega arith)

-- what a type's word says, by its letter
type-letter : (w : List ℕ) {x : Option Bool} → 0 < length w → sign_in (get_or w 0 0) ≡ x
    → type_in w ≡ only is_int_type (x >>= λ s. read_nat (drop 1 w) >>= λ n. some (type_of s n))
unfolding type_in
type-letter [] l e = absurd (omega arith)
type-letter (c ∷ w) l e = ap (λ (x : Option Bool). only is_int_type (x >>= λ s. read_nat w >>= λ n. some (type_of s n))) e

module _ (w : List ℕ) (l : 0 < length w) where
  pub type-unknown : sign_in (get_or w 0 0) ≡ none → type_in w ≡ none
  type-unknown e = type-letter w l e

  module _ {s : Bool} (sign : sign_in (get_or w 0 0) ≡ some s) where
    pub type-none : None ≡ width_from (read_nat (drop 1 w)) → type_in w ≡ none
    type-none e = type-letter w l sign ∙ no-width s (read_nat (drop 1 w)) e

    pub type-known : {n : ℕ} → Some n ≡ width_from (read_nat (drop 1 w)) → type_in w ≡ only is_int_type (some (type_of s n))
    type-known e = type-letter w l sign ∙ ap (λ (o : Option ℕ). only is_int_type (o >>= λ w. some (type_of s w))) (a-width (read_nat (drop 1 w)) e)
