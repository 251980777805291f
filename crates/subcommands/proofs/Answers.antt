-- What is known of a step that may come to nothing by the answer about it.
use Prim.Native.Nat.{ℕ, ◌-◌}
use mathlib.Core.List.{List}
use lib.ListN.{length, take, drop, length-drop}
use lib.Seq.{take_all}
use native.Mathlib.Omega.{arith}
use mathlib.Core.Path.{◌≡◌, refl}
use mathlib.Core.Option.{Option, none, some}
use Rattle.std.specs.Prelude.{Some, None}
use Rattle.model.specs.Optional as Optional
use Rattle.model.specs.Checked.{refuse, ok, given, ◌>>=◌}
use Rattle.outcome.specs.Outcome.{from_model}

module _ {A : Type 0} where
  pub from-none : (o : Option A) → None ≡ from_model o → o ≡ none
  from-none none e = refl
  from-none (some a) e = cc

  pub from-some : (o : Option A) {a : A} → Some a ≡ from_model o → o ≡ some a
  from-some none e = cc
  from-some (some b) e = cc

-- what a slice pattern leaves after its first byte
pub rest-of : (w : List ℕ) → take (length w - 1) (drop 1 w) ≡ drop 1 w
rest-of w = take_all (length w - 1) (drop 1 w) (omega (arith, length-drop 1 w))

module _ (n : ℕ) where
  -- a refusal where a step gives something or refuses by n: it gives nothing, and the refusal is n
  pub given-none : {A : Type 0} (o : Option A) {k : ℕ} → refuse k ≡ given n o → (o ≡ none) × (k ≡ n)
  given-none none e = (refl, cc)
  given-none (some a) e = let z : ◌≡◌ {A = ℕ} 0 1 = cc in absurd (omega arith)

  pub given-some : {A : Type 0} (o : Option A) {a : A} → ok a ≡ given n o → o ≡ some a
  given-some none e = let z : ◌≡◌ {A = ℕ} 0 1 = cc in absurd (omega arith)
  given-some (some b) e = cc

  -- steps in a row are answered in a row
  pub given-then : {A B : Type 0} (o : Option A) (g : A → Option B) → (given n o >>= λ a. given n (g a)) ≡ given n (Optional.◌>>=◌ o g)
  given-then none g = refl
  given-then (some a) g = refl
