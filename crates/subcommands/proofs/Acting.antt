-- A subcommand by its operation, its field and its number.
use Prim.Native.Nat.{ℕ, ◌≤◌}
use native.Mathlib.Omega.{arith}
use mathlib.Core.Path.{◌≡◌, refl, sym, ap, ◌∙◌}
use mathlib.Core.Bool.{true, false}
use mathlib.Core.List.{List, [], ◌∷◌}
use mathlib.Core.Option.{Option, none, some}
use lib.IntN.{ℤ}
use Rattle.model.specs.Optional as Optional
use Rattle.model.specs.Optional.{only}
use Rattle.model.specs.Checked.{Checked, ok, given, ◌>>=◌}
use Rattle.model.specs.Number.{read_signed}
use Rattle.model.specs.Field as model
use Rattle.model.specs.Bitfield.{Sub, get, set, incrby}
use Rattle.model.specs.Subcommands.{field_in, sub_of}
use Rattle.command.specs.Subcommand.{model_int, model_field, model_mode}
use Rattle.command.specs.declared.subcommand.Field.{Field}
use Rattle.command.specs.declared.subcommand.Operation.{Operation}
use Rattle.command.specs.declared.subcommand.Operation.TheVariants.{Get, Set, Incrby}
use Rattle.subcommands.specs.Words.{model_only, sub_by}
use Rattle.subcommands.specs.Steps.{arity_of}
use Rattle.subcommands.proofs.Answers.{given-then}

-- what an operation makes of its field and of its number, which GET has not
abbrev pub acting : Operation → model.Field → Option ℤ → Option (List Sub)
acting Get f z = some (get f ∷ [])
acting Set f z = Optional.◌>>=◌ (only (model.fits f.type) z) λ z. some (set f z ∷ [])
acting (Incrby m) f z = Optional.◌>>=◌ z λ z. some (incrby f (model_mode m) z ∷ [])

pub by_field : (op : Operation) (t o n : List ℕ) → sub_by op t o n ≡ (Optional.◌>>=◌ (field_in t o) λ f. acting op f (read_signed n))
unfolding sub_by sub_of
by_field Get t o n = refl
by_field Set t o n = refl
by_field (Incrby m) t o n = refl

-- what the words say, by the answer of their field
pub placed : (op : Operation) (t o n : List ℕ) {x : Checked model.Field} → x ≡ given 9 (field_in t o)
    → (x >>= λ f. given 9 (acting op f (read_signed n))) ≡ given 9 (sub_by op t o n)
placed op t o n e =
    ap (λ (x : Checked model.Field). x >>= λ f. given 9 (acting op f (read_signed n))) e
    ∙ (given-then 9 (field_in t o) (λ f. acting op f (read_signed n)) ∙ sym (ap (given 9) (by_field op t o n)))

-- where there is a field f, by what the number is read as
pub acted : (op : Operation) (t o n : List ℕ) {f : model.Field} {z : Option ℤ} → ok f ≡ given 9 (field_in t o) → read_signed n ≡ z
    → given 9 (acting op f z) ≡ given 9 (sub_by op t o n)
acted op t o n {f} e r = ap (λ (z : Option ℤ). given 9 (acting op f z)) (sym r) ∙ placed op t o n e

pub no_number : (op : Operation) → (op ≡ Get → ⊥) → (f : model.Field) → none ≡ acting op f none
no_number Get h f = absurd (h refl)
no_number Set h f = refl
no_number (Incrby m) h f = refl

module _ {op : Operation} (f : Field) where
  pub gets : op ≡ Get → (k : ℤ) (z : Option ℤ) → some (model_only (record { operation = op; field = f; number = k })) ≡ acting op (model_field f) z
  gets e k z = rw e

  -- a SET, by whether the number fits
  module _ (e : op ≡ Set) (z : ℤ) where
    pub sets-wrong : model.fits (model_int f.int) z ≡ false → none ≡ acting op (model_field f) (some z)
    sets-wrong t = rw (e, t)

    pub sets : model.fits (model_int f.int) z ≡ true → some (model_only (record { operation = op; field = f; number = z })) ≡ acting op (model_field f) (some z)
    sets t = rw (e, t)

pub adds : (op : Operation) → (op ≡ Get → ⊥) → (op ≡ Set → ⊥) → (f : Field) (z : ℤ)
    → some (model_only (record { operation = op; field = f; number = z })) ≡ acting op (model_field f) (some z)
adds Get g s f z = absurd (g refl)
adds Set g s f z = absurd (s refl)
adds (Incrby m) g s f z = refl

-- every subcommand has a type and an offset
pub two-words : (op : Operation) → 2 ≤ arity_of op
two-words Get = omega arith
two-words Set = omega arith
two-words (Incrby m) = omega arith
