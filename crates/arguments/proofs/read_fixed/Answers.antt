-- By the number that the rule has there, what the word says.
use Rattle.std.proofs.Common.{◌≡◌, refl, sym, ap, subst, ◌∙◌, ℕ, List, Result, Ok, Err, pos, ℤ, SFits, w64, rules}
use Rattle.std.specs.Prelude.{Some, None}
use Rattle.std.specs.Prelude as code
use Rattle.std.proofs.Math.Option.{Option, none, some}
use Rattle.model.specs.Checked.{ok, refuse, given}
use Rattle.model.specs.Parse.{read_fixed}
use Rattle.outcome.specs.Outcome.{from_model, checked}
use Rattle.outcome.specs.declared.Refusal.{Refusal}
use Rattle.command.specs.Rules.{model_number}
use Rattle.command.specs.declared.NumberKind.{NumberKind}
use Rattle.arguments.specs.Fixed.{model_fixed}
use Rattle.arguments.specs.declared.Fixed.{Fixed}
use Rattle.number.proofs.Integers.{back, back_is}
use Rattle.arguments.proofs.read_fixed.Goals as goal

module _ {A : Type 0} where
  bad : (o : Option A) → None ≡ from_model o → refuse 9 ≡ given 9 o
  bad none e = refl
  bad (some a) e = cc

  known : (o : Option A) {a : A} → Some a ≡ from_model o → ok a ≡ given 9 o
  known none e = cc
  known (some b) e = cc

-- what is answered for the number n, if any
abbrev Says : List ℕ → Result Fixed Refusal → code.Option NumberKind → Type 0
Says w r n = checked (model_fixed (model_number n)) r ≡ given 9 (read_fixed (model_number n) w)

module _ (w : List ℕ) (r : Result Fixed Refusal) where
  says : {n m : code.Option NumberKind} → n ≡ m → Says w r m → Says w r n
  says e t = subst (Says w r) (sym e) t

  says_kind : {n : code.Option NumberKind} {k m : NumberKind} → n ≡ Some k → k ≡ m → Says w r (Some m) → Says w r n
  says_kind e f t = says (e ∙ ap (λ (k : NumberKind). Some k) f) t

pub returns-in_default : goal.returns-in_default
returns-in_default c = says c.args.w.now (Ok (record { by = pos 0; version = 0 })) c.in_default.is refl

pub returns-in_default-read_signed : goal.returns-in_default-read_signed
returns-in_default-read_signed c = says_kind c.args.w.now (Err Refusal.Number) c.in-Some.is c.in-Signed.is (bad _ c.in_default-read_signed.ensures)

pub returns-in_default-read_version : goal.returns-in_default-read_version
returns-in_default-read_version c = says_kind c.args.w.now (Err Refusal.Number) c.in-Some.is c.in-Version.is (bad _ c.in_default-read_version.ensures)

pub returns-in-Some-read_signed : goal.returns-in-Some-read_signed
returns-in-Some-read_signed c =
    let z = c.in-Some-read_signed.by in
    let fits : SFits w64 z = search rules in
    says_kind c.args.w.now (Ok (record { by = back z; version = 0 })) c.in-Some.is c.in-Signed.is
    (ap (λ (z : ℤ). ok z) (back_is fits) ∙ known _ c.in-Some-read_signed.ensures)

pub returns-in-Some-read_version : goal.returns-in-Some-read_version
returns-in-Some-read_version c =
    says_kind c.args.w.now (Ok (record { by = pos 0; version = c.in-Some-read_version.version })) c.in-Some.is c.in-Version.is
    (known _ c.in-Some-read_version.ensures)
