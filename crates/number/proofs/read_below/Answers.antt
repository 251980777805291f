-- A natural number below the limit is a signed number, and its magnitude is itself.
use mathlib.Core.Path.{◌≡◌, refl, sym, ap, ◌∙◌}
use mathlib.Core.List.{List}
use mathlib.Core.Option.{Option, none, some}
use Prim.Native.Nat.{ℕ, ◌≤◌}
use lib.Dec.{ltb}
use lib.IntN.{ℤ, pos, negsuc, nat_abs}
use mir.Syntax.{w64}
use mir.Val.{SFits}
use native.Mathlib.Omega.{arith}
use borrow.Author.Tests.{lt-ltb, le-ltb}
use Rattle.std.specs.Prelude.{Some, None, Result, Ok, Err, OkIff}
use Rattle.std.specs.Result.{result_ok}
use Rattle.std.specs.Int.{FitsUnsignedBits}
use Rattle.std.specs.Prelude as code
use Rattle.model.specs.Optional.{◌>>=◌, only}
use Rattle.model.specs.Number.{read_below, read_signed, natural, signed_limit}
use Rattle.outcome.specs.Outcome.{from_model}
use Rattle.number.proofs.Integers.{back_is}
use Rattle.number.proofs.Reading.{signed-bad, signed-value, below-signed}
use borrow.Author.Rules.{rules}
use Rattle.number.proofs.read_below.Goals as goal

module _ (limit : ℕ) (h : limit ≤ signed_limit) (s : List ℕ) where
  abbrev answer : Option ℤ → code.Option ℕ
  answer o = from_model (only (λ n. ltb n limit) (o >>= natural))

  -- what the text says, from the signed number that it says
  from : (o : Option ℤ) → read_signed s ≡ o → from_model (read_below limit s) ≡ answer o
  from o e = ap from_model (below-signed limit h s) ∙ ap answer e

  -- where the number is below 0
  below : (z : ℤ) → read_signed s ≡ some z → SFits w64 z → {E : Type 0} (r : Result ℕ E) → OkIff r (FitsUnsignedBits 64 z) (nat_abs z) → None ≡ result_ok r
      → None ≡ from_model (read_below limit s)
  below z e f (Ok x) h t = cc
  below (pos n) e f (Err x) h t = absurd (h (omega (arith, f.sfits)))
  below (negsuc n) e f (Err x) h t = sym (from (some (negsuc n)) e)

  -- and where it is the number n
  at-number : (z : ℤ) → read_signed s ≡ some z → {E : Type 0} (r : Result ℕ E) → OkIff r (FitsUnsignedBits 64 z) (nat_abs z) → (n : ℕ) → Some n ≡ result_ok r
      → from_model (read_below limit s) ≡ from_model (only (λ n. ltb n limit) (some n))
  at-number (pos m) e (Ok x) h n t = let k : m ≡ n = cc (sym h.1, t) in from (some (pos m)) e ∙ ap (λ (n : ℕ). from_model (only (λ n. ltb n limit) (some n))) k
  at-number (negsuc m) e (Ok x) h n t = absurd h.0
  at-number z e (Err x) h n t = cc

pub returns-in_err-read_signed : goal.returns-in_err-read_signed
returns-in_err-read_signed c = c.from_residual.ensures ∙ sym (from c.args.limit c.requires c.args.s.now none (signed-bad _ c.in_err-read_signed.ensures))

pub returns-in_err-n : goal.returns-in_err-n
returns-in_err-n c =
    let f : SFits w64 c.in_ok-read_signed.field-0 = search rules in
    c.from_residual-in_err-n.ensures
    ∙ below c.args.limit c.requires c.args.s.now _ (signed-value _ _ c.in_ok-read_signed.ensures) f _ (simp (back_is f) at c.try_from.ensures) c.in_err-n.ensures.value

pub returns-then-n-limit : goal.returns-then-n-limit
returns-then-n-limit c =
    let f : SFits w64 c.in_ok-read_signed.field-0 = search rules in
    rw (at-number c.args.limit c.requires c.args.s.now _ (signed-value _ _ c.in_ok-read_signed.ensures) _ (simp (back_is f) at c.try_from.ensures) _ c.in_ok-n.ensures.value, lt-ltb c.in_ok-n.n c.args.limit c.if-n-limit.true) refl

pub returns : goal.returns
returns c =
    let f : SFits w64 c.in_ok-read_signed.field-0 = search rules in
    rw (at-number c.args.limit c.requires c.args.s.now _ (signed-value _ _ c.in_ok-read_signed.ensures) _ (simp (back_is f) at c.try_from.ensures) _ c.in_ok-n.ensures.value, le-ltb c.in_ok-n.n c.args.limit c.if-n-limit.false) refl
