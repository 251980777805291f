use mathlib.Core.Path.{◌≡◌, sym, ap, ◌∙◌}
use native.Mathlib.Omega.{arith}
use Rattle.outcome.specs.Outcome.{from_model}
use Rattle.resp.proofs.Bulks.{word-at}
use Rattle.build.proofs.Left.{left_end, left-past, left-malformed, left-next}
use Rattle.build.proofs.bulks_left.Goals as goal

pub returns-in_err-left : goal.returns-in_err-left
returns-in_err-left c =
    let none_left : c.loop-place.left ≡ 0 = omega (arith, c.in_err-left.ensures) in
    c.from_residual.ensures ∙ sym (ap from_model (c.loop-place.invariant ∙ left-past _ _ _ c.loop-place-test.true none_left))

pub returns-in_default : goal.returns-in_default
returns-in_default c =
    sym (ap from_model (c.loop-place.invariant ∙ left-malformed _ _ _ c.loop-place-test.true c.in_ok-left.ensures.0 (sym c.in_default.ensures)))

pub loop-place-preserved : goal.loop-place-preserved
loop-place-preserved c =
    rw c.in_ok-left.ensures.1 (c.loop-place.invariant ∙ left-next _ _ _ c.loop-place-test.true c.in_ok-left.ensures.0 (word-at _ _ (sym c.in-Some.ensures)))

pub returns : goal.returns
returns c = sym (ap from_model (c.loop-place.invariant ∙ left_end _ _ _ c.loop-place-test.false))
