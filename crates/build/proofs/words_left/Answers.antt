use mathlib.Core.Path.{sym, ap, ◌∙◌}
use native.Mathlib.Omega.{arith}
use Rattle.outcome.specs.Outcome.{from_model}
use Rattle.model.specs.Resp.{array_mark}
use Rattle.resp.proofs.Lines.{line_at}
use Rattle.build.proofs.Left.{left-unread, left-zero, left-many, left-few}
use Rattle.build.proofs.words_left.Goals as goal

pub returns-in_default : goal.returns-in_default
returns-in_default c = sym (ap from_model (left-unread _ (sym c.in_default.ensures)))

pub returns-then-value-lt1 : goal.returns-then-value-lt1
returns-then-value-lt1 c = sym (ap from_model (left-zero _ (line_at array_mark _ 0 (sym c.in-Some.ensures)) c.if-value-lt1.true))

pub returns-then-value-gt16 : goal.returns-then-value-gt16
returns-then-value-gt16 c = sym (ap from_model (left-many _ (line_at array_mark _ 0 (sym c.in-Some.ensures)) c.if-value-gt16.true))

pub returns : goal.returns
returns c =
    let l = line_at array_mark c.args.s.now 0 (sym c.in-Some.ensures) in
    c.bulks_left.ensures ∙ sym (ap from_model (left-few _ l (omega (arith, c.if-value-lt1.false)) (omega (arith, c.if-value-gt16.false))))
