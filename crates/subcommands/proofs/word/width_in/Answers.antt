-- By the two digits and the length of the word.
use Rattle.std.proofs.Common.{arith}
use Rattle.resp.proofs.Digits.{digit-of}
use Rattle.subcommands.proofs.Widths.{width-none, width_one, width-short, width-long, width-zero, width_two}
use Rattle.subcommands.proofs.word.width_in.Goals as goal

pub returns-in_err-first : goal.returns-in_err-first
returns-in_err-first c = rw c.from_residual.ensures (width-none _ c.in_err-first.ensures)

pub returns-then-digits-eq1 : goal.returns-then-digits-eq1
returns-then-digits-eq1 c = width_one _ c.in_ok-first.ensures c.if-digits-eq1.true

pub returns-in_err-second : goal.returns-in_err-second
returns-in_err-second c =
    rw c.from_residual-in_err-second.ensures (width-short _ c.in_ok-first.ensures c.if-digits-eq1.false c.in_err-second.ensures)

pub returns-then-digits-ne2 : goal.returns-then-digits-ne2
returns-then-digits-ne2 c = width-long _ c.in_ok-first.ensures c.if-digits-eq1.false c.if-digits-ne2.true

pub returns-then-first-eq0 : goal.returns-then-first-eq0
returns-then-first-eq0 c =
    width-zero _ c.in_ok-first.ensures c.if-digits-eq1.false c.in_ok-second.ensures c.if-digits-ne2.false c.if-first-eq0.true

pub overflow_mul-result : goal.overflow_mul-result
overflow_mul-result c = record { fits = omega (arith, (digit-of _ _ c.in_ok-first.ensures).small) }

pub overflow_add-result : goal.overflow_add-result
overflow_add-result c =
    record { fits = omega (arith, (digit-of _ _ c.in_ok-first.ensures).small, (digit-of _ _ c.in_ok-second.ensures).small) }

pub returns : goal.returns
returns c =
    width_two _ c.in_ok-first.ensures c.if-digits-eq1.false c.in_ok-second.ensures c.if-digits-ne2.false c.if-first-eq0.false
