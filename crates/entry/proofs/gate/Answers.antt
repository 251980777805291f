-- Each test refuses by the model's number, and what is passed is known of the call.
use Rattle.std.proofs.Common.{◌∙◌, sym, arith}
use Rattle.entry.proofs.Tests.{faulty, late, short, split-told}
use Rattle.entry.proofs.gate.Goals as goal

pub returns-then-not-check : goal.returns-then-not-check
returns-then-not-check c = faulty (sym c.check.ensures.answer ∙ c.if-not-check.true)

pub returns-then-time-gt-TIME_LIMIT : goal.returns-then-time-gt-TIME_LIMIT
returns-then-time-gt-TIME_LIMIT c = late (sym c.check.ensures.answer ∙ c.if-not-check.false) (omega arith)

pub returns-then-room-least : goal.returns-then-room-least
returns-then-room-least c =
    short (sym c.check.ensures.answer ∙ c.if-not-check.false) (omega arith) (omega (arith, c.room-least.ensures))

pub returns : goal.returns
returns c =
    split-told (sym c.check.ensures.answer ∙ c.if-not-check.false) (omega arith) (omega (arith, c.room-least.ensures)) c.split.result c.split.ensures
    (c.check.ensures.index c.if-not-check.false)
