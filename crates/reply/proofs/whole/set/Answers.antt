-- By the flag, the reply is a number or its one piece is OK.
use Rattle.std.proofs.Common.{false}
use Rattle.model.specs.Execute.{set_reply}
use Rattle.reply.proofs.Writing.{Begun, begin, room, next, replied}
use Rattle.reply.proofs.whole.set.Goals as goal

pub number-requires : goal.number-requires
number-requires c = (rw c.if-with_version.true at c.requires.0, c.requires.1)

pub returns-then-with_version : goal.returns-then-with_version
returns-then-with_version c = rw c.if-with_version.true c.number.ensures

pub put_simple-len-requires : goal.put_simple-len-requires
put_simple-len-requires c =
    let b : Begun (set_reply false c.args.version) c.args.reply.now = begin (rw c.if-with_version.false at c.requires.0) in
    room b

pub returns : goal.returns
returns c =
    let b : Begun (set_reply false c.args.version) c.args.reply.now = begin (rw c.if-with_version.false at c.requires.0) in
    rw c.if-with_version.false (replied (next b c.put_simple-len.ensures))
