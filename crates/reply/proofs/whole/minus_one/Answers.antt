-- The number is the reply's one piece.
use Rattle.model.specs.Execute.{minus_one}
use Rattle.reply.proofs.Writing.{begin, room, next, replied}
use Rattle.reply.proofs.whole.minus_one.Goals as goal

pub put_integer-len-requires : goal.put_integer-len-requires
put_integer-len-requires c = room (begin {r = minus_one} c.requires)

pub returns : goal.returns
returns c = replied (next (begin {r = minus_one} c.requires) c.put_integer-len.ensures)
