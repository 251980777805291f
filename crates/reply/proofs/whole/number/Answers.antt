-- The number is the reply's one piece.
use Rattle.model.specs.Resp.{one}
use Rattle.model.specs.Execute.{number}
use Rattle.reply.proofs.Writing.{begin, room, next, replied}
use Rattle.reply.proofs.whole.number.Goals as goal

pub put_number-len-requires : goal.put_number-len-requires
put_number-len-requires c = (room (begin {r = one (number c.args.n)} c.requires.0), c.requires.1)

pub returns : goal.returns
returns c = replied (next (begin {r = one (number c.args.n)} c.requires.0) c.put_number-len.ensures)
