-- Nil is the reply's one piece.
use Rattle.model.specs.Resp.{one, nil}
use Rattle.reply.proofs.Writing.{begin, room, next, replied}
use Rattle.reply.proofs.whole.nil.Goals as goal

pub put_nil-len-requires : goal.put_nil-len-requires
put_nil-len-requires c = room (begin {r = one nil} c.requires)

pub returns : goal.returns
returns c = replied (next (begin {r = one nil} c.requires) c.put_nil-len.ensures)
