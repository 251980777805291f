-- Two pieces side by side.
use Rattle.std.proofs.Common.{arith}
use Rattle.slice.proofs.Writing.{wrote_then}
use Rattle.reply.proofs.whole.put_value.Goals as goal

pub returns : goal.returns
returns c = wrote_then (omega (arith, c.requires.0)) c.put_bulk-next.ensures c.put_number.ensures
