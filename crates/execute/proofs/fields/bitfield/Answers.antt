use Rattle.std.proofs.Common.{arith}
use Rattle.access.proofs.Doing.{error-in}
use Rattle.execute.proofs.fields.bitfield.Goals as goal

pub error-requires : goal.error-requires
error-requires c = (error-in c.requires.ready.room 16, omega arith, omega arith)
