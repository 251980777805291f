use Rattle.std.proofs.Common.{subst}
use Rattle.outcome.specs.Outcome.{number_of}
use Rattle.write.specs.Finish.{StoredOk}
use Rattle.access.proofs.Doing.{error-in}
use Rattle.execute.proofs.fields.finish.Goals as goal

pub error-requires : goal.error-requires
error-requires c = let h = subst StoredOk c.in-Err.is c.requires.some_room.1 in (error-in c.requires.some_room.0.room (number_of c.in-Err.refusal), h.0, h.1)
