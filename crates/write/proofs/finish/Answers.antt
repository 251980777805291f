use Rattle.std.proofs.Common.{subst}
use Rattle.outcome.specs.Outcome.{number_of}
use Rattle.write.specs.Finish.{StoredOk}
use Rattle.access.proofs.Doing.{error-in}
use Rattle.write.proofs.finish.Goals as goal

pub error-requires : goal.error-requires
error-requires c = let h = subst StoredOk c.in-Err.is c.requires.1 in (error-in c.requires.0.room (number_of c.in-Err.refusal), h.0, h.1)
