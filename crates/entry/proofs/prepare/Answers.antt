-- The arrays have room for the slots of the table.
use Rattle.std.proofs.Common.{arith}
use Rattle.model.specs.Table.{form128}
use Rattle.integrity.proofs.Arrays.{fresh}
use Rattle.entry.proofs.prepare.Goals as goal

pub prepare-requires-clause-fresh : goal.prepare-requires-clause-fresh
prepare-requires-clause-fresh c = fresh form128 c.args.table.now 128 16 (omega arith) (λ h. omega arith)

pub prepare-requires-2-clause-fresh : goal.prepare-requires-2-clause-fresh
prepare-requires-2-clause-fresh c = fresh form128 c.args.table.now 2048 256 (omega arith) (λ h. h)
