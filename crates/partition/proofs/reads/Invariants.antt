-- The slots from i on are records.
use Rattle.std.proofs.Common.{◌≤◌}
use Rattle.model.specs.Table.{form128}
use Rattle.index.specs.Index.{count_of}
use Rattle.integrity.proofs.Passing.{ReadFrom}
use Rattle.partition.proofs.reads.Given as goal

abbrev pub invariant-loop-i : goal.invariant-loop-i
invariant-loop-i l = (l.i ≤ count_of form128 l.table) × ReadFrom form128 l.table l.i
