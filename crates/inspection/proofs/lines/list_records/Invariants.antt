-- As many records are counted at most as slots were passed.
use Rattle.std.proofs.Common.{◌≤◌}
use Rattle.inspection.proofs.lines.list_records.Given as goal

abbrev pub invariant-loop-i : goal.invariant-loop-i
invariant-loop-i g l = l.used ≤ l.i
