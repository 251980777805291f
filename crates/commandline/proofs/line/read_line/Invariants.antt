-- The places that are left fall, and lie below the count.
use Rattle.std.proofs.Common.{◌-◌, ◌≤◌}
use Rattle.commandline.proofs.line.read_line.Given as goal

abbrev pub invariant-loop-at : goal.invariant-loop-at
invariant-loop-at g l = l.places.end ≤ l.count

abbrev pub decreases-loop-at : goal.decreases-loop-at
decreases-loop-at g l = l.places.end - l.places.start
