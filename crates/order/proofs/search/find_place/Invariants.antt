-- The loop keeps that keys below `low` are earlier, and those from `high` on later.
use Rattle.std.proofs.Common.{◌-◌}
use Rattle.record.specs.Forms.{form_of}
use Rattle.order.proofs.Halving.{Narrowed}
use Rattle.order.proofs.search.find_place.Given as goal

abbrev pub invariant-loop-low : goal.invariant-loop-low
invariant-loop-low l = Narrowed (form_of l.form) l.table l.list l.n l.key l.low l.high

abbrev pub decreases-loop-low : goal.decreases-loop-low
decreases-loop-low l = l.high - l.low
