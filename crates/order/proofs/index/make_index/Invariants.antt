-- The loop keeps that the list holds the index of the slots from `slot` on.
use Rattle.std.proofs.Common.{length}
use Rattle.record.specs.Forms.{form_of}
use Rattle.order.specs.Places.{Lists}
use Rattle.order.proofs.index.make_index.Given as goal

abbrev pub invariant-loop-slot : goal.invariant-loop-slot
invariant-loop-slot l = Lists (form_of l.form) l.table l.slot (length l.initial.list) l.list l.n
