-- The loop keeps that the slots from `i` on are records with distinct keys, and that the index holds them.
use Rattle.record.specs.Forms.{form_of}
use Rattle.integrity.proofs.Passing.{Passed}
use Rattle.integrity.proofs.check.Given as goal

abbrev pub invariant-loop-i : goal.invariant-loop-i
invariant-loop-i l = Passed (form_of l.form) l.table l.heads l.next l.i
