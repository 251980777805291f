-- The loop keeps that no slot passed is empty.
use Rattle.model.specs.Table.{is_empty}
use Rattle.model.specs.Search.{lowest}
use Rattle.record.specs.Forms.{form_of}
use Rattle.table.specs.Slots.{slots_of}
use Rattle.table.proofs.Search.{Searched}
use Rattle.table.proofs.lookup.empty_slot.Given as goal

abbrev pub invariant-loop-i : goal.invariant-loop-i
invariant-loop-i l = let ss = slots_of (form_of l.form) l.table in Searched is_empty ss (lowest is_empty ss) l.n l.i
