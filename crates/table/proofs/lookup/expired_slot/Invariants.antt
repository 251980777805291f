-- The loop keeps that no slot passed has an expired record.
use Rattle.model.specs.Search.{lowest, is_expired}
use Rattle.record.specs.Forms.{form_of}
use Rattle.table.specs.Slots.{slots_of}
use Rattle.table.proofs.Search.{Searched}
use Rattle.table.proofs.lookup.expired_slot.Given as goal

abbrev pub invariant-loop-i : goal.invariant-loop-i
invariant-loop-i l = let ss = slots_of (form_of l.form) l.table in Searched (is_expired l.time) ss (lowest (is_expired l.time) ss) l.n l.i
