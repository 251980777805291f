-- `table::join` meets its contract: the record at the slot is changed as the borrowed one is.
use Rattle.record.specs.Attributes.{joined_record}
use Rattle.record.specs.Forms.{form_of}
use Rattle.record.proofs.Forms.{lawful-form}
use Rattle.table.specs.Slots.{Inside}
use Rattle.table.proofs.Records.{inside-table}
use Rattle.table.proofs.Parts.{Borrows, within, in_use, room, changed}
use native.Mathlib.Omega.{arith}
use borrow.Author.Rules.{rules}
use Rattle.table.proofs.change.join.Statement.{statement}
use Rattle.table.proofs.change.join.Tie as tie

-- the slot is within the table, and the part is its record's
inside : (s : tie.Start) → Inside (form_of s.args.form) s.args.table.now s.args.slot
inside s = inside-table (form_of s.args.form) s.args.table.now s.requires.0 s.args.slot (within (form_of s.args.form) s.args.table.now s.args.slot s.requires.1.0)

placed : (c : tie.After-size) → Borrows (form_of c.args.form) c.args.slot c.start-from.result c.size.result
placed c = record { begins = c.start-from.ensures; size = c.size.ensures }

join-requires : tie.Need-join-requires
join-requires c κs =
    let s = c.before.before.before.before.before in
    (in_use (form_of s.args.form) s.args.table.now s.requires.0 s.args.slot s.requires.1.0 _ _ (placed c.before) (lawful-form s.args.form), room (form_of s.args.form) s.args.table.now s.requires.0 s.args.slot s.requires.1.0 _ _ (placed c.before) s.args.s.now s.requires.1.1)

returns : tie.Need-returns
returns c =
    let w = c.before.before in
    let s = c.before.before.before.before.before.before.before.before in
    changed (form_of s.args.form) s.args.table.now s.requires.0 s.args.slot s.requires.1.0 _ _ (placed c.before.before.before.before) (joined_record s.args.front s.args.s.now s.args.attributes) w.join.new.r w.join.ensures w.join.auto.r

pub join_spec : {M : Type 1} → statement M
join_spec =
    tie.close
    (tie.spec
    (λ c κs. inside c.before.before)
    (λ c κs. search rules)
    (λ c. omega (arith, placed c, inside c.before.before.before.before))
    (λ c. search rules) (λ c. search rules)
    (λ c. omega (arith, placed c, inside c.before.before.before.before))
    join-requires (λ c. search rules) returns)
