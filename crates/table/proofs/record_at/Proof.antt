-- `table::record_at` meets its contract: a slot in use is within the table.
use Rattle.record.specs.Forms.{form_of}
use Rattle.record.proofs.Forms.{lawful-form}
use Rattle.table.proofs.Records.{inside-table}
use Rattle.table.proofs.Parts.{within, is-record}
use Rattle.table.proofs.record_at.Statement.{statement}
use Rattle.table.proofs.record_at.Tie as tie

slot-requires : tie.Need-slot-requires
slot-requires c κs =
    let s = c.before in
    let f = form_of s.args.form in
    inside-table f s.args.table.now s.requires.0 s.args.slot (within f s.args.table.now s.args.slot s.requires.1)

returns : tie.Need-returns
returns c =
    let s = c.before.before in
    is-record (form_of s.args.form) s.args.table.now s.requires.0 s.args.slot s.requires.1 (lawful-form s.args.form) _ c.slot.ensures

pub record_at_spec : {M : Type 1} → statement M
record_at_spec = tie.close (tie.spec slot-requires returns)
