-- A slot in use is within the table, so that its place fits.
use Rattle.record.specs.Forms.{form_of}
use Rattle.table.proofs.Records.{inside-table}
use Rattle.table.proofs.Parts.{within}
use Rattle.current.proofs.stored.Goals as goal

pub start-start-requires : goal.start-start-requires
start-start-requires c =
    let f = form_of c.args.form in
    inside-table f c.args.table.now c.requires.reads c.args.slot (within f c.args.table.now c.args.slot c.requires.in_use_at)
