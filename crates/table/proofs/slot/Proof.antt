-- `table::slot` meets its contract.
use Rattle.record.specs.Forms.{form_of}
use Rattle.table.proofs.Parts.{borrowed}
use borrow.Author.Rules.{rules}
use Rattle.table.proofs.slot.Statement.{statement}
use Rattle.table.proofs.slot.Tie as tie

returns : tie.Need-returns
returns c =
    let s = c.before.before.before.before in
    borrowed (form_of s.args.form) s.args.table.now s.args.slot c.start-from.result c.size.result
    (record { begins = c.start-from.ensures; size = c.size.ensures })

pub slot_spec : {M : Type 1} → statement M
slot_spec =
    tie.close
    (tie.spec
    (λ c κs. search rules) (λ c κs. search rules) (λ c. search rules) (λ c. search rules) (λ c. search rules) (λ c. search rules) returns)
