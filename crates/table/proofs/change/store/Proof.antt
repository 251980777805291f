-- `table::store` meets its contract: the record writer leaves the bytes of the new record.
use mathlib.Core.Path.{ap, ◌∙◌}
use lib.ListN.{length}
use Rattle.record.specs.Forms.{form_of}
use Rattle.table.specs.Slots.{Inside}
use Rattle.table.proofs.Records.{inside-table}
use Rattle.table.proofs.Parts.{Borrows, borrowed, length-slot, replaced}
use native.Mathlib.Omega.{arith}
use borrow.Author.Rules.{rules}
use Rattle.table.proofs.change.store.Statement.{statement}
use Rattle.table.proofs.change.store.Tie as tie

-- the slot is within the table, and the part is its record's
inside : (s : tie.Start) → Inside (form_of s.args.form) s.args.table.now s.args.slot
inside s = inside-table (form_of s.args.form) s.args.table.now s.requires.0 s.args.slot s.requires.1.0

placed : (c : tie.After-size) → Borrows (form_of c.args.form) c.args.slot c.start-from.result c.size.result
placed c = record { begins = c.start-from.ensures; size = c.size.ensures }

write-requires : tie.Need-write-requires
write-requires c κs =
    let s = c.before.before.before.before.before.before in
    (ap length (borrowed (form_of s.args.form) s.args.table.now s.args.slot _ _ (placed c.before)) ∙ length-slot (form_of s.args.form) s.args.table.now s.args.slot (inside s), s.requires.1.1.0, s.requires.1.1.1)

returns : tie.Need-returns
returns c =
    let w = c.before.before in
    let s = c.before.before.before.before.before.before.before.before.before in
    replaced (form_of s.args.form) s.args.table.now s.requires.0 s.args.slot s.requires.1.0 _ _ (placed c.before.before.before.before) _ w.write.new.r w.write.ensures w.write.auto.r

pub store_spec : {M : Type 1} → statement M
store_spec =
    tie.close
    (tie.spec
    (λ c κs. inside c.before.before.before)
    (λ c κs. search rules)
    (λ c. omega (arith, placed c, inside c.before.before.before.before.before))
    (λ c. search rules) (λ c. search rules)
    (λ c. omega (arith, placed c, inside c.before.before.before.before.before))
    write-requires (λ c. search rules) returns)
