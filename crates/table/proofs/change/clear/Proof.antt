-- `table::clear` meets its contract: the record writer leaves the bytes of an empty record.
use mathlib.Core.Path.{ap, ◌∙◌}
use Prim.Native.Nat.{ℕ}
use lib.ListN.{length, replicate}
use Rattle.model.specs.Table.{empty}
use Rattle.record.specs.Forms.{form_of}
use Rattle.table.specs.Slots.{Inside}
use Rattle.table.proofs.Records.{inside-table}
use Rattle.table.proofs.Parts.{Borrows, borrowed, length-slot, replaced}
use native.Mathlib.Omega.{arith}
use borrow.Author.Rules.{rules}
use Rattle.table.proofs.change.clear.Statement.{statement}
use Rattle.table.proofs.change.clear.Tie as tie

-- the slot is within the table, and the part is its record's
inside : (s : tie.Start) → Inside (form_of s.args.form) s.args.table.now s.args.slot
inside s = inside-table (form_of s.args.form) s.args.table.now s.requires.0 s.args.slot s.requires.1

placed : (c : tie.After-size) → Borrows (form_of c.args.form) c.args.slot c.start-from.result c.size.result
placed c = record { begins = c.start-from.ensures; size = c.size.ensures }

returns : tie.Need-returns
returns c =
    let w = c.before.before in
    let s = c.before.before.before.before.before.before.before in
    let size = ap length (borrowed (form_of s.args.form) s.args.table.now s.args.slot _ _ (placed c.before.before.before.before)) ∙ length-slot (form_of s.args.form) s.args.table.now s.args.slot (inside s) in
    replaced (form_of s.args.form) s.args.table.now s.requires.0 s.args.slot s.requires.1 _ _ (placed c.before.before.before.before) empty w.clear.new.r (w.clear.ensures ∙ ap (λ (n : ℕ). replicate n 0) size) w.clear.auto.r

pub clear_spec : {M : Type 1} → statement M
clear_spec =
    tie.close
    (tie.spec
    (λ c κs. inside c.before)
    (λ c κs. search rules)
    (λ c. omega (arith, placed c, inside c.before.before.before))
    (λ c. search rules) (λ c. search rules)
    (λ c. omega (arith, placed c, inside c.before.before.before))
    (λ c κs. search rules) (λ c. search rules) returns)
