-- `difference::write_between` meets its contract: each list has room for an index, and the part that is handed on is the index.
use native.Mathlib.Omega.{arith}
use borrow.Author.Rules.{rules}
use Rattle.model.specs.Table.{form128}
use Rattle.table.proofs.Records.{slots-limit}
use Rattle.order.proofs.Listing.{ascends}
use Rattle.difference.proofs.Walking.{along-part}
use Rattle.difference.proofs.walk.write_between.Statement.{statement}
use Rattle.difference.proofs.walk.write_between.Tie as tie

write-lines-requires : tie.Need-write_lines-requires
write-lines-requires c κs =
    let p = c.requires in
    (along-part p.0.0 c.make_index-n.ensures, along-part p.0.1 c.make_index-m.ensures, p.1.2)

pub write_between_spec : {M : Type 1} → statement M
write_between_spec =
    tie.close
    (tie.spec
    (λ c κs. let g = c.requires in
    (g.0.0, omega (arith, g.1.0, slots-limit form128 _ g.0.0.reads)))
    (λ c κs. let g = c.requires in
    (g.0.1, omega (arith, g.1.1, slots-limit form128 _ g.0.1.reads)))
    (λ c. search rules) (λ c. search rules)
    (λ c. (ascends c.requires.0.0.keys c.make_index-n.ensures).room)
    (λ c. search rules) (λ c. search rules)
    (λ c. (ascends c.requires.0.1.keys c.make_index-m.ensures).room)
    write-lines-requires
    (λ c. search rules) (λ c. search rules) (λ c. search rules) (λ c. search rules))
