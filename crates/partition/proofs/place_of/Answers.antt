-- `place_of` meets its contract: a bad boundary is refused after a table that does not read.
use Rattle.std.proofs.Common.{ℕ, sym, ap, ◌∙◌, ◌&&◌}
use lib.Dec.{leb, ltb}
use Rattle.model.specs.Table.{form128}
use Rattle.partition.proofs.Parts.{wrong_size, bad-boundary}
use Rattle.partition.proofs.place_of.Goals as goal

pub returns-then-reads : goal.returns-then-reads
returns-then-reads c =
    let a = c.args in
    bad-boundary form128 a.boundary a.table.now (sym c.reads.ensures ∙ c.if-reads.true)
    (ap (λ (m : ℕ). leb 1 a.boundary && ltb a.boundary m) (sym c.count.ensures) ∙ c.if-not-good.true)

pub returns : goal.returns
returns c = wrong_size form128 c.args.boundary c.args.table.now (sym c.has_size.ensures ∙ c.if-has_size.false)
