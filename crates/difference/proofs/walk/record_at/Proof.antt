-- `difference::record_at` meets its contract: a number of an index is that of a record in use.
use native.Mathlib.Omega.{arith}
use borrow.Author.Rules.{rules}
use Rattle.difference.proofs.Walking.{along-in-use}
use Rattle.difference.proofs.walk.record_at.Statement.{statement}
use Rattle.difference.proofs.walk.record_at.Tie as tie

record-at-requires : tie.Need-record_at-requires
record-at-requires c κs =
    (c.requires.0.good.reads, along-in-use c.requires.0 c.args.i c.requires.1)

pub record_at_spec : {M : Type 1} → statement M
record_at_spec =
    tie.close
    (tie.spec
    (λ c. search rules)
    (λ c. omega (arith, c.shared_slice_known-3-1.given c.args.i))
    record-at-requires
    (λ c. search rules))
