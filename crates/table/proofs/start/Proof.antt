-- `table::start` meets its contract: the product is within the table.
use Prim.Native.Nat.{ℕ, ◌*◌}
use mathlib.Core.Path.{ap}
use native.Mathlib.Omega.{arith}
use borrow.Author.Rules.{rules}
use Rattle.table.proofs.start.Statement.{statement}
use Rattle.table.proofs.start.Tie as tie

pub start_spec : {M : Type 1} → statement M
start_spec =
    tie.close
    (tie.spec
    (λ c κs. search rules)
    (λ c. rw c.size.ensures (record { fits = omega (arith, c.requires) }))
    (λ c. ap (λ (n : ℕ). c.args.slot * n) c.size.ensures))
