-- `record::is_head` meets its contract: its tests are the definition's.
use mathlib.Core.Bool.{and-true}
use Rattle.record.specs.Record.{is_head}
use native.Mathlib.Omega.{arith}
use borrow.Author.Rules.{rules}
use Rattle.record.proofs.valid.is_head.Statement.{statement}
use Rattle.record.proofs.valid.is_head.Tie as tie

returns : tie.Need-returns
unfolding is_head
returns c = rw (c.limit.ensures, c.mark.ensures, c.get8-version_fits.ensures, c.get8-expiry_fits.ensures, and-true)

pub is_head_spec : {M : Type 1} → statement M
is_head_spec =
    tie.close
    (tie.spec
    (λ c. search rules)
    (λ c. omega (arith, c.shared_slice_known-2-1.given 1))
    (λ c. search rules)
    (λ c. omega (arith, c.shared_slice_known-2-1.given 2))
    (λ c κs. search rules) (λ c. search rules) (λ c κs. search rules) (λ c κs. search rules) (λ c κs. search rules) (λ c. search rules) returns)
