-- `record::value` meets its contract. A record in use has the value's length in range, so the part is within it.
use lib.ListN.{get_or}
use Rattle.slice.proofs.Written.{part-is}
use Rattle.record.proofs.Checking.{in-use-head}
use native.Mathlib.Omega.{arith}
use borrow.Author.Rules.{rules}
use Rattle.record.proofs.fields.value.Statement.{statement}
use Rattle.record.proofs.fields.value.Tie as tie

pub value_spec : {M : Type 1} → statement M
value_spec =
    tie.close
    (tie.spec
    (λ c. search rules)
    (λ c. omega (arith, in-use-head c.requires.form c.args.r.now c.requires.is))
    (λ c. omega (arith, in-use-head c.requires.form c.args.r.now c.requires.is))
    (λ c. search rules) (λ c. search rules)
    (λ c. omega (arith, in-use-head c.requires.form c.args.r.now c.requires.is))
    (λ c. let b = c.args.r.now in part-is 48 (get_or b 2 0) b))
