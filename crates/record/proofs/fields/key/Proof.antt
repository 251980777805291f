-- `record::key` meets its contract. A record in use has the key's length in range, so the part is within it.
use lib.ListN.{get_or}
use Rattle.slice.proofs.Written.{part-is}
use Rattle.record.proofs.Checking.{in-use-head}
use native.Mathlib.Omega.{arith}
use borrow.Author.Rules.{rules}
use Rattle.record.proofs.fields.key.Statement.{statement}
use Rattle.record.proofs.fields.key.Tie as tie

pub key_spec : {M : Type 1} → statement M
key_spec =
    tie.close
    (tie.spec
    (λ c. search rules)
    (λ c. omega (arith, in-use-head c.requires.form c.args.r.now c.requires.is))
    (λ c. omega (arith, in-use-head c.requires.form c.args.r.now c.requires.is))
    (λ c. search rules) (λ c. search rules)
    (λ c. omega (arith, in-use-head c.requires.form c.args.r.now c.requires.is))
    (λ c. let b = c.args.r.now in part-is 24 (get_or b 1 0) b))
