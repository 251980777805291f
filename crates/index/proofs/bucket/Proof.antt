-- `table::index::bucket` meets its contract: what is under a mask is at most the mask.
use Rattle.std.proofs.Common.{◌-◌, refl, arith, rules}
use lib.Bits.{and_le_r}
use Rattle.index.proofs.bucket.Statement.{statement}
use Rattle.index.proofs.bucket.Tie as tie

pub bucket_spec : {M : Type 1} → statement M
bucket_spec =
    tie.close
    (tie.spec
    (λ c. search rules)
    (λ c. (refl, omega (arith, and_le_r c.args.hash (c.args.n - 1)))))
