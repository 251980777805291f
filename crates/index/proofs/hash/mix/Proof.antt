-- `table::hash::mix` meets its contract: the number is the definition's.
use Rattle.index.specs.Hash.{mixed}
use Rattle.std.proofs.Common.{rules}
use Rattle.index.proofs.hash.mix.Statement.{statement}
use Rattle.index.proofs.hash.mix.Tie as tie

returns : tie.Need-returns
unfolding mixed
returns c = rw (c.with_word-all.ensures, c.with_word.ensures)

pub mix_spec : {M : Type 1} → statement M
mix_spec =
    tie.close
    (tie.spec
    (λ c κs. search rules) (λ c κs. search rules) (λ c. search rules) (λ c. search rules) returns)
