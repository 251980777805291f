-- `table::hash::of_key` meets its contract: the words are those of the key with the zeros after it.
use Rattle.std.proofs.Common.{◌∙◌, rules}
use Rattle.index.specs.Hash.{mixed}
use Rattle.index.proofs.hash.of_key.Statement.{statement}
use Rattle.index.proofs.hash.of_key.Tie as tie

returns : tie.Need-returns
returns c = c.mix.ensures ∙ (λ i. mixed (c.word.ensures i) (c.word-2.ensures i) (c.word-3.ensures i))

pub of_key_spec : {M : Type 1} → statement M
of_key_spec =
    tie.close
    (tie.spec
    (λ c κs. search rules) (λ c κs. search rules) (λ c κs. search rules) (λ c κs. search rules) returns)
