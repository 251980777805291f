-- `table::hash::of_padded` meets its contract: the words that are read are the definition's.
use Rattle.std.proofs.Common.{◌∙◌, rules}
use Rattle.index.specs.Hash.{mixed}
use Rattle.index.proofs.hash.of_padded.Statement.{statement}
use Rattle.index.proofs.hash.of_padded.Tie as tie

returns : tie.Need-returns
returns c = c.mix.ensures ∙ (λ i. mixed (c.get8.ensures i) (c.get8-2.ensures i) (c.get8-3.ensures i))

pub of_padded_spec : {M : Type 1} → statement M
of_padded_spec =
    tie.close
    (tie.spec
    (λ c κs. search rules) (λ c κs. search rules) (λ c κs. search rules) (λ c κs. search rules) returns)
