-- The tests are the rows of the model's table, in their order; where all have failed, no row is left.
use mathlib.Core.List.{[]}
use Rattle.model.specs.Subcommands.{modes}
use Rattle.model.specs.Bytes.{little_endian}
use Rattle.keyword.proofs.Codes.{all_left, by-rest, found, passed}
use Rattle.keyword.proofs.mode_of.Goals as goal

pub returns-then-spells : goal.returns-then-spells
unfolding little_endian
returns-then-spells c = found c.spells.ensures c.if-spells.true 8 modes

pub returns-then-spells-2 : goal.returns-then-spells-2
unfolding little_endian
returns-then-spells-2 c = found c.spells-2.ensures c.if-spells-2.true 8 modes

pub returns-then-spells-3 : goal.returns-then-spells-3
unfolding little_endian
returns-then-spells-3 c = found c.spells-3.ensures c.if-spells-3.true 8 modes

pub returns : goal.returns
unfolding little_endian
returns c =
    by-rest 8 modes []
    (passed c.spells.ensures c.if-spells.false
    (passed c.spells-2.ensures c.if-spells-2.false
    (passed c.spells-3.ensures c.if-spells-3.false all_left)))
