-- The tests are the last rows of the model's table, in their order; where all have failed, no row is left.
use mathlib.Core.List.{[]}
use lib.ListN.{drop}
use Rattle.model.specs.Command.{options}
use Rattle.model.specs.Bytes.{little_endian}
use Rattle.keyword.proofs.Codes.{all_left, by-rest, found, passed}
use Rattle.keyword.proofs.plain_option.Goals as goal

pub returns-then-spells : goal.returns-then-spells
unfolding little_endian
returns-then-spells c = found c.spells.ensures c.if-spells.true 8 (drop 9 options)

pub returns-then-spells-2 : goal.returns-then-spells-2
unfolding little_endian
returns-then-spells-2 c = found c.spells-2.ensures c.if-spells-2.true 8 (drop 9 options)

pub returns-then-spells-3 : goal.returns-then-spells-3
unfolding little_endian
returns-then-spells-3 c = found c.spells-3.ensures c.if-spells-3.true 8 (drop 9 options)

pub returns-then-spells_long : goal.returns-then-spells_long
unfolding little_endian
returns-then-spells_long c = found c.spells_long.ensures c.if-spells_long.true 8 (drop 9 options)

pub returns-then-spells_long-2 : goal.returns-then-spells_long-2
unfolding little_endian
returns-then-spells_long-2 c = found c.spells_long-2.ensures c.if-spells_long-2.true 8 (drop 9 options)

pub returns-then-spells_long-3 : goal.returns-then-spells_long-3
unfolding little_endian
returns-then-spells_long-3 c = found c.spells_long-3.ensures c.if-spells_long-3.true 8 (drop 9 options)

pub returns : goal.returns
unfolding little_endian
returns c =
    by-rest 8 (drop 9 options) []
    (passed c.spells.ensures c.if-spells.false
    (passed c.spells-2.ensures c.if-spells-2.false
    (passed c.spells-3.ensures c.if-spells-3.false
    (passed c.spells_long.ensures c.if-spells_long.false
    (passed c.spells_long-2.ensures c.if-spells_long-2.false
    (passed c.spells_long-3.ensures c.if-spells_long-3.false all_left))))))
