-- The tests are the rows of the model's table, in their order; where all have failed, no row is left.
use mathlib.Core.List.{[]}
use Rattle.model.specs.Command.{names}
use Rattle.model.specs.Bytes.{little_endian}
use Rattle.keyword.proofs.Codes.{all_left, by-rest, found, passed}
use Rattle.keyword.proofs.name_of.Goals as goal

pub returns-then-spells : goal.returns-then-spells
unfolding little_endian
returns-then-spells c = found c.spells.ensures c.if-spells.true 5 names

pub returns-then-spells-2 : goal.returns-then-spells-2
unfolding little_endian
returns-then-spells-2 c = found c.spells-2.ensures c.if-spells-2.true 5 names

pub returns-then-spells-3 : goal.returns-then-spells-3
unfolding little_endian
returns-then-spells-3 c = found c.spells-3.ensures c.if-spells-3.true 5 names

pub returns-then-spells-4 : goal.returns-then-spells-4
unfolding little_endian
returns-then-spells-4 c = found c.spells-4.ensures c.if-spells-4.true 5 names

pub returns-then-spells-5 : goal.returns-then-spells-5
unfolding little_endian
returns-then-spells-5 c = found c.spells-5.ensures c.if-spells-5.true 5 names

pub returns-then-spells-6 : goal.returns-then-spells-6
unfolding little_endian
returns-then-spells-6 c = found c.spells-6.ensures c.if-spells-6.true 5 names

pub returns-then-spells-7 : goal.returns-then-spells-7
unfolding little_endian
returns-then-spells-7 c = found c.spells-7.ensures c.if-spells-7.true 5 names

pub returns-then-spells_long : goal.returns-then-spells_long
unfolding little_endian
returns-then-spells_long c = found c.spells_long.ensures c.if-spells_long.true 5 names

pub returns-then-spells-8 : goal.returns-then-spells-8
unfolding little_endian
returns-then-spells-8 c = found c.spells-8.ensures c.if-spells-8.true 5 names

pub returns-then-spells-9 : goal.returns-then-spells-9
unfolding little_endian
returns-then-spells-9 c = found c.spells-9.ensures c.if-spells-9.true 5 names

pub returns-then-spells-10 : goal.returns-then-spells-10
unfolding little_endian
returns-then-spells-10 c = found c.spells-10.ensures c.if-spells-10.true 5 names

pub returns : goal.returns
unfolding little_endian
returns c =
    by-rest 5 names []
    (passed c.spells.ensures c.if-spells.false
    (passed c.spells-2.ensures c.if-spells-2.false
    (passed c.spells-3.ensures c.if-spells-3.false
    (passed c.spells-4.ensures c.if-spells-4.false
    (passed c.spells-5.ensures c.if-spells-5.false
    (passed c.spells-6.ensures c.if-spells-6.false
    (passed c.spells-7.ensures c.if-spells-7.false
    (passed c.spells_long.ensures c.if-spells_long.false
    (passed c.spells-8.ensures c.if-spells-8.false
    (passed c.spells-9.ensures c.if-spells-9.false
    (passed c.spells-10.ensures c.if-spells-10.false all_left)))))))))))
