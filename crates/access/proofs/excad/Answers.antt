use Rattle.std.proofs.Common.{◌∙◌, arith}
use borrow.Author.Tests.{eq-eqb, ne_eqb}
use Rattle.live.proofs.Cases.{not-live}
use Rattle.access.proofs.Doing.{minus_one-in, number_in, does-answer, does-store}
use Rattle.access.proofs.Acting.{excad-absent, excad-live}
use Rattle.access.proofs.excad.Goals as goal

pub minus_one-requires : goal.minus_one-requires
minus_one-requires c = minus_one-in c.requires.1

pub returns-in_default : goal.returns-in_default
returns-in_default c = does-answer _ c.args.table.now _ _ _ _ (excad-absent c.args.table.now c.args.target _ _ (not-live _ c.in_default.not-Live) _) c.minus_one.ensures

pub number-requires : goal.number-requires
number-requires c = (number_in c.requires.1 _ (omega arith), omega arith)

pub returns-then-version-attributes : goal.returns-then-version-attributes
returns-then-version-attributes c =
    does-store _ c.args.table.now _ _ _ _ (excad-live c.args.table.now c.args.target _ _ _ _ c.in-Live.is _ ∙ rw (eq-eqb _ _ c.if-version-attributes.true)) c.clear.ensures c.number.ensures

pub number-requires-2 : goal.number-requires-2
number-requires-2 c = (number_in c.requires.1 _ (omega arith), omega arith)

pub returns : goal.returns
returns c = does-answer _ c.args.table.now _ _ _ _ (excad-live c.args.table.now c.args.target _ _ _ _ c.in-Live.is _ ∙ rw (ne_eqb _ _ c.if-version-attributes.false)) c.number-2.ensures
