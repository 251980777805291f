use Rattle.std.proofs.Common.{arith}
use Rattle.live.proofs.Cases.{not-live}
use Rattle.access.proofs.Doing.{number_in, does-answer, does-store}
use Rattle.access.proofs.Acting.{exsetver-absent, exsetver-live}
use Rattle.access.proofs.exsetver.Goals as goal

pub number-requires : goal.number-requires
number-requires c = (number_in c.requires.1 0 (omega arith), omega arith)

pub returns-in_default : goal.returns-in_default
returns-in_default c = does-answer _ c.args.table.now _ _ _ _ (exsetver-absent c.args.table.now c.args.target _ _ (not-live _ c.in_default.not-Live) _) c.number.ensures

pub number-requires-2 : goal.number-requires-2
number-requires-2 c = (number_in c.requires.1 1 (omega arith), omega arith)

pub returns : goal.returns
returns c = does-store _ c.args.table.now _ _ _ _ (exsetver-live c.args.table.now c.args.target _ _ _ _ c.in-Live.is _) c.set_attributes.ensures c.number-2.ensures
