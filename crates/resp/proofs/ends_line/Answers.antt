-- Two bytes must be left.
use Rattle.std.proofs.Common.{sym, arith}
use Rattle.resp.proofs.Places.{ends-short}
use Rattle.resp.proofs.ends_line.Goals as goal

pub returns-then-s-lt2 : goal.returns-then-s-lt2
returns-then-s-lt2 c = sym (ends-short c.args.s.now c.args.at (omega arith))

pub returns-then-s-at : goal.returns-then-s-at
returns-then-s-at c = sym (ends-short c.args.s.now c.args.at (omega arith))
