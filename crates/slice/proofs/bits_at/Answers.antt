use Rattle.slice.proofs.Zeros.{or-words-zero}
use Rattle.slice.proofs.bits_at.Goals as goal

pub returns : goal.returns
returns c = rw (c.get8.ensures, c.get8-2.ensures) (or-words-zero c.args.at c.args.s.now)
