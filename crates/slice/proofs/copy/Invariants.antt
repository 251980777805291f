-- The first i bytes are written.
use Rattle.std.proofs.Common.{◌≡◌, length}
use lib.Seq.{paste}
use Rattle.slice.proofs.copy.Given as goal

abbrev pub invariant-loop-i : goal.invariant-loop-i
invariant-loop-i l = (l.buf ≡ paste l.fn.buf l.at l.s l.i) × (length l.buf ≡ length l.fn.buf)
