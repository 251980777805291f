-- The bytes from i to n are written; what stands before them is as it was.
use Rattle.std.proofs.Common.{◌≡◌, ◌+◌, length}
use lib.Seq.{slice}
use Rattle.model.specs.Bytes.{written}
use Rattle.slice.proofs.move_up.Given as goal

abbrev pub invariant-loop-i : goal.invariant-loop-i
invariant-loop-i l = (l.buf ≡ written (l.by + l.i) (slice l.i l.n l.fn.buf) l.fn.buf) × (length l.buf ≡ length l.fn.buf)
