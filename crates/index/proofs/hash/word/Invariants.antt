-- The loop keeps that the number is that of the bytes passed, from the last one down.
use Rattle.std.proofs.Common.{◌≡◌, drop}
use Rattle.model.specs.Bytes.{from_little_endian}
use Rattle.index.proofs.hash.word.Given as goal

abbrev pub invariant-loop-i : goal.invariant-loop-i
invariant-loop-i l = l.w ≡ from_little_endian (drop l.i l.key)
