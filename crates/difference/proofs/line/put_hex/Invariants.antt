-- The loop keeps that the digits of the bytes left are still to be written.
use Rattle.std.proofs.Common.{◌≡◌, ◌+◌, ◌*◌, drop}
use Rattle.model.specs.Bytes.{written}
use Rattle.model.specs.Difference.{hex}
use Rattle.difference.proofs.line.put_hex.Given as goal

abbrev pub invariant-loop-byte : goal.invariant-loop-byte
invariant-loop-byte l = (l.place ≡ l.at + 2 * l.byte-index) × (written l.at (hex l.s) l.initial.out ≡ written l.place (hex (drop l.byte-index l.s)) l.out)
