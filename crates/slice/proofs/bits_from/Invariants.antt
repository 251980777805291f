-- The loop keeps that the bytes from n on are zero just if `bits` is and those from the larger of n and 16 k on are, and that the last 16 bytes are
-- zero if `bits` is.
use Rattle.std.proofs.Common.{◌≡◌, ◌*◌, max, eqb, true}
use Rattle.slice.specs.Zeros.{zeros_from}
use Rattle.slice.proofs.Zeros.{zeros_left}
use Rattle.slice.proofs.bits_from.Given as goal

abbrev pub invariant-loop-k : goal.invariant-loop-k
invariant-loop-k l = (zeros_from l.n l.s ≡ zeros_left l.bits (max l.n (16 * l.k)) l.s) × (eqb l.bits 0 ≡ true → zeros_from l.limit l.s ≡ true)
