-- The low bits under a mask are the remainder.
use Rattle.std.proofs.Common.{◌/◌, ◌^◌, ap, ◌∙◌, arith}
use lib.Bits.{bit_and, and_mask}
use Rattle.field.proofs.Words.{ones-shift}
use Rattle.field.proofs.bits.bits_above.Goals as goal

pub returns : goal.returns
returns c =
    let a = c.args in
    ap (bit_and (a.bits / 2 ^ a.lower)) (ones-shift 8 a.n (omega (arith, c.requires))) ∙ and_mask (a.bits / 2 ^ a.lower) a.n
