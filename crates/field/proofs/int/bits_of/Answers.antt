-- The low bits of the word are those of the number.
use Rattle.std.proofs.Common.{◌^◌, ◌∙◌}
use lib.Bits.{and_mask}
use Rattle.model.specs.Field.{modulo}
use Rattle.model.proofs.Ranges.{ends}
use Rattle.command.specs.Subcommand.{model_int}
use Rattle.number.proofs.Integers.{back_is}
use Rattle.field.proofs.Words.{word_is, word_low}
use Rattle.field.proofs.int.bits_of.Goals as goal

pub returns : goal.returns
returns c =
    let a = c.args in
    rw (c.cast_unsigned.ensures, c.mask.ensures, back_is c.ranges.z, word_is a.z c.ranges.z)
    (and_mask (modulo a.z (2 ^ 64)) a.int.width ∙ word_low a.z a.int.width (ends (model_int a.int) c.requires).narrow)
