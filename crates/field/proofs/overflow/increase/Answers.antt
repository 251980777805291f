-- What the mask keeps of the sum is the exact sum modulo the width; without WRAP it goes by the side of the exact sum.
use Rattle.std.proofs.Common.{◌≡◌, ◌+◌, ◌%◌, ◌^◌, ℤ, ◌+ℤ◌, refl, ap, ◌∙◌, pow_pos}
use mathlib.Core.Option.{some}
use lib.Bits.{bit_and}
use Rattle.std.specs.Prelude.{Result, Ok, Err}
use Rattle.std.specs.Result.{result_ok}
use Rattle.outcome.specs.Outcome.{to_model}
use Rattle.model.specs.Field.{IntType, modulus, modulo, meaning}
use Rattle.model.specs.Overflow.{overflow, unless_out, saturated, side}
use Rattle.model.proofs.Integers.{modulo-lt}
use Rattle.command.specs.Subcommand.{model_int}
use Rattle.number.specs.declared.Side.{Side}
use Rattle.number.specs.declared.Side.TheVariants.{Under, Over}
use Rattle.number.proofs.Integers.{back_is}
use Rattle.field.specs.Overflow.{model_side}
use Rattle.field.proofs.Words.{back-result, word_is, wrapped-bits}
use Rattle.field.proofs.overflow.increase.Goals as goal
use Rattle.field.proofs.overflow.increase.Goals.{After-mask-mask}

-- the bits that are kept
module _ (c : After-mask-mask) where
  abbrev k : IntType
  k = model_int c.args.int

  kept : bit_and ((c.args.bits + c.cast_unsigned.result) % 2 ^ 64) c.mask-mask.result ≡ modulo (meaning k c.args.bits +ℤ c.args.by) (modulus k)
  kept =
      wrapped-bits k c.requires.0 c.args.bits c.args.by c.requires.1
      (rw (c.cast_unsigned.ensures, back_is c.ranges.by) (word_is c.args.by c.ranges.by)) refl c.mask-mask.ensures

-- the sum, only if it fits
told : (r : Result ℤ Side) → to_model (result_ok r) ≡ unless_out (model_side r)
told (Ok z) = refl
told (Err Under) = refl
told (Err Over) = refl

pub number_of-requires : goal.number_of-requires
number_of-requires c =
    let k = model_int c.args.int in
    rw (kept c) (c.requires.0, modulo-lt (meaning k c.args.bits +ℤ c.args.by) (modulus k) (pow_pos k.width))

pub returns-in-Wrap : goal.returns-in-Wrap
unfolding overflow
returns-in-Wrap c =
    rw c.in-Wrap.is (ap some (back-result c.number_of.type_inv (c.number_of.ensures ∙ ap (meaning (model_int c.args.int)) (kept c.before))))

pub returns-in-Sat : goal.returns-in-Sat
unfolding overflow
returns-in-Sat c =
    let k = model_int c.args.int in
    let old = back-result c.number_of-in-Sat.type_inv c.number_of-in-Sat.ensures in
    rw c.in-Sat.is
    (ap some (back-result c.saturated.type_inv (c.saturated.ensures ∙ (λ i. saturated k (side k (old i +ℤ back_is c.ranges.by i))))))

pub returns-in-Fail : goal.returns-in-Fail
unfolding overflow
returns-in-Fail c =
    let k = model_int c.args.int in
    let old = back-result c.number_of-in-Fail.type_inv c.number_of-in-Fail.ensures in
    rw c.in-Fail.is
    (ap to_model c.ok.ensures.value ∙ told c.side_of.result ∙ ap unless_out (c.side_of.ensures ∙ (λ i. side k (old i +ℤ back_is c.ranges.by i))))
