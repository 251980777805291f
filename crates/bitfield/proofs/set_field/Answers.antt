-- The field is written to the buffer as to the value.
use mathlib.Core.Path.{refl, ap, ◌∙◌}
use mathlib.Core.Option.{some}
use Prim.Native.Nat.{ℕ}
use lib.IntN.{ℤ}
use Rattle.model.specs.Field.{modulus, modulo, set_field_bits}
use Rattle.number.proofs.Integers.{back_is}
use Rattle.command.specs.Subcommand.{model_field}
use Rattle.bitfield.proofs.Padded.{set_holds}
use Rattle.bitfield.proofs.set_field.Goals as goal

pub returns : goal.returns
returns c =
    let f = model_field c.args.field in
    let bits = c.bits_of.ensures ∙ ap (λ (z : ℤ). modulo z (modulus f.type)) (back_is c.ranges.z) in
    let bytes = c.write_bits.ensures ∙ ap (λ (x : ℕ). set_field_bits f x c.args.value.now) bits in
    record {
      holds = set_holds f c.requires.clean c.requires.typed c.requires.within c.args.z bytes c.max.ensures;
      wrote = refl;
      answered = ap some (back_is c.ranges.answer);
    }
