-- By what the subcommand does.
use mathlib.Core.Path.{◌≡◌, refl, sym, ap, ◌∙◌, subst}
use mathlib.Core.List.{List}
use Prim.Native.Nat.{ℕ, ◌<◌}
use lib.ListN.{take}
use lib.IntN.{ℤ}
use mir.Syntax.{w64}
use mir.Val.{SFits}
use borrow.Author.Rules.{rules}
use Rattle.outcome.specs.Outcome.{to_model}
use Rattle.model.specs.Field.{modulus, meaning, Field, field_bits, get_field}
use Rattle.model.proofs.Fields.{field_bits-lt}
use Rattle.number.proofs.Integers.{back_is}
use Rattle.field.proofs.Words.{back-result}
use Rattle.bitfield.specs.Run.{Clean}
use Rattle.bitfield.proofs.Padded.{field_bits-padded}
use Rattle.bitfield.proofs.Subcommands.{typed-field, get-leaves, set-leaves, sum_of, nil-leaves, sum-leaves}
use Rattle.bitfield.proofs.run_sub.Goals as goal

-- the bits read are those of the field in the value
module _ (f : Field) {b : List ℕ} {len x : ℕ} (c : Clean b len) (e : x ≡ field_bits f b) where
  bits_is : x ≡ field_bits f (take len b)
  bits_is = e ∙ (ap (field_bits f) c.holds.bytes ∙ field_bits-padded f _ _)

  -- and below the modulus of the type
  small : x < modulus f.type
  small = subst (λ (x : ℕ). x < modulus f.type) (sym e) (field_bits-lt f b)

  -- the number that they mean
  number_is : {z : ℤ} → z ≡ meaning f.type x → z ≡ get_field f (take len b)
  number_is h = h ∙ ap (meaning f.type) bits_is

pub number_of-requires : goal.number_of-requires
number_of-requires c = (typed-field c.args.sub c.requires.typed, small _ c.requires.clean c.read_bits-bits.ensures)

pub number_of-old-requires : goal.number_of-old-requires
number_of-old-requires c = (typed-field c.args.sub c.requires.typed, small _ c.requires.clean c.read_bits-bits.ensures)

pub increase-requires : goal.increase-requires
increase-requires c = (typed-field c.args.sub c.requires.typed, small _ c.requires.clean c.read_bits-bits.ensures)

pub returns-in_default : goal.returns-in_default
returns-in_default c =
    let s = c.args.sub in
    let v = take c.args.len c.args.value.now in
    let g : SFits w64 s.number = search rules in
    nil-leaves s v c.in-Incrby.is c.requires.clean.holds
    (sum_of s c.in-Incrby.mode v (sym (ap to_model c.in_default.is) ∙ c.increase.ensures) (number_is _ c.requires.clean c.read_bits-bits.ensures refl) (back_is g))

pub returns-in-Get : goal.returns-in-Get
returns-in-Get c =
    get-leaves c.args.sub (take c.args.len c.args.value.now) c.in-Get.is c.requires.clean.holds
    (number_is _ c.requires.clean c.read_bits-bits.ensures (back-result c.number_of.type_inv c.number_of.ensures))

pub returns-in-Set : goal.returns-in-Set
returns-in-Set c =
    let s = c.args.sub in
    let g : SFits w64 s.number = search rules in
    set-leaves s (take c.args.len c.args.value.now) c.in-Set.is
    (number_is _ c.requires.clean c.read_bits-bits.ensures (back-result c.number_of-old.type_inv c.number_of-old.ensures))
    (back_is g) c.set_field.ensures

pub returns-in-Some : goal.returns-in-Some
returns-in-Some c =
    let s = c.args.sub in
    let v = take c.args.len c.args.value.now in
    let g : SFits w64 s.number = search rules in
    let h : SFits w64 c.in-Some.z = search rules in
    sum-leaves s v c.in-Incrby.is (back_is h)
    (sum_of s c.in-Incrby.mode v (sym (ap to_model c.in-Some.is) ∙ c.increase.ensures) (number_is _ c.requires.clean c.read_bits-bits.ensures refl) (back_is g))
    c.set_field-in-Incrby.ensures
