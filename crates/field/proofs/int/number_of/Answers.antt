-- From the half on, what is left above it is added to the least number; below, the bits are the number.
use Rattle.std.proofs.Common.{◌≡◌, ℕ, ℤ, true, refl, ◌+◌, ◌-◌, ◌*◌, ◌%◌, ◌^◌, ◌<◌, ◌≤◌, ◌+ℤ◌, sym, ◌∙◌, arith, w64, to_z}
use mir.Facts.{to_z_pos}
use Rattle.model.specs.Field.{IntType, is_int_type, modulus, negatives, least, meaning}
use Rattle.model.proofs.Ranges.{ends, meaning-pos, meaning-signed}
use Rattle.command.specs.Subcommand.{model_int}
use Rattle.number.proofs.Integers.{back_is}
use Rattle.field.proofs.Words.{one_shifted, back-result, unsigned-none, meaning-word, twice}
use Rattle.field.proofs.int.number_of.Goals as goal
use Rattle.field.proofs.int.number_of.Goals.{then-int+else-half-bits, else-int}

module _ (k : IntType) (law : is_int_type k ≡ true) where
  -- the half
  half_is : k.signed ≡ true → 1 * 2 ^ (k.width - 1) % 2 ^ 64 ≡ negatives k
  half_is s = one_shifted (k.width - 1) (omega (arith, (ends k law).narrow, (ends k law).wide)) ∙ rw s refl

  -- from the half on, what the machine adds
  above : {x : ℕ} {r : ℤ} → k.signed ≡ true → 1 * 2 ^ (k.width - 1) % 2 ^ 64 ≤ x → x < modulus k → r ≡ least k
      → to_z w64 (x - 1 * 2 ^ (k.width - 1) % 2 ^ 64) +ℤ r ≡ meaning k x
  above {x} s h l e =
      let on : negatives k ≤ x = omega (arith, half_is s) in
      let rest : x - negatives k < 2 ^ 63 = omega (arith, twice k law s, (ends k law).bottom) in
      rw (half_is s, to_z_pos w64 rest, e) (sym (meaning-signed k x (ends k law).wide s on l))

  -- below the half, or of an unsigned type
  low-is : (x : ℕ) → x + negatives k < modulus k → to_z w64 x ≡ meaning k x
  low-is x h =
      let small : x < 2 ^ 63 = omega (arith, (ends k law).top) in
      to_z_pos w64 small ∙ sym (meaning-pos k x h)

pub returns-then-half-bits : goal.returns-then-half-bits
returns-then-half-bits c =
    let k = model_int c.args.int in
    let known = c.requires.0 in
    rw (above k known c.if-int.true c.if-half-bits.true c.requires.1 (back-result c.least.type_inv c.least.ensures)) (back_is (meaning-word k known c.args.bits c.requires.1))

pub returns : goal.returns
returns c =
    let k = model_int c.args.int in
    let known = c.requires.0 in
    low-is k known c.args.bits
    (elim c.if-int.branch [
      | then-int+else-half-bits w ↦ omega (arith, w.if-half-bits.false, half_is k known w.if-int.true, twice k known w.if-int.true)
      | else-int w ↦ omega (arith, c.requires.1, unsigned-none k w.if-int.false)
    ])
