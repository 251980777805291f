-- A field, and then a number where the operation has one.
use Rattle.std.proofs.Common.{◌≡◌, refl, sym, ap, ◌∙◌, ℤ, pos, SFits, w64, rules}
use Rattle.std.proofs.lemmas.Result.{err_from_is_err_and}
use Rattle.model.specs.Checked.{given}
use Rattle.model.specs.Subcommands.{field_in}
use Rattle.std.specs.Prelude.{Some}
use Rattle.std.proofs.Math.Option.{Option, some}
use Rattle.outcome.specs.Outcome.{from_model}
use Rattle.number.proofs.Integers.{back, back_is}
use Rattle.command.specs.Subcommand.{model_field}
use Rattle.model.proofs.Subcommands.{field-known}
use Rattle.subcommands.proofs.Answers.{given-some, from-none, from-some}
use Rattle.subcommands.proofs.Acting.{placed, acted, no_number, gets, sets-wrong, sets, adds}
use Rattle.subcommands.proofs.word.sub_in.Goals as goal

pub returns-in_err-field : goal.returns-in_err-field
returns-in_err-field c =
    let a = c.args in
    let p = err_from_is_err_and c.from_residual.result c.from_residual.ensures.1 in
    rw (p.1, p.2) (placed a.operation a.int.now a.offset.now a.number.now c.in_err-field.ensures)

pub returns-in-Get : goal.returns-in-Get
returns-in-Get c =
    let a = c.args in
    ap (given 9) (gets c.in_ok-field.field c.in-Get.is (pos 0) _) ∙ acted a.operation a.int.now a.offset.now a.number.now c.in_ok-field.ensures refl

pub returns-in_default-read_signed : goal.returns-in_default-read_signed
returns-in_default-read_signed c =
    let a = c.args in
    ap (given 9) (no_number a.operation c.in_default.not-Get (model_field c.in_ok-field.field))
    ∙ acted a.operation a.int.now a.offset.now a.number.now c.in_ok-field.ensures (from-none _ c.in_default-read_signed.ensures)

-- the number that was read, as it is handed on
read : {o : Option ℤ} {z : ℤ} → Some z ≡ from_model o → SFits w64 z → o ≡ some (back z)
read {o} e f = from-some o e ∙ ap {B = Option ℤ} some (sym (back_is f))

pub returns-then-not-fits : goal.returns-then-not-fits
returns-then-not-fits c =
    let a = c.args in
    let z = c.in-Some.number in
    let fits : SFits w64 z = search rules in
    ap (given 9) (sets-wrong c.in_ok-field.field c.in-Set.is (back z) (sym c.if-not-fits.ensures))
    ∙ acted a.operation a.int.now a.offset.now a.number.now c.in_ok-field.ensures (read c.in-Some.ensures fits)

pub returns-else-not-fits : goal.returns-else-not-fits
returns-else-not-fits c =
    let a = c.args in
    let z = c.in-Some.number in
    let fits : SFits w64 z = search rules in
    ap (given 9) (sets c.in_ok-field.field c.in-Set.is (back z) (sym c.if-not-fits.ensures))
    ∙ acted a.operation a.int.now a.offset.now a.number.now c.in_ok-field.ensures (read c.in-Some.ensures fits)

pub returns-in_default-operation : goal.returns-in_default-operation
returns-in_default-operation c =
    let a = c.args in
    let z = c.in-Some.number in
    let fits : SFits w64 z = search rules in
    ap (given 9) (adds a.operation c.in_default.not-Get c.in_default-operation.not-Set c.in_ok-field.field (back z))
    ∙ acted a.operation a.int.now a.offset.now a.number.now c.in_ok-field.ensures (read c.in-Some.ensures fits)

pub fits-requires : goal.fits-requires
fits-requires c =
    let a = c.args in
    let f = model_field c.in_ok-field.field in
    field-known a.int.now a.offset.now f (given-some 9 (field_in a.int.now a.offset.now) c.in_ok-field.ensures)
