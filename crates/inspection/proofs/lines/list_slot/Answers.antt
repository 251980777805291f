-- What breaks no rule and is in use is a record to print.
use Rattle.std.proofs.Common.{◌≡◌, true, sym, ◌∙◌, rules, arith}
use Rattle.std.proofs.lemmas.Grind.{common_steps}
use Rattle.model.specs.Table.{form128, read_slot}
use Rattle.model.specs.Optional.{is_some}
use Rattle.record.specs.declared.Form.TheVariants.{Of128}
use Rattle.record.proofs.Forms.{lawful-form}
use Rattle.record.proofs.Reading.{used-in-use}
use Rattle.inspection.proofs.lines.list_slot.Goals as goal

pub print_record-requires : goal.print_record-requires
print_record-requires g c =
    let read : is_some (read_slot form128 c.args.r.now) ≡ true = grind (arith, common_steps) in
    let used = sym c.in_use.ensures ∙ c.if-not-in_use.false in
    record { form = form128; lawful = lawful-form Of128; is = used-in-use form128 c.args.r.now (record { size = search rules; read = read }) used }
