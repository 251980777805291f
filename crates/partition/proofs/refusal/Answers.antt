-- `refusal` meets its contract: the refusal of the part's place, or that of the part as a table of its own.
use Rattle.std.proofs.Common.{sym, ap, ◌∙◌}
use Rattle.model.specs.Table.{form128}
use Rattle.integrity.specs.Check.{faultless}
use Rattle.integrity.proofs.Verdict.{good-slots, not_good}
use Rattle.partition.specs.Parts.{model_view, refusal_of}
use Rattle.partition.proofs.Parts.{part_bytes}
use Rattle.partition.proofs.refusal.Goals as goal

pub returns-in-Ok : goal.returns-in-Ok
returns-in-Ok c =
    let t = c.args.table.now in let v = model_view c.args.view in let i = c.in-Ok.ensures in
    sym (ap refusal_of (i.tests ∙ good-slots form128 _ (ap (faultless form128) (sym (part_bytes form128 v t i)) ∙ (sym c.passes.ensures ∙ c.if-passes.true))))

pub returns-in-Ok-2 : goal.returns-in-Ok-2
returns-in-Ok-2 c =
    let t = c.args.table.now in let v = model_view c.args.view in let i = c.in-Ok.ensures in
    sym (ap refusal_of (i.tests ∙ not_good form128 _ (ap (faultless form128) (sym (part_bytes form128 v t i)) ∙ (sym c.passes.ensures ∙ c.if-passes.false))))
