-- The time is above the limit, so the refusal tells of the table alone.
use Rattle.std.proofs.Common.{◌∙◌, ◌+◌, [], ap, not, subst, arith}
use Rattle.std.specs.Prelude.{Err}
use Rattle.model.specs.Table.{time_limit}
use Rattle.outcome.specs.Outcome.{number_of}
use Rattle.entry.specs.declared.Query.{Query}
use Rattle.entry.specs.Gated.{Prepares}
use Rattle.entry.proofs.Late.{late-told, is-damaged}
use Rattle.entry.proofs.passes.Goals as goal

pub returns : goal.returns
returns c =
    let q : Query = record { time = time_limit + 1; room = 0 } in
    c.ne.ensures
    ∙ (ap not (is-damaged c.in-Err-Silent.refusal)
    ∙ late-told q c.args.table.now [] (omega arith) (number_of c.in-Err-Silent.refusal) (subst (λ e. Prepares q c.args.table.now [] (Err e)) c.in-Err-Silent.field-0-is c.in-Err-Silent.ensures))
