use Rattle.std.proofs.Common.{◌∙◌, List, ℕ, subst, arith}
use Rattle.slice.specs.Wrote.{Wrote}
use Rattle.slice.proofs.Writing.{same_size, wrote_then}
use Rattle.terminal.proofs.Escapes.{escaped_all-next}
use Rattle.terminal.proofs.escape.escape.Goals as goal

pub loop-b-preserved : goal.loop-b-preserved
loop-b-preserved c =
    let v = c.loop-b.invariant in
    let step = c.put_escaped-at.ensures in
    let text = c.args.text.now in (
      same_size (omega (arith, v.1, v.0, c.requires)) step.wrote ∙ v.0,
      omega (arith, v.1, step.few),
      subst (λ (t : List ℕ). Wrote 0 t c.args.out.now c.put_escaped-at.new.out c.put_escaped-at.result)
          (escaped_all-next text c.loop-b.b-index (omega arith)) (wrote_then (omega arith) v.2 step.wrote),
    )
