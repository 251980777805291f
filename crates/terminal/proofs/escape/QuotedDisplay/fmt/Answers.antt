use Rattle.std.proofs.Common.{refl, arith}
use Rattle.std.proofs.lemmas.Grind.{put_two}
use Rattle.terminal.proofs.Escapes.{quoted-next}
use Rattle.terminal.proofs.escape.QuotedDisplay.fmt.Goals as goal

pub loop-at-preserved : goal.loop-at-preserved
loop-at-preserved g c =
    let text = c.args.self.now.0.now in (
      omega (arith, c.min-end.ensures),
      λ plain.
          let before = c.loop-at.invariant.1 plain in
          put_two _ _ _ _ _ _ _ before (c.in_ok-write_piece.ensures before.plain refl) (quoted-next text c.loop-at.at c.min-end.result (omega (arith, c.min-end.ensures, c.loop-at-test.true))),
    )
