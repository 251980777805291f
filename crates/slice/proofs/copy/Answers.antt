use Rattle.std.proofs.Common.{◌≡◌, length, ◌∙◌, arith, length-set}
use native.Mathlib.Numerals.{add-one}
use lib.Seq.{paste-suc}
use Rattle.slice.proofs.Written.{written-paste}
use Rattle.slice.proofs.copy.Goals as goal

pub returns : goal.returns
returns c =
    let e : c.loop-i.i ≡ length c.args.s.now = omega arith in
    c.loop-i.invariant.0 ∙ rw e (written-paste c.args.at c.args.s.now c.args.buf.now)

pub loop-i-preserved : goal.loop-i-preserved
loop-i-preserved c =
    let a = c.args in (
      rw (add-one c.loop-i.i, c.loop-i.invariant.0) (paste-suc a.buf.now a.at a.s.now c.loop-i.i 0 (omega arith) (omega arith)),
      length-set c.loop-i.buf _ _ ∙ c.loop-i.invariant.1,
    )
