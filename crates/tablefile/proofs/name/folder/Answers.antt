use Rattle.std.proofs.Common.{◌≡◌, sym, ap, ◌∙◌, take, arith}
use Rattle.tablefile.specs.Names.{after_slash}
use Rattle.tablefile.proofs.Slashes.{other, slash}
use Rattle.tablefile.proofs.name.folder.Goals as goal

pub returns-then-path-i-eq47 : goal.returns-then-path-i-eq47
returns-then-path-i-eq47 c =
    let p = c.args.path.now in
    let last = slash p c.loop-i.i (omega arith) (omega arith) c.if-path-i-eq47.true in
    (omega arith ∙ sym (c.loop-i.invariant ∙ last), omega arith)

pub loop-i-preserved : goal.loop-i-preserved
loop-i-preserved c = c.loop-i.invariant ∙ other c.args.path.now c.loop-i.i (omega arith) (omega arith) c.if-path-i-eq47.false

pub returns : goal.returns
unfolding after_slash
returns c =
    let z : c.loop-i.i ≡ 0 = omega arith in
    (sym (c.loop-i.invariant ∙ ap (λ n. after_slash (take n c.args.path.now)) z), omega arith)
