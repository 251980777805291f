use Rattle.std.proofs.Common.{sym, ◌∙◌, arith}
use Rattle.resp.specs.Held.{words_in}
use Rattle.options.proofs.Taking.{reached-next, reads_all, reads-few}
use Rattle.options.proofs.options_in.Goals as goal

pub loop-i-preserved : goal.loop-i-preserved
loop-i-preserved c =
    rw c.group_of-group.ensures (reached-next c.loop-i.invariant c.in_ok-given.ensures (sym (rw c.group_of-group.ensures at c.if-is_some.ensures)))

pub returns-then-enough : goal.returns-then-enough
returns-then-enough c =
    let b = c.loop-i.invariant in
    reads_all b (omega arith) (sym (c.enough.ensures (words_in c.args.words.now) b.given b.tied) ∙ c.if-enough.true)

pub returns : goal.returns
returns c =
    let b = c.loop-i.invariant in
    reads-few b (omega arith) (sym (c.enough.ensures (words_in c.args.words.now) b.given b.tied) ∙ c.if-enough.false)
