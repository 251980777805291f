-- The numbers, the expiry and the bounds are the model's, and so is what the options say with them.
use Rattle.model.specs.Options.{said_in}
use Rattle.resp.specs.Held.{words_in}
use Rattle.values.proofs.said_in.Goals as goal

pub returns : goal.returns
unfolding said_in
returns c gs t =
    rw (← c.in_ok-x.ensures gs t, ← c.in_ok-expire.ensures, ← c.ordered.ensures, c.if-not-ordered.false, c.said_with.ensures (words_in c.args.words.now) gs t)
