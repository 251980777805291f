-- The options read so far with the words left come to what the whole comes to. The measure is the number of words left.
use Rattle.std.proofs.Common.{length, ◌-◌}
use Rattle.resp.specs.Held.{words_in}
use Rattle.command.specs.Rules.{model_rule}
use Rattle.options.proofs.Taking.{Reached}
use Rattle.options.proofs.options_in.Given as goal

abbrev pub invariant-loop-i : goal.invariant-loop-i
invariant-loop-i l = Reached (model_rule l.rule) (words_in l.words) l.i l.options

abbrev pub decreases-loop-i : goal.decreases-loop-i
decreases-loop-i l = length (words_in l.words) - l.i
