-- The subcommands taken so far with the words left come to what the whole comes to. The measure is the number of words left.
use Rattle.std.proofs.Common.{length, ◌-◌}
use Rattle.resp.specs.Held.{words_in}
use Rattle.subcommands.proofs.Collecting.{Reached}
use Rattle.subcommands.proofs.subcommands_in.Given as goal

abbrev pub invariant-loop-i : goal.invariant-loop-i
invariant-loop-i l = Reached (words_in l.words) l.i l.list l.count l.mode l.wrong

abbrev pub decreases-loop-i : goal.decreases-loop-i
decreases-loop-i l = length (words_in l.words) - l.i
