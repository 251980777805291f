-- The subcommands left come to what all come to.
use Rattle.std.proofs.Common.{◌≡◌, ◌-◌}
use Rattle.model.specs.Bitfield.{all_end_within}
use Rattle.command.specs.Subcommand.{subs_from, model_subs}
use Rattle.bitfield.proofs.all_end_within.Given as goal

abbrev pub invariant-loop-i : goal.invariant-loop-i
invariant-loop-i l = all_end_within l.limit (subs_from l.subs l.i (l.subs.count - l.i)) ≡ all_end_within l.limit (model_subs l.subs)
