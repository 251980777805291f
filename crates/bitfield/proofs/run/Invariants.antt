-- What is left of the subcommands leads to what all of them come to.
use Rattle.std.proofs.Common.{◌-◌}
use lib.ListN.{length, take}
use Rattle.model.specs.Bitfield.{run_subs}
use Rattle.command.specs.Subcommand.{subs_from, model_subs}
use Rattle.bitfield.proofs.Running.{Underway}
use Rattle.bitfield.proofs.run.Given as goal

abbrev pub invariant-loop-i : goal.invariant-loop-i
invariant-loop-i l =
    Underway (run_subs (model_subs l.fn.subs) (take l.fn.len l.fn.value)) (length l.fn.value) l.fn.text (subs_from l.fn.subs l.i (l.fn.subs.count - l.i)) l.value l.text l.ran
