-- None of the texts passed is the word.
use Rattle.std.proofs.Common.{◌≡◌, map, drop}
use Rattle.model.specs.Command.{look}
use Rattle.commandline.specs.Switches.{switches}
use Rattle.commandline.proofs.switch.spelled.Given as goal

abbrev pub invariant-loop-text : goal.invariant-loop-text
invariant-loop-text l =
    (map (λ p. (p.0.now, p.1)) l.text-items ≡ switches)
    × (look l.w switches ≡ look l.w (map (λ p. (p.0.now, p.1)) (drop l.text-index l.text-items)))
