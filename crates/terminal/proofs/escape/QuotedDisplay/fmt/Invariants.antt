-- The bytes passed are written. The measure is the number of bytes left.
use Rattle.std.proofs.Common.{◌∷◌, ◌-◌, ◌≤◌, length, take}
use Rattle.std.specs.Fmt.{HasWritten, IsPlainFormatter}
use Rattle.terminal.specs.Escape.{escaped_all}
use Rattle.terminal.proofs.escape.QuotedDisplay.fmt.Given as goal

abbrev pub invariant-loop-at : goal.invariant-loop-at
invariant-loop-at g l =
    (l.at ≤ length l.text) × (IsPlainFormatter l.fn.f → HasWritten g.W.Write.write_str_gives l.fn.f (34 ∷ escaped_all (take l.at l.text)) l.f)

abbrev pub decreases-loop-at : goal.decreases-loop-at
decreases-loop-at g l = length l.text - l.at
