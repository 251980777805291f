-- The bytes passed are written, and took at most four each.
use Rattle.std.proofs.Common.{◌≡◌, ◌*◌, ◌≤◌, length, take}
use Rattle.slice.specs.Wrote.{Wrote}
use Rattle.terminal.specs.Escape.{escaped_all}
use Rattle.terminal.proofs.escape.escape.Given as goal

abbrev pub invariant-loop-b : goal.invariant-loop-b
invariant-loop-b l = (length l.out ≡ length l.fn.out) × (l.at ≤ 4 * l.b-index) × Wrote 0 (escaped_all (take l.b-index l.text)) l.fn.out l.out l.at
