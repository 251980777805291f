-- The words left from place `at` on are those left from the place that is reached.
use mathlib.Core.Path.{◌≡◌}
use lib.ListN.{drop}
use Rattle.model.specs.Build.{bulks_left}
use Rattle.build.proofs.bulks_left.Given as goal

abbrev pub invariant-loop-place : goal.invariant-loop-place
invariant-loop-place l = bulks_left l.fn.n (drop l.fn.at l.s) ≡ bulks_left l.left (drop l.place l.s)

abbrev pub decreases-loop-place : goal.decreases-loop-place
decreases-loop-place l = l.left
