-- `difference::write_lines` meets its contract. The loop's invariant: with the lines that are left the buffer has those of the two tables.
use Prim.Native.Nat.{◌+◌, ◌≤◌}
use native.Mathlib.Omega.{arith}
use mathlib.Core.Path.{refl}
use lib.ListN.{length}
use Rattle.model.specs.Table.{form128}
use Rattle.model.specs.Difference.{difference, lines_bytes}
use Rattle.table.specs.Slots.{slots_of}
use Rattle.difference.specs.Walk.{left}
use Rattle.difference.proofs.Merge.{merge-along}
use Rattle.difference.proofs.Walking.{along-limit, Underway, goes_on, ends}
use Rattle.difference.proofs.walk.write_lines.Statement.{statement}
use Rattle.difference.proofs.walk.write_lines.Tie as tie

abbrev invariant-loop : tie.invariant-loop-walk
invariant-loop before first after second out₀ walk₀ out walk =
    Underway before first after second (lines_bytes (difference (slots_of form128 before) (slots_of form128 after))) out₀ out walk

abbrev decreases-loop : tie.decreases-loop-walk
decreases-loop before first after second out₀ walk₀ out walk = left first second walk.first walk.second

limits : (s : tie.Start invariant-loop decreases-loop) → length s.args.first.now + length s.args.second.now ≤ 512
limits s = omega (arith, along-limit s.requires.0, along-limit s.requires.1)

loop-holds : tie.Need-loop-walk-init invariant-loop decreases-loop
loop-holds c =
    let s = c.before.before.before.before.before in
    let a = s.args in
    let h = s.requires in
    record {
      ready = record { first = omega arith; second = omega arith; room = omega (arith, limits s, h.2) };
      size = refl;
      rest = λ w. rw (merge-along a.before.now a.first.now a.after.now a.second.now h.0 h.1) at w;
    }

step-requires : tie.Need-step-walk-requires invariant-loop decreases-loop
step-requires c κs =
    let h = c.requires in
    ((h.0, h.1), (c.loop-walk.invariant.ready, c.loop-walk-test.true))

pub write_lines_spec : {M : Type 1} → statement M
write_lines_spec =
    tie.close
    (tie.spec
    invariant-loop
    decreases-loop
    loop-holds
    (λ c. omega (arith, limits c.before.before.before.before.before.before.before, c.loop-walk.invariant.ready.first, c.loop-walk.invariant.ready.second))
    (λ c. omega (arith, limits c.before.before.before.before.before.before.before))
    step-requires
    (λ c. c.step-walk.ensures.passes.less)
    (λ c. goes_on c.loop-walk.invariant c.step-walk.ensures)
    (λ c. c.loop-walk.invariant.size)
    (λ c. ends c.loop-walk.invariant c.loop-walk-test.false))
