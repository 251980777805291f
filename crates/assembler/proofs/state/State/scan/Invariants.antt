-- The scan has come to place i with this state.
use Rattle.assembler.specs.States.{state_of}
use Rattle.assembler.proofs.States.{ComeTo}
use Rattle.assembler.proofs.state.State.scan.Given as goal

abbrev pub invariant-loop-i : goal.invariant-loop-i
invariant-loop-i l = ComeTo (state_of l.fn.self) l.bytes (state_of l.state) l.i
