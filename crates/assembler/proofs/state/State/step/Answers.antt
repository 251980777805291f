-- `State::step` meets its contract: the place after the byte, unless no whole command of at most 512 bytes can follow it.
use Rattle.std.proofs.Common.{sym, ◌∙◌, arith}
use Rattle.assembler.specs.Places.{place_of}
use Rattle.assembler.specs.States.{state_of}
use Rattle.assembler.proofs.Moves.{need-most}
use Rattle.assembler.proofs.States.{step-none, step-beyond, step-at}
use Rattle.assembler.proofs.state.State.step.Goals as goal

pub returns-in_err-place : goal.returns-in_err-place
returns-in_err-place c = rw c.from_residual.ensures (sym (step-none (state_of c.args.self) c.args.c (sym c.in_err-place.ensures)))

pub is_beyond-requires : goal.is_beyond-requires
is_beyond-requires c =
    omega (arith, c.args.self.fits, need-most (place_of c.args.self.place) c.args.c (place_of c.in_ok-place.place) (sym c.in_ok-place.ensures))

pub returns-then-is_beyond : goal.returns-then-is_beyond
returns-then-is_beyond c =
    sym (step-beyond (state_of c.args.self) c.args.c (place_of c.in_ok-place.place) (sym c.in_ok-place.ensures) c.args.self.fits (sym c.is_beyond.ensures ∙ c.if-is_beyond.true))

pub returns : goal.returns
returns c =
    sym (step-at (state_of c.args.self) c.args.c (place_of c.in_ok-place.place) (sym c.in_ok-place.ensures) c.args.self.fits (sym c.is_beyond.ensures ∙ c.if-is_beyond.false))
