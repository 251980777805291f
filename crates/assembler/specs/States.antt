-- The code's states and what bytes come to, as the model's.
use Rattle.std.specs.Prelude.{Option, Some, None}
use Rattle.std.proofs.Math.Option as chosen
use Rattle.stream.specs.Machine as model
use Rattle.assembler.specs.declared.state.State.{State}
use Rattle.assembler.specs.declared.machine.Scanned.{Scanned}
use Rattle.assembler.specs.declared.machine.Scanned.TheVariants.{More, Whole, Dead}
use Rattle.assembler.specs.Places.{place_of}

abbrev pub state_of : State → model.State
state_of st = model.at (place_of st.place) st.used

-- none where no whole command can follow
abbrev pub state_after : Option State → chosen.Option model.State
state_after None = chosen.none
state_after (Some st) = chosen.some (state_of st)

abbrev pub scan_of : Scanned → model.Scan
scan_of (More st) = model.going (state_of st)
scan_of (Whole n) = model.ended n
scan_of (Dead n) = model.dead n
