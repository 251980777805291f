-- Whether a write is let through, as the model has it.
use Rattle.model.specs.Checked.{Checked, refuse, ok}
use Rattle.model.specs.Resp.{one, nil}
use Rattle.model.specs.Execute.{Effect, answer}
use Rattle.live.specs.declared.Admission.{Admission}

-- what is done where `next` would be done if nothing forbade it
abbrev pub admitted : Admission → (next : Checked Effect) → Checked Effect
admitted Admission.Granted next = next
admitted Admission.Nil next = ok (answer (one nil))
admitted Admission.Stale next = refuse 12
