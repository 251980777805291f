use Rattle.std.proofs.Common.{◌≡◌, ℕ, ◌⊎◌, inl, inr}
use mathlib.Core.Option.{Option, none, some}
use Rattle.model.specs.Checked.{Checked}
use Rattle.model.specs.Table.{Record}
use Rattle.model.specs.Command.{raise}
use Rattle.model.specs.Execute.{version_after}
use Rattle.command.specs.declared.Change.{Change}
use Rattle.command.specs.Command.{model_change}
use Rattle.live.proofs.version_after.Goals as goal

-- with VER the version rises as without it
either : (r : Checked ℕ) (o : Option Record) (c : Change) → (c ≡ Change.Raise) ⊎ ((x : ℕ) × (c ≡ Change.RaiseFrom x))
    → ((e : Option ℕ) → r ≡ version_after (raise e) o) → r ≡ version_after (model_change c) o
either r o c (inl e) h = rw e (h none)
either r o c (inr (x, e)) h = rw e (h (some x))

pub returns-in-Raise : goal.returns-in-Raise
returns-in-Raise c = either _ _ _ c.in-Raise.is c.risen.ensures
