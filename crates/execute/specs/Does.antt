-- What a command asks of its caller.
use Rattle.std.specs.Prelude.{ℕ, ◌≤◌, List, length}
use Rattle.model.specs.Checked.{Checked}
use Rattle.model.specs.Table.{Form}
use Rattle.model.specs.Command.{bitfield}
use Rattle.model.specs.Execute.{Effect, act}
use Rattle.model.proofs.Commands.{ChangeOk}
use Rattle.model.proofs.Basics.{All}
use Rattle.model.proofs.Runs.{Typed}
use Rattle.command.specs.Command.{model_change}
use Rattle.command.specs.Subcommand.{model_subs}
use Rattle.command.specs.declared.subcommand.Subs.{Subs}
use Rattle.command.specs.declared.Action.{Action}
use Rattle.command.specs.declared.Action.TheVariants.{Exset, Exget, Exsetver, Exincrby, Excas, Excad, Exjoin, Exgae, Del}
use Rattle.live.specs.declared.Target.{Target}
use Rattle.live.specs.Under.{shape_of, lookup_in, slot_in}
pub use Rattle.write.specs.Does.{Held, held, Room, SomeRoom, Ready, act_in, Does}

-- at most four subcommands, of known types
pub record FieldsFit (ss : Subs) : Type 0 where
  pub few : ss.count ≤ 4
  pub typed : All Typed (model_subs ss)

-- what BITFIELD does in the table t, at its target under the key k
abbrev pub fields_in : (t : List ℕ) → Target → (k : List ℕ) → Subs → Checked Effect
fields_in t g k ss = act (shape_of g) k (lookup_in t g) (slot_in t g) (bitfield (model_subs ss))

-- the value v that an action stores fits a record, and a version that it sets is in range
abbrev pub ActionFits : Form → (v : List ℕ) → Action → Type 0
ActionFits f v (Exset a) = (length v ≤ f.value_limit) × ChangeOk (model_change a.terms.change)
ActionFits f v (Exget w) = Unit {0}
ActionFits f v (Exsetver n) = Unit {0}
ActionFits f v (Exincrby a) = ChangeOk (model_change a.terms.change)
ActionFits f v (Excas a) = length v ≤ f.value_limit
ActionFits f v (Excad n) = Unit {0}
ActionFits f v (Exjoin a) = (length v ≤ f.value_limit) × ChangeOk (model_change a.terms.change)
ActionFits f v (Exgae e) = Unit {0}
ActionFits f v Del = Unit {0}
