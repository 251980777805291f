-- What a command does, and what its answer says.
use Rattle.std.specs.Prelude.{ℕ, ◌≤◌, ◌≡◌, List, length}
use Rattle.model.specs.Checked.{Checked}
use Rattle.model.specs.Table.{Form}
use Rattle.model.specs.Execute.{Effect, act}
use Rattle.model.specs.Call.{effect_on}
use Rattle.model.proofs.Replies.{Roomy}
use Rattle.command.specs.Command.{model_action}
use Rattle.command.specs.declared.Action.{Action}
use Rattle.table.specs.Slots.{slots_of}
use Rattle.live.specs.declared.Target.{Target}
use Rattle.live.specs.Under.{shape_of, lookup_in, slot_in}
use Rattle.reply.specs.declared.Answer.{Answer}
use Rattle.reply.specs.Replied.{outcome_of}

-- the bytes of the table and of the reply buffer
pub record Held : Type 0 where
  pub table : List ℕ
  pub reply : List ℕ

abbrev pub held : (table reply : List ℕ) → Held
held t b = record { table = t; reply = b }

-- the reply buffer b has room for every reply about records of a form
pub record Room (f : Form) (b : List ℕ) : Type 0 where
  pub roomy : Roomy f
  pub least : f.reply_room ≤ length b

-- what an action does in the table t, at its target under the key k with the value v
abbrev pub act_in : (t : List ℕ) → Target → (k v : List ℕ) → Action → Checked Effect
act_in t g k v a = act (shape_of g) k (lookup_in t g) (slot_in t g) (model_action v a)

-- the answer a and the bytes, from `old` to `new`, are those of the effect x
pub record Does (f : Form) (old new : Held) (x : Checked Effect) (a : Answer) : Type 0 where
  pub outcome : outcome_of a new.table new.reply ≡ effect_on f old.table old.reply (slots_of f old.table) x
