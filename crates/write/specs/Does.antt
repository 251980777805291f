-- What a command that writes asks of its caller.
use Rattle.std.specs.Prelude.{ℕ, ◌≤◌, List, length}
use Rattle.model.specs.Table.{Form, key_limit}
use Rattle.live.specs.declared.Target.{Target}
use Rattle.live.specs.Under.{IsUnder, shape_of}
pub use Rattle.access.specs.Does.{Held, held, Room, act_in, Does}

-- the buffer b has room for every reply about records of some form: all that a reply asks which shows no value
pub record SomeRoom (b : List ℕ) : Type 0 where
  pub form : Form
  pub room : Room form b

-- the target is what stands under the key k, which fits a record, and there is room for a reply
pub record Ready (g : Target) (k : List ℕ) (old : Held) : Type 0 where
  pub under : IsUnder (shape_of g) old.table g.time k g.found
  pub key : length k ≤ key_limit
  pub room : Room (shape_of g) old.reply
