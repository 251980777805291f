-- What a task does, once its key is looked up.
use Rattle.std.specs.Prelude.{◌≡◌, List, ℕ}
use Rattle.model.specs.Checked.{Checked, ◌>>=◌}
use Rattle.model.specs.Table.{form128}
use Rattle.model.specs.Parse.{word_at, parse}
use Rattle.model.specs.Execute.{Effect, execute}
use Rattle.table.specs.Slots.{slots_of}
use Rattle.command.specs.Command.{checked_task}
use Rattle.command.specs.declared.Task.{Task}
use Rattle.live.specs.declared.Target.{Target}
use Rattle.live.specs.Under.{IsUnder, shape_of}
use Rattle.reply.specs.declared.Answer.{Answer}
use Rattle.entry.specs.declared.Query.{Query}
use Rattle.execute.specs.Does.{Held, Room, Does}

-- what a task of the words ws asks of its target and of the buffer
pub record CanRun (g : Target) (k : Task) (ws : List (List ℕ)) (old : Held) : Type 0 where
  pub parsed : checked_task ws k ≡ parse (shape_of g) g.time ws
  pub under : IsUnder (shape_of g) old.table g.time (word_at 1 ws) g.found
  pub room : Room (shape_of g) old.reply

-- what a task of the words ws does to the table t
abbrev pub effect_in : Target → Task → (t : List ℕ) → (ws : List (List ℕ)) → Checked Effect
effect_in g k t ws = checked_task ws k >>= execute (shape_of g) g.time (slots_of (shape_of g) t)

-- the answer a and the bytes, from `old` to `new`, are those of the words ws after the gate
abbrev pub Runs : Query → (ws : List (List ℕ)) → (old new : Held) → Answer → Type 0
Runs q ws old new a =
    Does form128 old new (parse form128 q.time ws >>= execute form128 q.time (slots_of form128 old.table)) a
