-- What the gate answers, what holds of a call that passed it, and what a command comes to before it is carried out. t and c are the bytes of the table
-- and the command, ws the command's words; heads and next are the arrays of the index.
use Rattle.std.specs.Prelude.{ℕ, ◌≤◌, ◌≡◌, List, length, Result, Ok, Err}
use Rattle.model.specs.Checked.{Checked, refuse, ok, ◌>>=◌}
use Rattle.model.specs.Resp.{word_limit}
use Rattle.model.specs.Table.{form128, time_limit}
use Rattle.model.specs.Partition.{whole}
use Rattle.model.specs.Gate.{Inputs, gate}
use Rattle.model.specs.Parse.{word_at, parse}
use Rattle.outcome.specs.Outcome.{checked, number_of}
use Rattle.outcome.specs.declared.Refusal.{Refusal}
use Rattle.resp.specs.Held.{words_in}
use Rattle.resp.specs.declared.Words.{Words}
use Rattle.table.specs.Slots.{Reads, slots_of}
use Rattle.index.specs.Index.{Indexed}
use Rattle.command.specs.Command.{checked_task}
use Rattle.live.specs.Under.{IsUnder}
use Rattle.entry.specs.declared.Query.{Query}
use Rattle.entry.specs.declared.Ready.{Ready}
use Rattle.entry.specs.declared.NotReady.{NotReady}

-- the model's gate
abbrev pub gate_in : Query → (t c : List ℕ) → Checked Inputs
gate_in q t c = gate form128 whole t q.time q.room c

-- a call that passed the gate, with the words ws
pub record Entered (q : Query) (t c : List ℕ) (ws : List (List ℕ)) : Type 0 where
  pub is : gate_in q t c ≡ ok (record { slots = slots_of form128 t; words = ws })
  pub reads : Reads form128 t
  pub time : q.time ≤ time_limit
  pub room : form128.reply_room ≤ q.room
  pub few : length ws ≤ word_limit

-- what the gate answers, and the arrays that it leaves
pub record Gates (q : Query) (t c heads next : List ℕ) (r : Result Words Refusal) : Type 0 where
  pub answer : checked words_in r ≡ (gate_in q t c >>= λ (i : Inputs). ok i.words)
  pub passed : (ws : Words) → r ≡ Ok ws → Entered q t c (words_in ws)
  pub index : (ws : Words) → r ≡ Ok ws → Indexed form128 t 0 heads next

-- a command that its own words refuse
pub record IsWrong (q : Query) (t c : List ℕ) (r : Refusal) : Type 0 where
  pub words : List (List ℕ)
  pub entered : Entered q t c words
  pub parsed : refuse (number_of r) ≡ parse form128 q.time words

-- a command that is ready to be carried out
pub record IsReady (q : Query) (t c : List ℕ) (r : Ready) : Type 0 where
  pub entered : Entered q t c (words_in r.words)
  pub parsed : checked_task (words_in r.words) r.task ≡ parse form128 q.time (words_in r.words)
  pub under : IsUnder form128 t q.time (word_at 1 (words_in r.words)) r.found

-- what a command comes to before it is carried out
abbrev pub Prepares : Query → (t c : List ℕ) → Result Ready NotReady → Type 0
Prepares q t c (Err (NotReady.Silent r)) = gate_in q t c ≡ refuse (number_of r)
Prepares q t c (Err (NotReady.Told r)) = IsWrong q t c r
Prepares q t c (Ok r) = IsReady q t c r
