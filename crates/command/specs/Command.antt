-- What a command by value means in the model.
use Rattle.std.specs.Prelude.{ℕ, List, Result}
use Rattle.std.proofs.Math.Option.{none, some}
use Rattle.model.specs.Checked.{Checked, ok, ◌>>=◌}
use Rattle.model.specs.Command as model
use Rattle.model.specs.Command.{under}
use Rattle.model.specs.Parse.{word_at, parse_subcommands}
use Rattle.outcome.specs.Outcome.{to_model, checked}
use Rattle.outcome.specs.declared.Refusal.{Refusal}
use Rattle.command.specs.declared.Presence.{Presence}
use Rattle.command.specs.declared.Change.{Change}
use Rattle.command.specs.declared.Expire.{Expire}
use Rattle.command.specs.declared.End.{End}
use Rattle.command.specs.declared.Terms.{Terms}
use Rattle.command.specs.declared.Set.{Set}
use Rattle.command.specs.declared.Increment.{Increment}
use Rattle.command.specs.declared.Join.{Join}
use Rattle.command.specs.declared.Action.{Action}
use Rattle.command.specs.declared.Task.{Task}

abbrev pub model_presence : Presence → model.Presence
model_presence Presence.Always = model.always
model_presence Presence.IfAbsent = model.if_absent
model_presence Presence.IfLive = model.if_live

abbrev pub model_change : Change → model.Change
model_change Change.Raise = model.raise none
model_change (Change.RaiseFrom n) = model.raise (some n)
model_change (Change.Set n) = model.set n

abbrev pub model_expire : Expire → model.Expire
model_expire Expire.Clear = model.clear
model_expire Expire.Keep = model.keep
model_expire (Expire.At n) = model.at n

abbrev pub model_end : End → model.End
model_end End.Back = model.back
model_end End.Front = model.front

abbrev pub model_terms : Terms → model.Terms
model_terms t = record { presence = model_presence t.presence; change = model_change t.change; expire = model_expire t.expire }

-- EXSET of the value v
abbrev pub model_set : (v : List ℕ) → Set → model.Set
model_set v a = record { value = v; terms = model_terms a.terms; flags = a.flags; with_version = a.with_version }

abbrev pub model_increment : Increment → model.Increment
model_increment a = record {
  by = a.by;
  terms = model_terms a.terms;
  min = to_model a.min;
  max = to_model a.max;
  non_negative = a.non_negative;
  with_version = a.with_version;
}

-- EXAPPEND or EXPREPEND of the text v
abbrev pub model_join : (v : List ℕ) → Join → model.Join
model_join v a = record { end = model_end a.end; value = v; terms = model_terms a.terms }

-- the model's action with the value v
unfoldable pub model_action : (v : List ℕ) → Action → model.Action
model_action v (Action.Exset a) = model.exset (model_set v a)
model_action v (Action.Exget w) = model.exget w
model_action v (Action.Exsetver n) = model.exsetver n
model_action v (Action.Exincrby a) = model.exincrby (model_increment a)
model_action v (Action.Excas a) = model.excas v a.version (model_expire a.expire)
model_action v (Action.Excad n) = model.excad n
model_action v (Action.Exjoin a) = model.exjoin (model_join v a)
model_action v (Action.Exgae e) = model.exgae (model_expire e)
model_action v Action.Del = model.del

-- the model's command for the words ws: word 1 is the key, word 2 the value
abbrev pub model_command : (ws : List (List ℕ)) → Action → model.Command
model_command ws a = under (word_at 1 ws) (model_action (word_at 2 ws) a)

-- what the words ws ask for: BITFIELD may still be refused for its subcommands
abbrev pub checked_task : List (List ℕ) → Task → Checked model.Command
checked_task ws (Task.Action a) = ok (model_command ws a)
checked_task ws Task.Bitfield = parse_subcommands ws

-- what is answered for the words ws: what they ask for, or the refusal
abbrev pub checked_parsed : List (List ℕ) → Result Task Refusal → Checked model.Command
checked_parsed ws r = checked (λ t. t) r >>= checked_task ws
