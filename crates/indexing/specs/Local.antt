-- The one record that a call concerns.
use Rattle.std.specs.Prelude.{ℕ, ◌*◌, ◌≡◌, true, List, get_or}
use Rattle.std.proofs.Math.Option
use Rattle.std.proofs.Math.Option.{some}
use Rattle.model.specs.Bytes.{written}
use Rattle.model.specs.Checked.{ok}
use Rattle.model.specs.Optional.{is_some}
use Rattle.model.specs.Table.{Form, Record, Slot, empty, used, record_size}
use Rattle.model.specs.Search.{find_key, lookup, slot_for}
use Rattle.model.specs.Resp.{decode}
use Rattle.model.specs.Command.{Command}
use Rattle.model.specs.Parse.{parse}
use Rattle.model.specs.Call.{Outcome}

-- the slot with the key k, else the one that a write would take, else the first
abbrev pub chosen : (now : ℕ) → List Slot → (k : List ℕ) → ℕ
chosen now ss k = Option.get_or (slot_for now ss (lookup now k ss)) 0

-- k is the key of the command c, if its parse does not refuse it
abbrev pub KeyOf : Form → (now : ℕ) → (c k : List ℕ) → Type 0
KeyOf f now c k = (ws : List (List ℕ)) (x : Command) → decode c ≡ some ws → parse f now ws ≡ ok x → x.key ≡ k

-- what came of record i of the table t, as a table of its own, with the rest of t around it
abbrev pub in_record : Form → (i : ℕ) (table : List ℕ) → Outcome → Outcome
in_record f i t o = record { number = o.number; length = o.length; reply = o.reply; table = written (i * record_size f) o.table t }

-- what slot i, the one chosen, can hold after a call with the key k: what it held; nothing, if it had that key; or a record with that key,
-- if a write takes this slot
pub data Becomes (now : ℕ) (ss : List Slot) (k : List ℕ) (i : ℕ) : Slot → Type 0 where
  stays : Becomes now ss k i (get_or ss i empty)
  goes : is_some (find_key k ss) ≡ true → Becomes now ss k i empty
  comes : (r : Record) → slot_for now ss (lookup now k ss) ≡ some i → r.key ≡ k → Becomes now ss k i (used r)
