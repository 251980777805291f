-- The value at the key after an EXGET or EXCAS, as a part of the table or of the command. Document 01's term is the standing value.
use Rattle.std.specs.Prelude.{ℕ, ◌+◌, ◌*◌, Bool, true, false, cond, List, length, take, eqb}
use Rattle.model.specs.Bytes.{part}
use Rattle.model.specs.Checked.{Checked, refuse, ok, ◌>>=◌, ◌>>◌}
use Rattle.model.specs.Table.{Form, Slot, record_size, value_at}
use Rattle.model.specs.Partition.{owner, installer, View, whole, shared_by}
use Rattle.model.specs.Search.{Placed, Lookup, live_at, expired_at, absent, lookup}
use Rattle.model.specs.Resp.{array_mark, bulk_mark, line, bulks_bytes}
use Rattle.model.specs.Gate.{gate}
use Rattle.model.specs.Command.{Action, exset, exget, exsetver, exincrby, excas, excad, exjoin, exgae, del, bitfield, Command}
use Rattle.model.specs.Parse.{word_at, parse}
use Rattle.model.specs.Execute.{execute_on}

-- no value, or the place and length of one
pub data Shown : Type 0 where
  nothing : Shown
  in_table : (start length : ℕ) → Shown
  in_command : (start length : ℕ) → Shown

-- whether a value is shown
abbrev pub is_shown : Shown → Bool
is_shown nothing = false
is_shown (in_table a n) = true
is_shown (in_command a n) = true

-- whether it is a part of the command, where it begins, and its length; where nothing is shown, the empty part at the table's start
abbrev pub is_in_command : Shown → Bool
is_in_command nothing = false
is_in_command (in_table a n) = false
is_in_command (in_command a n) = true

abbrev pub start_of : Shown → ℕ
start_of nothing = 0
start_of (in_table a n) = a
start_of (in_command a n) = a

abbrev pub length_of : Shown → ℕ
length_of nothing = 0
length_of (in_table a n) = n
length_of (in_command a n) = n

-- its bytes
abbrev pub shown_bytes : (table command : List ℕ) → Shown → List ℕ
shown_bytes t c s = part (start_of s) (length_of s) (cond (is_in_command s) c t)

-- the place in a command of the bytes of word i
unfoldable pub word_start : ℕ → List (List ℕ) → ℕ
word_start i ws =
    length (line array_mark (length ws)) + length (bulks_bytes (take i ws)) + length (line bulk_mark (length (word_at i ws)))

-- a record's value in the table
abbrev pub value_of : Form → Placed → Shown
value_of f p = in_table (p.at * record_size f + value_at) (length p.rec.value)

-- the value of the live record p after an action that is not refused; one other than EXGET and EXCAS shows none
abbrev pub shown_after : Form → List (List ℕ) → Placed → Action → Shown
shown_after f ws p (exget w) = value_of f p
shown_after f ws p (excas v n e) = cond (eqb n p.rec.version) (in_command (word_start 2 ws) (length v)) (value_of f p)
shown_after f ws p (exset s) = nothing
shown_after f ws p (exsetver n) = nothing
shown_after f ws p (exincrby i) = nothing
shown_after f ws p (excad n) = nothing
shown_after f ws p (exjoin j) = nothing
shown_after f ws p (exgae e) = nothing
shown_after f ws p del = nothing
shown_after f ws p (bitfield ss) = nothing

-- a key that is not live before the command shows none
abbrev pub shown_on : Form → List (List ℕ) → Lookup → Action → Shown
shown_on f ws (live_at p) a = shown_after f ws p a
shown_on f ws (expired_at i) a = nothing
shown_on f ws absent a = nothing

-- from the command on: what it shows, unless it is refused
abbrev pub shows_by : Form → (now : ℕ) → List Slot → List (List ℕ) → Lookup → Command → Checked Shown
shows_by f now ss ws l c = do
  execute_on f now ss l c
  ok (shown_on f ws l c.action)

-- from the words on
abbrev pub shows_in : Form → (now : ℕ) → List Slot → List (List ℕ) → Checked Shown
shows_in f now ss ws = do
  c ← parse f now ws
  shows_by f now ss ws (lookup now c.key ss) c

-- the tests of a call; 3 does not arise, since there is no reply buffer
abbrev pub shows : Form → View → (table : List ℕ) (now : ℕ) (command : List ℕ) → Checked Shown
shows f v t now b = do
  i ← gate f v t now f.reply_room b
  shows_in f now i.slots i.words

abbrev pub or_nothing : Checked Shown → Shown
or_nothing (refuse n) = nothing
or_nothing (ok s) = s

-- a place in a table's bytes from `first` on, counted from the table's start
abbrev pub shifted : (first : ℕ) → Shown → Shown
shifted first nothing = nothing
shifted first (in_table a n) = in_table (first + a) n
shifted first (in_command a n) = in_command a n

-- a place in the caller's part, counted from the table's start
abbrev pub place_in : Form → View → Shown → Shown
place_in f whole s = s
place_in f (shared_by owner n) s = s
place_in f (shared_by installer n) s = shifted (n * record_size f) s

-- the current value at a key of the caller's part; a refusal shows none
unfoldable pub current_value_in : Form → View → (table : List ℕ) (now : ℕ) (command : List ℕ) → Shown
current_value_in f v t now b = place_in f v (or_nothing (shows f v t now b))

-- the current value in the whole table
abbrev pub current_value : Form → (table : List ℕ) (now : ℕ) (command : List ℕ) → Shown
current_value f = current_value_in f whole
