-- What ties this crate's answers to the model: the slots of a table's bytes, and the table with a slot replaced.
use Rattle.std.specs.Prelude.{ℕ, ◌+◌, ◌*◌, ◌≤◌, ◌≡◌, Bool, true, List, [], length, get_or, drop, set}
use Rattle.std.proofs.Math.Option
use Rattle.std.proofs.Math.Option.{Option, none, some, map}
use Rattle.std.proofs.Math.ListN.{get_elem?}
use Rattle.model.specs.Table.{Form, Slot, Record, empty, used, fields, record_size, record_at, table_bytes, read_table, distinct}
use Rattle.model.specs.Search.{Placed, find_key, lowest}
use Rattle.model.specs.Optional.{is_some}
use Rattle.record.specs.Record.{InUse}

-- the first half of a table's check passed
abbrev pub Reads : Form → List ℕ → Type 0
Reads f t = is_some (read_table f t) ≡ true

-- the slots of a table, none where it does not read
unfoldable pub slots_of : Form → List ℕ → List Slot
slots_of f t = Option.get_or (read_table f t) []

-- a table that keeps every rule
pub record Good (f : Form) (t : List ℕ) : Type 0 where
  pub reads : Reads f t
  pub keys : distinct (slots_of f t) ≡ true

-- record i lies within the table
abbrev pub Inside : Form → List ℕ → ℕ → Type 0
Inside f t i = i * record_size f + record_size f ≤ length t

-- the slot of the record in use with the key k, live or not
abbrev pub key_slot : List ℕ → List Slot → Option ℕ
key_slot k ss = map (λ (p : Placed). p.at) (find_key k ss)

-- the lowest slot from the i-th on that passes a test
unfoldable pub lowest_from : (Slot → Bool) → List Slot → (i : ℕ) → Option ℕ
lowest_from p ss i = map (λ (j : ℕ). i + j) (lowest p (drop i ss))

-- the record of a slot; one of no bytes and zeros if the slot is empty
abbrev pub record_of : Slot → Record
record_of empty = record { key = []; value = []; flags = 0; version = 0; expiry = 0 }
record_of (used r) = r

-- the record at slot i of the table t
abbrev pub record_in : Form → (t : List ℕ) (i : ℕ) → Record
record_in f t i = record_of (get_or (slots_of f t) i empty)

-- slot i of the table t is in use
abbrev pub InUseAt : Form → (t : List ℕ) (i : ℕ) → Type 0
InUseAt f t i = get_elem? (slots_of f t) i ≡ some (used (record_in f t i))

-- the table t with slot i replaced
abbrev pub with_slot : Form → (t : List ℕ) (i : ℕ) → Slot → List ℕ
with_slot f t i s = table_bytes f (set (slots_of f t) i s)

-- the bytes b of the record in use at slot i of the table t
pub record IsRecord (f : Form) (t : List ℕ) (i : ℕ) (b : List ℕ) : Type 0 where
  pub bytes : b ≡ record_at f i t
  pub in_use : InUse b
  pub is : fields b ≡ record_in f t i
