-- A call with an index beside the table: the numbers of the records in use of the caller's part, in byte order of their keys, then zeros.
use Rattle.std.specs.Prelude.{ℕ, Bool, ◌&&◌, List, [], length, leb}
use Rattle.std.proofs.Math.Option.{get_or}
use Rattle.model.specs.Bytes.{same}
use Rattle.model.specs.Checked.{Checked, refuse, ok, check, ◌>>=◌, ◌>>◌}
use Rattle.model.specs.Table.{Form, Slot, read_table}
use Rattle.model.specs.Partition.{owner, installer, View, whole, shared_by, slots_in}
use Rattle.model.specs.Gate.{good_part}
use Rattle.model.specs.Order.{list_from}
use Rattle.model.specs.Call.{Outcome, untouched, call_in}
use Rattle.model.specs.CurrentValue.{Shown, nothing, current_value_in}

-- the number of the first record of the caller's part; an index has numbers of the whole table
abbrev pub first_in : View → ℕ
first_in whole = 0
first_in (shared_by owner n) = 0
first_in (shared_by installer n) = n

-- whether a list is the index of the slots ss, numbered from `first` on: no shorter than they are, their numbers, then zeros to its very end
unfoldable pub is_index_of : (first : ℕ) → List Slot → List ℕ → Bool
is_index_of first ss l = leb (length ss) (length l) && same l (list_from (length l) first ss)

-- tests 1, 18 and 1 of the table, then 19: the slots of the caller's part
abbrev pub good_index : Form → View → (index table : List ℕ) → Checked (List Slot)
good_index f v l t = do
  ss ← good_part f v t
  check 19 (is_index_of (first_in v) ss l)
  ok ss

-- the index in n places, made afresh from the caller's part of a table
abbrev pub fresh_index : Form → View → (n : ℕ) → (table : List ℕ) → List ℕ
fresh_index f v n t = list_from n (first_in v) (slots_in v (get_or (read_table f t) []))

-- ---- a call

-- what a call gives back, and all places of the index
pub record Indexed : Type 0 where
  pub outcome : Outcome
  pub index : List ℕ

abbrev pub indexed : Outcome → List ℕ → Indexed
indexed o l = record { outcome = o; index = l }

-- a store that is lent the index of the caller's part
abbrev pub IndexedStore : Type 0
IndexedStore = View → (index table : List ℕ) (now : ℕ) (command reply : List ℕ) → Indexed

-- 1, 18 and 19 leave all as it is; else the call is the one without an index, and the index is that of the new table
abbrev pub call_on : Form → View → (index table : List ℕ) (now : ℕ) (command reply : List ℕ) → Checked (List Slot) → Indexed
call_on f v l t now c b (refuse n) = indexed (untouched n t b) l
call_on f v l t now c b (ok ss) = let o = call_in f v t now c b in indexed o (fresh_index f v (length l) o.table)

-- the meaning of a call with an index
unfoldable pub call_indexed : Form → IndexedStore
call_indexed f v l t now c b = call_on f v l t now c b (good_index f v l t)

-- ---- the current value

abbrev pub shown_on : Form → View → (table : List ℕ) (now : ℕ) (command : List ℕ) → Checked (List Slot) → Shown
shown_on f v t now c (refuse n) = nothing
shown_on f v t now c (ok ss) = current_value_in f v t now c

-- the current value by an index; a refusal, also by 19, shows none
unfoldable pub indexed_value : Form → View → (index table : List ℕ) (now : ℕ) (command : List ℕ) → Shown
indexed_value f v l t now c = shown_on f v t now c (good_index f v l t)

-- ---- an index made afresh

-- tests 1, 18 and 1 of the table, then 19 for a list shorter than the part has records; the list with the index, zeros after it
unfoldable pub made_index : Form → View → (table list : List ℕ) → Checked (List ℕ)
made_index f v t l = do
  ss ← good_part f v t
  check 19 (leb (length ss) (length l))
  ok (list_from (length l) (first_in v) ss)
