-- What request E8 asks of a store with an index beside the table.
use Rattle.std.specs.Prelude.{ℕ, ◌≤◌, ◌≡◌, ◌⊎◌, List, length}
use Rattle.std.proofs.Math.Option.{some}
use Rattle.model.specs.Checked.{ok}
use Rattle.model.specs.Table.{Form, Slot, read_table}
use Rattle.model.specs.Partition.{View, slots_in}
use Rattle.model.specs.Gate.{good_part}
use Rattle.model.specs.Order.{list_from}
use Rattle.model.specs.Call.{untouched, call_in}
use Rattle.indexing.specs.IndexedCall.{Indexed, IndexedStore, first_in}

-- the index of slots numbered from `first` on: no shorter than they are, their numbers in byte order of keys, then zeros
pub record IsIndex (first : ℕ) (ss : List Slot) (l : List ℕ) : Type 0 where
  pub room : length ss ≤ length l
  pub fresh : l ≡ list_from (length l) first ss

-- the refusals by table, boundary or index
abbrev pub Barred : ℕ → Type 0
Barred n = (n ≡ 1) ⊎ ((n ≡ 18) ⊎ (n ≡ 19))

-- the index is the one made afresh, in n places, from the table that a call leaves
pub record Fresh (f : Form) (v : View) (n : ℕ) (o : Indexed) : Type 0 where
  pub slots : List Slot
  pub read : read_table f o.outcome.table ≡ some slots
  pub index : o.index ≡ list_from n (first_in v) (slots_in v slots)

pub record Indexing (f : Form) (s : IndexedStore) : Type 0 where
  -- number, reply and table are those without the index
  pub same_outcome : (v : View) (l t : List ℕ) (now : ℕ) (c b : List ℕ)
      → ((s v l t now c b).outcome.number ≡ 19 → ⊥) → (s v l t now c b).outcome ≡ call_in f v t now c b
  -- the index kept is the index made afresh
  pub index-fresh : (v : View) (l t : List ℕ) (now : ℕ) (c b : List ℕ)
      → (Barred (s v l t now c b).outcome.number → ⊥) → Fresh f v (length l) (s v l t now c b)
  -- 1, 18 and 19 change nothing
  pub nothing-changed : (v : View) (l t : List ℕ) (now : ℕ) (c b : List ℕ)
      → Barred (s v l t now c b).outcome.number → ((s v l t now c b).outcome ≡ untouched (s v l t now c b).outcome.number t b) × ((s v l t now c b).index ≡ l)
  -- 19 is for a list that is not the part's index, after 1 and 18 and before all else
  pub only-19 : (v : View) (l t : List ℕ) (now : ℕ) (c b : List ℕ)
      → (s v l t now c b).outcome.number ≡ 19 → (ss : List Slot) × (good_part f v t ≡ ok ss) × (IsIndex (first_in v) ss l → ⊥)
  pub always-19 : (v : View) (l t : List ℕ) (now : ℕ) (c b : List ℕ) (ss : List Slot)
      → good_part f v t ≡ ok ss → (IsIndex (first_in v) ss l → ⊥) → (s v l t now c b).outcome.number ≡ 19

-- an index with which the next call on a table is refused by neither 1 nor 18 nor 19
pub record Ready (f : Form) (v : View) (l t : List ℕ) : Type 0 where
  pub part : List Slot
  pub good : good_part f v t ≡ ok part
  pub index : IsIndex (first_in v) part l
