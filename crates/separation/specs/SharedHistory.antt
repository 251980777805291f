-- Demand 3 of a shared table: transactions on one party's record, any calls of the other mixed in, one boundary throughout.
use Rattle.std.specs.Prelude.{ℕ, ◌≤◌, ◌<◌, ◌≡◌, List, [], ◌∷◌}
use Rattle.model.specs.Table.{Form, record_at}
use Rattle.model.specs.History.{Event, Entry, committed}
use Rattle.model.specs.Serializable.{serial_execution, Holds, Lawful, AllAnswered}
use Rattle.model.specs.Partition.{Party, owner, installer, shared_by}
use Rattle.model.specs.Call.{SharedStore}

-- a call and whose it is
pub record SharedEvent : Type 0 where
  pub party : Party
  pub event : Event

-- the same with the table before it and what it gave back
pub record SharedEntry : Type 0 where
  pub party : Party
  pub entry : Entry

-- the calls, each on the table that the last one left, at one boundary
abbrev pub run_shared : SharedStore → (boundary : ℕ) → List ℕ → List SharedEvent → List SharedEntry
run_shared s n t [] = []
run_shared s n t (e ∷ es) =
    let o = s (shared_by e.party n) t e.event.time e.event.command e.event.reply in
    record { party = e.party; entry = record { event = e.event; before = t; outcome = o } } ∷ run_shared s n o.table es

-- the table after them
abbrev pub final_shared : List ℕ → List SharedEntry → List ℕ
final_shared t [] = t
final_shared t (x ∷ xs) = final_shared x.entry.outcome.table xs

module _ {A : Type 0} where
  -- a and then l where the two parties are the same, otherwise l
  abbrev pub if_same : (p q : Party) → A → List A → List A
  if_same owner owner a l = a ∷ l
  if_same owner installer a l = l
  if_same installer owner a l = l
  if_same installer installer a l = a ∷ l

-- a party's own calls; those of the other are left out, whatever they are
abbrev pub own_entries : Party → List SharedEntry → List Entry
own_entries p [] = []
own_entries p (x ∷ xs) = if_same p x.party x.entry (own_entries p xs)

-- record i is in the party's part; records are numbered over the whole table
abbrev pub Within : Party → (boundary i : ℕ) → Type 0
Within owner n i = i < n
Within installer n i = n ≤ i

-- what is claimed of the calls xs from the table t: record i at the end, and every answer to its party
pub record SharedSerial (f : Form) (p : Party) (i : ℕ) (update : ℕ → List ℕ → List ℕ) (t : List ℕ) (xs : List SharedEntry) : Type 0 where
  pub bytes : record_at f i (final_shared t xs) ≡ serial_execution f update (committed (own_entries p xs)) (record_at f i t)
  pub answers : AllAnswered [] (own_entries p xs)

-- the claim, of any store: the premises of demand 3 are asked of the party's own calls alone
abbrev pub SharedSerializable : Form → SharedStore → Type 0
SharedSerializable f s =
    (p : Party) (n i : ℕ) (k : List ℕ) (update : ℕ → List ℕ → List ℕ) (t : List ℕ) (es : List SharedEvent)
    → Within p n i → Holds f i k t → Lawful f i k update [] (own_entries p (run_shared s n t es))
    → SharedSerial f p i update t (run_shared s n t es)
