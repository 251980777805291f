-- What the check of a table asks of the arrays of the index, and what it says of the table.
use Rattle.std.specs.Prelude.{ℕ, ◌≤◌, ◌≡◌, Bool, true, false, ◌&&◌, List, length, get_or, Option, Some, None, Result, Ok, Err}
use Rattle.outcome.specs.Outcome.{number_of}
use Rattle.outcome.specs.declared.Refusal.{Refusal}
use Rattle.model.specs.Bytes.{part}
use Rattle.model.specs.Optional.{is_some}
use Rattle.model.specs.Table.{Form, table_limit, key_at, key_limit, read_slot, read_table, distinct}
use Rattle.record.specs.Record.{is_used}
use Rattle.table.specs.Slots.{slots_of}
use Rattle.index.specs.Index.{count_of, Indexed, Enters, slot_entry}

-- whether a table keeps all rules: its length, each record, and that no two keys are equal
abbrev pub faultless : Form → (t : List ℕ) → Bool
faultless f t = is_some (read_table f t) && distinct (slots_of f t)

-- arrays for a check of the table t: no bucket has a head, no slot one after it, and each slot has room unless they are too many
pub record Fresh (f : Form) (t heads next : List ℕ) : Type 0 where
  pub some : 1 ≤ length heads
  pub none : (b : ℕ) → get_or heads b 0 ≡ 0
  pub blank : (j : ℕ) → get_or next j 0 ≡ 0
  pub room : count_of f t ≤ table_limit → count_of f t ≤ length next

-- the check's answer, and the index that it leaves
pub record Checks (f : Form) (t heads next : List ℕ) (ok : Bool) : Type 0 where
  pub answer : ok ≡ faultless f t
  pub index : ok ≡ true → Indexed f t 0 heads next

-- slot i with the bytes r is entered if it is in use, after `first`
pub record EntersUsed (i : ℕ) (r heads next : List ℕ) (first : ℕ) (heads' next' : List ℕ) : Type 0 where
  pub used : is_used r ≡ true → Enters i (part key_at key_limit r) heads next first heads' next'
  pub unused : is_used r ≡ false → (heads' ≡ heads) × (next' ≡ next)

-- where a slot comes after another one, it is in use
abbrev pub UsedAfter : (r : List ℕ) → Option ℕ → Type 0
UsedAfter r None = Unit {0}
UsedAfter r (Some first) = is_used r ≡ true

-- what the test of the bytes r of slot i says, and what it leaves in the index; the one refusal is by 1
abbrev pub Tests : Form → (i : ℕ) (r heads next heads' next' : List ℕ) → Result (Option ℕ) Refusal → Type 0
Tests f i r h n h' n' (Ok o) = (is_some (read_slot f r) ≡ true) × UsedAfter r o × EntersUsed i r h n (slot_entry o) h' n'
Tests f i r h n h' n' (Err e) = (is_some (read_slot f r) ≡ false) × (number_of e ≡ 1)
