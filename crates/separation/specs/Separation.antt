-- What comes of a party's call on a table without faults depends on its part alone, and no call changes the other's part: the claim of request E6,
-- of any store.
use Rattle.std.specs.Prelude.{ℕ, ◌≤◌, ◌<◌, ◌≡◌, true, List, length}
use Rattle.std.proofs.Math.Option.{some}
use Rattle.model.specs.Table.{Form, Slot, read_table, distinct}
use Rattle.model.specs.Call.{Outcome, SharedStore}
use Rattle.model.specs.Partition.{Party, other, shared_by, side, partition}

-- a table without faults for which the boundary n is good
pub record Faultless (f : Form) (n : ℕ) (t : List ℕ) : Type 0 where
  pub slots : List Slot
  pub read : read_table f t ≡ some slots
  pub least : 1 ≤ n
  pub most : n < length slots
  pub keys : (p : Party) → distinct (side p n slots) ≡ true

-- two outcomes are the same for a party: number, reply and its new part
pub record SameFor (f : Form) (p : Party) (n : ℕ) (o q : Outcome) : Type 0 where
  pub number : o.number ≡ q.number
  pub length : o.length ≡ q.length
  pub reply : o.reply ≡ q.reply
  pub part : partition f p n o.table ≡ partition f p n q.table

pub record Separate (f : Form) (s : SharedStore) : Type 0 where
  -- tables that are equal in the caller's part, and may differ in length, come to the same
  pub own : (p : Party) (n : ℕ) (t u : List ℕ) (now : ℕ) (c b : List ℕ) → Faultless f n t → Faultless f n u
      → partition f p n t ≡ partition f p n u → SameFor f p n (s (shared_by p n) t now c b) (s (shared_by p n) u now c b)
  -- no call changes the other party's bytes
  pub others : (p : Party) (n : ℕ) (t : List ℕ) (now : ℕ) (c b : List ℕ)
      → partition f (other p) n (s (shared_by p n) t now c b).table ≡ partition f (other p) n t
