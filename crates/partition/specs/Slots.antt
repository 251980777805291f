-- The slots of a view's part, by their numbers in the table.
use Rattle.std.specs.Prelude.{ℕ, ◌≤◌, ◌≡◌, List, length, take, drop}
use Rattle.model.specs.Table.{Slot}
use Rattle.model.specs.Partition.{View, whole, shared_by, slots_in}
use Rattle.std.specs.declared.ops.Range.{Range}

-- where the parts meet; 0 where there is one
abbrev pub meets_at : View → ℕ
meets_at whole = 0
meets_at (shared_by p n) = n

-- the slots of a view's part in a table of n records, also where the boundary is bad
pub record Covers (v : View) (n : ℕ) (s : Range ℕ) : Type 0 where
  pub ordered : s.start ≤ s.end
  pub inside : s.end ≤ n
  pub part : (ss : List Slot) → length ss ≡ n → slots_in v ss ≡ drop s.start (take s.end ss)
