-- Arrays for the index of a table's keys: zeros, of which each slot has one.
use Prim.Native.Nat.{ℕ, ◌≤◌}
use mathlib.Core.List.{List}
use lib.ListN.{replicate, length-replicate}
use Rattle.model.specs.Table.{Form}
use Rattle.model.proofs.Fields.{get_or-zeros}
use Rattle.index.specs.Index.{count_of}
use Rattle.integrity.specs.Check.{Fresh}

pub fresh : (f : Form) (t : List ℕ) (m n : ℕ) → 1 ≤ m → (count_of f t ≤ 256 → count_of f t ≤ n) → Fresh f t (replicate m 0) (replicate n 0)
fresh f t m n some room = record {
  some = rw (length-replicate m) some;
  none = get_or-zeros m;
  blank = get_or-zeros n;
  room = λ h. rw (length-replicate n) (room h);
}
