-- The number so far is 0 or below and in range, and the whole text says what the rest of it says after that number.
use mathlib.Core.Path.{◌≡◌}
use mathlib.Core.List.{List}
use Prim.Native.Nat.{ℕ, ◌^◌, ◌≤◌}
use lib.ListN.{drop}
use lib.IntN.{ℤ, pos, neg_ℤ, nat_abs}
use Rattle.model.specs.Number.{read_digits, read_magnitude}
use Rattle.number.specs.Answer.{negative_from}
use Rattle.number.proofs.read_negative.Given as goal

pub record Reading (s : List ℕ) (acc : ℤ) (i : ℕ) : Type 0 where
  pub negative : acc ≡ neg_ℤ (pos (nat_abs acc))
  pub small : nat_abs acc ≤ 2 ^ 63
  pub whole : negative_from (read_magnitude s) ≡ negative_from (read_digits (nat_abs acc) (drop i s))

abbrev pub invariant-loop-c : goal.invariant-loop-c
invariant-loop-c l = Reading l.s l.acc l.c-index
