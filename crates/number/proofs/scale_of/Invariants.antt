-- n has at least as many digits as are counted, and the power is that of the last of them.
use Prim.Native.Nat.{ℕ, ◌-◌, ◌^◌, ◌≤◌, ◌<◌}
use mathlib.Core.Path.{◌≡◌}
use lib.ListN.{length}
use Rattle.model.specs.Number.{nat_text}
use Rattle.number.proofs.scale_of.Given as goal

pub record Counting (n digits power : ℕ) : Type 0 where
  pub fits : n < 2 ^ 64
  pub some : 1 ≤ digits
  pub is : power ≡ 10 ^ (digits - 1)
  pub counted : digits ≤ length (nat_text n)

abbrev pub invariant-loop-digits : goal.invariant-loop-digits
invariant-loop-digits l = Counting l.n l.digits l.power
