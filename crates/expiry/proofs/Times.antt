-- The product of the upper half of a number says whether the sum can be at most the limit.
use Prim.Native.Nat.{ℕ, ◌+◌, ◌*◌, ◌/◌, ◌%◌, ◌^◌, ◌≤◌, ◌<◌}
use native.Mathlib.Omega.{arith}
use native.Mathlib.Nat.{mul-add, mul_left_comm, mul-le-mul_left, le_of_lt}
use mathlib.Core.Path.{◌≡◌, ap, ◌∙◌}
use mathlib.Core.Bool.{false}
use lib.Dec.{leb}
use borrow.Author.Tests.{lt-leb}
use Rattle.model.specs.Table.{time_limit}

-- ---- the sum

module _ (unit n : ℕ) (u : unit < 2 ^ 16) where
  abbrev upper-product : ℕ
  upper-product = unit * (n / 2 ^ 32)

  abbrev lower-product : ℕ
  lower-product = unit * (n % 2 ^ 32)

  -- the product by the halves of n
  halves : unit * n ≡ 2 ^ 32 * upper-product + lower-product
  halves =
      let e : n ≡ 2 ^ 32 * (n / 2 ^ 32) + n % 2 ^ 32 = omega arith in
      ap (λ (m : ℕ). unit * m) e ∙ (mul-add unit (2 ^ 32 * (n / 2 ^ 32)) (n % 2 ^ 32) ∙ ap (λ (m : ℕ). m + lower-product) (mul_left_comm unit (2 ^ 32) (n / 2 ^ 32)))

  half-product-lt : (m : ℕ) → m < 2 ^ 32 → unit * m < 2 ^ 48
  half-product-lt m l = omega (arith, mul-le-mul_left unit (le_of_lt l))

  pub too-late : (from : ℕ) → 2 ^ 30 < upper-product → leb (from + unit * n) time_limit ≡ false
  too-late from l = lt-leb (from + unit * n) time_limit (omega (arith, halves))

  pub product-fits : upper-product ≤ 2 ^ 30 → unit * n < 2 ^ 64
  product-fits l = omega (arith, halves, half-product-lt (n % 2 ^ 32) (omega arith))
