-- `number::power_below` meets its contract. The invariant: `below` is a power of ten, not above the one that is wanted, and `next` the one above it.
-- Assumes nothing.
use Prim.Native.Nat.{ℕ, suc, ◌-◌, ◌*◌, ◌^◌, ◌≤◌, ◌<◌}
use native.Mathlib.Nat.{pow-suc, pow-le-pow_right, one-le-pow}
use native.Mathlib.Omega.{arith}
use mathlib.Core.Path.{◌≡◌, refl, sym, ap, ◌∙◌}
use Rattle.number.proofs.Figures.{exponent_lt, exponent-le}
use Rattle.number.proofs.power_below.Statement.{statement}
use Rattle.number.proofs.power_below.Tie as tie

record Rising (power below next : ℕ) : Type 0 where
  top : power ≤ 10 ^ 19
  i : ℕ
  is : below ≡ 10 ^ i
  above : next ≡ 10 ^ suc i
  least : (k : ℕ) → power ≡ 10 ^ suc k → i ≤ k

module _ {power below next : ℕ} (r : Rising power below next) where
  module _ (h : next < power) where
    next_fits : next * 10 < 2 ^ 64
    next_fits =
        let e = exponent_lt (suc r.i) 19 (omega (arith, r.above, r.top, h)) in
        omega (arith, r.above, pow-le-pow_right {n = 10} (omega arith) {i = suc r.i} {j = 18} (omega (arith, e)))

    rising : power - next * 10 < power - next
    rising = omega (arith, r.above, one-le-pow (suc r.i) 10 (omega arith))

    up : Rising power next (next * 10)
    up =
        record {
          top = r.top;
          i = suc r.i;
          is = r.above;
          above = ap (λ (p : ℕ). p * 10) r.above ∙ sym (pow-suc 10 (suc r.i));
          least = λ k e. omega (arith, exponent_lt (suc r.i) (suc k) (omega (arith, r.above, e, h)));
        }

  found : power ≤ next → (k : ℕ) → power ≡ 10 ^ suc k → below ≡ 10 ^ k
  found h k e =
      let same : r.i ≡ k = omega (arith, r.least k e, exponent-le (suc k) (suc r.i) (omega (arith, r.above, e, h))) in
      r.is ∙ ap (λ (m : ℕ). 10 ^ m) same

abbrev invariant-loop : tie.invariant-loop-next
invariant-loop power below₀ next₀ below next = Rising power below next

abbrev decreases-loop : tie.decreases-loop-next
decreases-loop power below₀ next₀ below next = power - next

pub power_below_spec : {M : Type 1} → statement M
power_below_spec =
    tie.close
    (tie.spec
    invariant-loop decreases-loop
    (λ c. record { top = c.requires; i = 0; is = refl; above = refl; least = λ k e. omega arith })
    (λ c. record { fits = next_fits c.loop-next.invariant c.loop-next-test.true })
    (λ c. let l = c.loop-next in rising l.invariant c.loop-next-test.true)
    (λ c. up c.loop-next.invariant c.loop-next-test.true)
    (λ c. found c.loop-next.invariant c.loop-next-test.false))
