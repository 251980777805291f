-- `number::take_digit` meets its contract. The invariant: what was taken, and what can still be taken, is what can be taken from n.
-- Assumes nothing.
use Prim.Native.Nat.{ℕ, ◌+◌, ◌-◌, ◌*◌, ◌/◌, ◌%◌, ◌≤◌, ◌<◌}
use native.Mathlib.Nat.{div-eq-sub-div, div-eq_of_lt, div-lt_iff_lt-mul, mod-eq-sub-mod, mod-eq_of_lt}
use native.Mathlib.Omega.{arith}
use mathlib.Core.Path.{◌≡◌, refl, sym, ◌∙◌}
use Rattle.number.proofs.take_digit.Statement.{statement}
use Rattle.number.proofs.take_digit.Tie as tie

record Taking (n power byte rest : ℕ) : Type 0 where
  digit : n < 10 * power
  taken : byte + rest / power ≡ 48 + n / power
  left : rest % power ≡ n % power

module _ {n power byte rest : ℕ} (t : Taking n power byte rest) where
  some : 0 < power
  some = omega (arith, t.digit)

  few : n / power < 10
  few = (div-lt_iff_lt-mul some).1 t.digit

  module _ (h : power ≤ rest) where
    once : rest / power ≡ (rest - power) / power + 1
    once = div-eq-sub-div some h

    next : Taking n power (byte + 1) (rest - power)
    next = record { digit = t.digit; taken = omega (arith, t.taken, once); left = sym (mod-eq-sub-mod h) ∙ t.left }

  module _ (h : rest < power) where
    last : byte ≡ 48 + n / power
    last = omega (arith, t.taken, div-eq_of_lt h)

    below : rest ≡ n % power
    below = sym (mod-eq_of_lt h) ∙ t.left

abbrev invariant-loop : tie.invariant-loop-rest
invariant-loop n power byte₀ rest₀ byte rest = Taking n power byte rest

abbrev decreases-loop : tie.decreases-loop-rest
decreases-loop n power byte₀ rest₀ byte rest = rest

-- the power can be taken away once more, or not
more : (c : tie.In-loop-rest invariant-loop decreases-loop) → c.args.power ≤ c.loop-rest.rest
more c = omega (arith, c.loop-rest-test.true)

no_more : (c : tie.After-loop-rest invariant-loop decreases-loop) → c.loop-rest.rest < c.args.power
no_more c = omega (arith, c.loop-rest-test.false)

pub take_digit_spec : {M : Type 1} → statement M
take_digit_spec =
    tie.close
    (tie.spec
    invariant-loop decreases-loop
    (λ c. record { digit = c.requires; taken = refl; left = refl })
    (λ c. let t = c.loop-rest.invariant in record { fits = omega (arith, t.taken, few t, once t (more c)) })
    (λ c. omega (arith, some c.loop-rest.invariant, more c))
    (λ c. next c.loop-rest.invariant (more c))
    (λ c. let t = c.loop-rest.invariant in (last t (no_more c), below t (no_more c))))
