use Prim.Native.Nat.{ℕ, suc, ◌+◌, ◌-◌, ◌*◌, ◌^◌, ◌≤◌, ◌<◌}
use native.Mathlib.Nat.{pow-suc, pow-le-pow_right}
use native.Mathlib.Omega.{arith}
use mathlib.Core.Path.{◌≡◌, refl, ap, ◌∙◌}
use lib.ListN.{length}
use Rattle.model.specs.Number.{nat_text}
use Rattle.model.proofs.Numbers.{length-nat_text}
use Rattle.number.proofs.Writing.{text_of, text-some, text-longer}
use Rattle.number.proofs.scale_of.Invariants.{Counting}
use Rattle.number.proofs.scale_of.Goals as goal

module _ {n digits power : ℕ} (c : Counting n digits power) where
  digits-suc : suc (digits - 1) ≡ digits
  digits-suc = omega (arith, c.some)

  next-is : power * 10 ≡ 10 ^ digits
  next-is = rw (c.is, ← pow-suc 10 (digits - 1), digits-suc)

  next_fits : digits < 20 → power * 10 < 2 ^ 64
  next_fits h = omega (arith, next-is, pow-le-pow_right {n = 10} (omega arith) {i = digits} {j = 19} (omega (arith, h)))

  all : n < power * 10 → digits ≡ length (nat_text n)
  all h = omega (arith, c.counted, digits-suc, length-nat_text (digits - 1) n (rw (digits-suc, ← next-is) h))

  more : power * 10 ≤ n → Counting n (digits + 1) (power * 10)
  more h =
      let e : digits + 1 - 1 ≡ digits = omega arith in
      record {
        fits = c.fits;
        some = omega arith;
        is = rw e next-is;
        counted = omega (arith, text-longer digits (text_of n c.fits) (rw (← next-is) h));
      }

  most : digits ≡ 20 → 20 ≡ length (nat_text n)
  most h = omega (arith, c.counted, length-nat_text 19 n (omega (arith, c.fits)))

pub loop-digits-init : goal.loop-digits-init
loop-digits-init c = record { fits = c.ranges.n.fits; some = omega arith; is = refl; counted = text-some (text_of _ c.ranges.n.fits) }

pub overflow_mul-next : goal.overflow_mul-next
overflow_mul-next c = record { fits = next_fits c.loop-digits.invariant c.loop-digits-test.true }

pub returns-then-n-next : goal.returns-then-n-next
returns-then-n-next c = let i = c.loop-digits.invariant in (all i c.if-n-next.true, i.is)

pub loop-digits-preserved : goal.loop-digits-preserved
loop-digits-preserved c = more c.loop-digits.invariant c.if-n-next.false

pub returns : goal.returns
returns c =
    let i = c.loop-digits.invariant in
    let e : c.loop-digits.digits ≡ 20 = omega (arith, c.loop-digits-test.false, c.loop-digits.auto.digits-end) in
    (most i e, i.is ∙ ap (λ (k : ℕ). 10 ^ (k - 1)) e)
