-- `number::write_natural` meets its contract. The invariant: to write the text of n over the buffer as it was is to write the digits that are left
-- over the buffer as it is; the power is that of the first of them.
-- Assumes nothing.
use Prim.Native.Nat.{ℕ, suc, ◌+◌, ◌-◌, ◌*◌, ◌/◌, ◌%◌, ◌^◌, ◌≤◌, ◌<◌}
use native.Mathlib.Nat.{pow-succ', pow-le-pow_right, one-le-pow, mod-lt, div-one}
use native.Mathlib.Omega.{arith}
use mathlib.Core.Path.{◌≡◌, refl, sym, ap, ◌∙◌}
use mathlib.Core.List.{List}
use lib.ListN.{length, set, length-set}
use borrow.Author.Rules.{rules}
use Rattle.model.specs.Bytes.{written}
use Rattle.model.specs.Number.{nat_text}
use Rattle.model.proofs.Numbers.{length-nat_text}
use Rattle.slice.specs.Wrote.{Wrote}
use Rattle.slice.proofs.Writing.{written-first}
use Rattle.slice.proofs.Written.{written-set}
use Rattle.number.proofs.Writing.{text_of, text-some}
use Rattle.number.proofs.Figures.{exponent_lt, exponent-le, figures, figures-first, text-low, text-figures}
use Rattle.number.proofs.write_natural.Statement.{statement}
use Rattle.number.proofs.write_natural.Tie as tie

record Unwritten (before : List ℕ) (at n : ℕ) (buf : List ℕ) (power place rest : ℕ) : Type 0 where
  left : ℕ
  is : power ≡ 10 ^ left
  few : left < 20
  low : rest < 10 ^ suc left
  from : at ≤ place
  ends : place + suc left ≡ at + length (nat_text n)
  room : at + length (nat_text n) ≤ length before
  same : length buf ≡ length before
  whole : written at (nat_text n) before ≡ written place (figures (suc left) rest) buf

-- before the first digit
begun : (before : List ℕ) (at n : ℕ) → n < 2 ^ 64 → at + length (nat_text n) ≤ length before → Unwritten before at n before (10 ^ (length (nat_text n) - 1)) at n
begun before at n fits room =
    let r = text_of n fits in
    let e : length (nat_text n) ≡ suc (length (nat_text n) - 1) = omega (arith, text-some r) in
    record {
      left = length (nat_text n) - 1;
      is = refl;
      few = omega (arith, e, length-nat_text 19 n (omega (arith, fits)));
      low = rw (← e) (text-low r);
      from = omega arith;
      ends = omega (arith, e);
      room = room;
      same = refl;
      whole = ap (λ (s : List ℕ). written at s before) (text-figures _ e r);
    }

module _ {before : List ℕ} {at n : ℕ} {buf : List ℕ} {power place rest : ℕ} (w : Unwritten before at n buf power place rest) where
  digit : rest < 10 * power
  digit = omega (arith, w.low, w.is, pow-succ' 10 w.left)

  place-lt : place < length buf
  place-lt = omega (arith, w.ends, w.room, w.same)

  power_le : power ≤ 10 ^ 19
  power_le = rw w.is (pow-le-pow_right {n = 10} (omega arith) {i = w.left} {j = 19} (omega (arith, w.few)))

  module _ (h : 1 < power) where
    abbrev m : ℕ
    m = w.left - 1

    left-suc : suc m ≡ w.left
    left-suc = omega (arith, exponent_lt 0 w.left (omega (arith, h, w.is)))

    is-next : power ≡ 10 ^ suc m
    is-next = w.is ∙ ap (λ (k : ℕ). 10 ^ k) (sym left-suc)

    lower : 10 ^ m < power
    lower = omega (arith, is-next, pow-succ' 10 m, one-le-pow m 10 (omega arith))

    next : Unwritten before at n (set buf place (48 + rest / power)) (10 ^ m) (place + 1) (rest % power)
    next =
        let d = 48 + rest / power in
        let r = rest % power in
        record {
          left = m;
          is = refl;
          few = omega (arith, w.few);
          from = omega (arith, w.from);
          low = rw (← is-next) (mod-lt rest (omega (arith, h)));
          ends = omega (arith, w.ends, left-suc);
          room = w.room;
          same = simp length-set w.same;
          whole =
              w.whole ∙ ap (λ (s : List ℕ). written place s buf) (figures-first w.left rest w.is) ∙ written-first place d (figures w.left r) buf place-lt
              ∙ ap (λ (k : ℕ). written (place + 1) (figures k r) (set buf place d)) (sym left-suc);
        }

  module _ (h : power ≤ 1) where
    end : w.left ≡ 0
    end = omega (arith, exponent-le w.left 0 (omega (arith, h, w.is)))

    small : rest < 10
    small = rw end at w.low

    wrote-all : Wrote at (nat_text n) before (set buf place (48 + rest)) (place + 1)
    wrote-all =
        record {
          place = omega (arith, w.ends, end);
          bytes = sym (w.whole ∙ rw (end, div-one rest) (written-set place (48 + rest) buf place-lt));
        }

abbrev invariant-loop : tie.invariant-loop-power
invariant-loop buf₀ at n power₀ place₀ rest₀ buf power place rest = Unwritten buf₀ at n buf power place rest

abbrev decreases-loop : tie.decreases-loop-power
decreases-loop buf₀ at n power₀ place₀ rest₀ buf power place rest = power

loop-holds : tie.Need-loop-power-init invariant-loop decreases-loop
loop-holds c =
    let s = c.before.before in
    rw (c.scale_of-power.ensures.1, c.scale_of-power.ensures.0) (begun s.args.buf.now s.args.at s.args.n s.ranges.n.fits s.requires)

-- a power is left, or none
more : (c : tie.In-loop-power invariant-loop decreases-loop) → 1 < c.loop-power.power
more c = omega (arith, c.loop-power-test.true)

none : (c : tie.After-loop-power invariant-loop decreases-loop) → c.loop-power.power ≤ 1
none c = omega (arith, c.loop-power-test.false)

loop-less : tie.Need-loop-power-smaller invariant-loop decreases-loop
loop-less c =
    let l = c.before.before in
    let w = l.loop-power.invariant in
    let h = more l in
    rw (c.power_below-power.ensures (m w h) (is-next w h)) (lower w h)

loop-again : tie.Need-loop-power-preserved invariant-loop decreases-loop
loop-again c =
    let d = c.before in
    let l = d.before in
    let w = l.loop-power.invariant in
    let h = more l in
    rw (c.power_below-power.ensures (m w h) (is-next w h), d.take_digit-digit.ensures.0, d.take_digit-digit.ensures.1) (next w h)

last-digit : (c : tie.After-loop-power invariant-loop decreases-loop) → c.loop-power.rest < 10
last-digit c = small c.loop-power.invariant (none c)

pub write_natural_spec : {M : Type 1} → statement M
write_natural_spec =
    tie.close
    (tie.spec
    invariant-loop decreases-loop
    (λ c κs. search rules)
    loop-holds
    (λ c κs. digit c.loop-power.invariant)
    (λ c. let w = c.loop-power.invariant in omega (arith, place-lt w, w.from))
    (λ c. search rules)
    (λ c κs. power_le c.loop-power.invariant)
    loop-less
    loop-again
    (λ c. search (rules, last-digit c))
    (λ c. search (rules, last-digit c))
    (λ c. let w = c.loop-power.invariant in omega (arith, place-lt w, w.from))
    (λ c. search (rules, place-lt c.loop-power.invariant))
    (λ c. simp length-set c.loop-power.invariant.same)
    (λ c. wrote-all c.loop-power.invariant (none c)))
