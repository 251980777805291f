-- Overflow, over sign and width at once.
use mathlib.Core.Path.{◌≡◌, refl, sym, ap, ◌∙◌}
use mathlib.Core.Logic.{◌↔◌}
use mathlib.Core.Bool.{Bool, true, false, cond}
use mathlib.Core.Option.{none, some}
use Prim.Native.Nat.{ℕ, ◌+◌, ◌-◌, ◌≤◌, ◌<◌}
use native.Mathlib.Omega.{arith}
use lib.IntN.{ℤ, pos, negsuc, neg_ℤ, nat_abs, ◌-ℤ◌}
use lib.Signed.{lt_z}
use lib.Pow.{pow_pos}
use Rattle.model.proofs.Basics.{never, some-eq, none-some, cond-some}
use Rattle.model.specs.Field.{IntType, modulus, negatives, least, greatest, fits, modulo, meaning}
use Rattle.model.specs.Overflow.{Mode, wrap, sat, fail, Side, under, within, over, side, wrapped, saturated, unless_out, overflow}
use Rattle.model.proofs.Integers.{up, dn, lt-true, lt-false, up_neg, dn-neg, up-add, one-part, modulo-lt}
use Rattle.model.proofs.Ranges.{Ranged, negatives-lt, fits-range, range-fits, meaning-fits, meaning-modulo, modulo-meaning}

-- ---- the side of a number

module _ (k : IntType) (w : 1 ≤ k.width) where
  pub by_side : (P : Side → Type 0) (z : ℤ) → (up z + negatives k < dn z → P under) → (Ranged k z → P (within z))
      → (modulus k + dn z ≤ up z + negatives k → P over) → P (side k z)
  by_side P z f g h = low (lt_z z (least k)) refl
    where
      n : negatives k < modulus k
      n = negatives-lt k w

      a : up (least k) ≡ 0
      a = up_neg (pos (negatives k))

      b : dn (least k) ≡ negatives k
      b = dn-neg (pos (negatives k))

      high : dn z ≤ up z + negatives k → (t : Bool) → lt_z (greatest k) z ≡ t → P (cond t over (within z))
      high l true e = h (omega (arith, n, lt-true (greatest k) z e))
      high l false e =
          let u = lt-false (greatest k) z e in
          g (one-part z (λ p. record { bottom = omega (arith, n); top = omega (arith, n) }) (λ p. record { bottom = omega (arith, n); top = omega (arith, n) }))

      low : (t : Bool) → lt_z z (least k) ≡ t → P (cond t under (cond (lt_z (greatest k) z) over (within z)))
      low true e = f (omega (arith, lt-true z (least k) e, a, b))
      low false e = high (omega (arith, lt-false z (least k) e, a, b)) (lt_z (greatest k) z) refl

  -- a number fits exactly if it is within
  pub side-fits : (z : ℤ) → fits k z ≡ true → side k z ≡ within z
  side-fits z e =
      let r = fits-range k z w e in
      by_side (λ (s : Side). s ≡ within z) z
      (λ l. absurd (omega (arith, r.bottom)))
      (λ l. refl)
      (λ l. absurd (omega (arith, r.top)))

  -- ---- wrapped

  pub wrapped-fits : (z : ℤ) → fits k (wrapped k z) ≡ true
  wrapped-fits z = meaning-fits k (modulo z (modulus k)) (modulo-lt z (modulus k) (pow_pos k.width)) w

  pub wrapped-congruent : (z : ℤ) → modulo (wrapped k z) (modulus k) ≡ modulo z (modulus k)
  wrapped-congruent z = modulo-meaning k (modulo z (modulus k)) (modulo-lt z (modulus k) (pow_pos k.width))

  pub wrapped_same : (z : ℤ) → fits k z ≡ true → wrapped k z ≡ z
  wrapped_same z e = meaning-modulo k z w e

  -- two numbers that fit and are congruent are equal, so that wrapped is the only one
  pub congruent-same : (y z : ℤ) → fits k y ≡ true → fits k z ≡ true → modulo y (modulus k) ≡ modulo z (modulus k) → y ≡ z
  congruent-same y z p q e = sym (meaning-modulo k y w p) ∙ (ap (meaning k) e ∙ meaning-modulo k z w q)

  -- ---- saturated

  least_fits : fits k (least k) ≡ true
  least_fits =
      range-fits k (least k) (record { bottom = omega (arith, dn-neg (pos (negatives k))); top = omega (arith, up_neg (pos (negatives k)), negatives-lt k w) })

  greatest-fits : fits k (greatest k) ≡ true
  greatest-fits = range-fits k (greatest k) (record { bottom = omega arith; top = omega (arith, negatives-lt k w) })

  pub saturated-fits : (z : ℤ) → fits k (saturated k (side k z)) ≡ true
  saturated-fits z =
      by_side (λ (s : Side). fits k (saturated k s) ≡ true) z (λ l. least_fits) (λ r. range-fits k z r) (λ l. greatest-fits)

  pub saturated-same : (z : ℤ) → fits k z ≡ true → saturated k (side k z) ≡ z
  saturated-same z e = ap (saturated k) (side-fits z e)

  pub saturated-least : (z : ℤ) → lt_z z (least k) ≡ true → saturated k (side k z) ≡ least k
  saturated-least z e = rw e

  pub saturated-greatest : (z : ℤ) → lt_z (greatest k) z ≡ true → saturated k (side k z) ≡ greatest k
  saturated-greatest z e =
      let l = lt-true (greatest k) z e in
      let n = negatives-lt k w in
      by_side (λ (s : Side). saturated k s ≡ greatest k) z
      (λ u. absurd (one-part z (λ p. omega arith) (λ p. omega arith)))
      (λ r. absurd (omega (arith, r.top)))
      (λ u. refl)

-- how far apart two numbers are
abbrev pub distance : ℤ → ℤ → ℕ
distance a b = nat_abs (a -ℤ b)

distance-parts : (a b : ℤ) → distance a b ≡ (up a + dn b - (up b + dn a)) + (up b + dn a - (up a + dn b))
distance-parts a b = go (a -ℤ b) (up-add a (neg_ℤ b)) (up_neg b) (dn-neg b)
  where
    go : (s : ℤ) → up s + (dn a + dn (neg_ℤ b)) ≡ dn s + (up a + up (neg_ℤ b)) → up (neg_ℤ b) ≡ dn b → dn (neg_ℤ b) ≡ up b
        → nat_abs s ≡ (up a + dn b - (up b + dn a)) + (up b + dn a - (up a + dn b))
    go (pos n) e p q = omega arith
    go (negsuc n) e p q = omega arith

module _ (k : IntType) (w : 1 ≤ k.width) where
  -- no number that fits is nearer
  pub saturated-nearest : (z y : ℤ) → fits k y ≡ true → distance z (saturated k (side k z)) ≤ distance z y
  saturated-nearest z y e =
      let r = fits-range k y w e in
      let lo = r.bottom in
      let hi = r.top in
      let n = negatives-lt k w in
      let d = distance-parts z y in
      by_side k w (λ (s : Side). distance z (saturated k s) ≤ distance z y) z
      (λ l. let c = distance-parts z (least k) in let a = up_neg (pos (negatives k)) in let b = dn-neg (pos (negatives k)) in omega arith)
      (λ l. let c = distance-parts z z in omega arith)
      (λ l. let c = distance-parts z (greatest k) in omega arith)

  -- ---- the three modes

  pub overflow-wrap : (z : ℤ) → overflow k wrap z ≡ some (wrapped k z)
  unfolding overflow
  overflow-wrap z = refl

  pub overflow-sat : (z : ℤ) → overflow k sat z ≡ some (saturated k (side k z))
  unfolding overflow
  overflow-sat z = refl

  pub overflow-fail : (z : ℤ) → overflow k fail z ≡ cond (fits k z) (some z) none
  unfolding overflow
  overflow-fail z = go (fits k z) refl
    where
      go : (b : Bool) → fits k z ≡ b → unless_out (side k z) ≡ cond b (some z) none
      go true e = ap unless_out (side-fits k w z e)
      go false e = by_side k w (λ (s : Side). unless_out s ≡ none) z (λ l. refl) (λ r. never (fits k z) (range-fits k z r) e) (λ l. refl)

  -- a number that fits is stored as it is
  pub overflow-same : (m : Mode) (z : ℤ) → fits k z ≡ true → overflow k m z ≡ some z
  overflow-same wrap z e = overflow-wrap z ∙ ap some (wrapped_same k w z e)
  overflow-same sat z e = overflow-sat z ∙ ap some (saturated-same k w z e)
  overflow-same fail z e = overflow-fail z ∙ rw e

  -- what is stored fits
  pub overflow-fits : (m : Mode) (z y : ℤ) → overflow k m z ≡ some y → fits k y ≡ true
  overflow-fits wrap z y e = ap (fits k) (sym (some-eq (sym (overflow-wrap z) ∙ e))) ∙ wrapped-fits k w z
  overflow-fits sat z y e = ap (fits k) (sym (some-eq (sym (overflow-sat z) ∙ e))) ∙ saturated-fits k w z
  overflow-fits fail z y e =
      let q = cond-some (fits k z) (some z) y (sym (overflow-fail z) ∙ e) in
      ap (fits k) (sym (some-eq q.1)) ∙ q.0

  -- FAIL answers nothing exactly if the sum does not fit
  pub fail-none : (z : ℤ) → (overflow k fail z ≡ none) ↔ (fits k z ≡ false)
  fail-none z = (λ e. go (fits k z) (sym (overflow-fail z) ∙ e), λ e. overflow-fail z ∙ rw e)
    where
      go : (b : Bool) → cond b (some z) none ≡ none → b ≡ false
      go true e = none-some z (sym e)
      go false e = refl
