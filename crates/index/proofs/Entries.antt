-- Entries: the lowest slot from i on that passes a test, one slot at a time.
use Rattle.std.proofs.Common.{◌≡◌, ℕ, zero, suc, ◌+◌, ◌-◌, ◌<◌, ◌≤◌, Bool, true, false, cond, ◌&&◌, ltb, sym, refl, ap, ◌∙◌, subst, add-one, arith, ltb-true, ne_eqb}
use mathlib.Core.Bool.{not-eq-not}
use Rattle.slice.proofs.Equal.{never, and_left, and_right}
use Rattle.std.proofs.Math.Option as model
use Rattle.std.proofs.Common.{Some, None}
use Rattle.outcome.specs.Outcome.{to_model}
use Rattle.index.specs.Index.{entry_of, entry_from, named_by, entry_slot}

-- what holds past the last of n slots, and of a slot where it holds of the next one, holds of every slot
pub downward : (P : ℕ → Type 0) (n : ℕ) → ((i : ℕ) → n ≤ i → P i) → ((i : ℕ) → i < n → P (i + 1) → P i) → (i : ℕ) → P i
downward P n end step i = go (n - i) i refl
  where
    go : (d j : ℕ) → n - j ≡ d → P j
    go zero j e = end j (omega arith)
    go (suc d) j e = step j (omega arith) (go d (j + 1) (omega arith))

-- whether slot i can be an entry and passes
abbrev passes : (ℕ → Bool) → ℕ → Bool
passes p i = ltb 0 i && p i

-- what is known of the slot that an entry names
pub record Named (p : ℕ → Bool) (n i entry : ℕ) : Type 0 where
  pub low : i ≤ entry
  pub high : entry < n
  pub is : p entry ≡ true

pub named-slot : (n entry : ℕ) → 0 < entry → named_by n entry ≡ entry
named-slot n e h = rw (ne_eqb e 0 (λ z. omega arith))

module _ (p : ℕ → Bool) (n : ℕ) where
  pub entry-end : (i : ℕ) → n ≤ i → entry_from p n i ≡ 0
  unfolding entry_from
  entry-end i h = let none : n - i ≡ 0 = omega arith in rw none

  pub entry_next : (i : ℕ) → i < n → entry_from p n i ≡ cond (passes p i) i (entry_from p n (i + 1))
  unfolding entry_from
  entry_next i h =
      let more : n - i ≡ suc (n - (i + 1)) = omega arith in
      rw more (ap (λ (j : ℕ). cond (passes p i) i (entry_of p (n - (i + 1)) j)) (sym (add-one i)))

  module _ (i : ℕ) (h : i < n) where
    pub entry_here : passes p i ≡ true → entry_from p n i ≡ i
    entry_here e = entry_next i h ∙ rw e

    pub entry-on : passes p i ≡ false → entry_from p n i ≡ entry_from p n (i + 1)
    entry-on e = entry_next i h ∙ rw e

  pub entry_named : (i : ℕ) → 0 < entry_from p n i → Named p n i (entry_from p n i)
  entry_named =
      downward (λ (i : ℕ). 0 < entry_from p n i → Named p n i (entry_from p n i)) n (λ i h a. absurd (omega (arith, entry-end i h))) (λ i h more. go i h more (passes p i) refl)
    where
      go : (i : ℕ) → i < n → (0 < entry_from p n (i + 1) → Named p n (i + 1) (entry_from p n (i + 1))) → (b : Bool) → passes p i ≡ b
          → 0 < entry_from p n i → Named p n i (entry_from p n i)
      go i h more true e a = subst (Named p n i) (sym (entry_here i h e)) (record { low = omega arith; high = h; is = and_right (ltb 0 i) (p i) e })
      go i h more false e a =
          let on = entry-on i h e in
          let m = more (omega arith) in
          subst (Named p n i) (sym on) (record { low = omega (arith, m.low); high = m.high; is = m.is })

-- where what passes a second test passes a first one, the lowest slot for the second is not below the lowest for the first
pub entry-through : (p q : ℕ → Bool) (n i : ℕ) → ((j : ℕ) → i ≤ j → j < n → q j ≡ true → p j ≡ true) → entry_from q n i ≡ entry_from q n (named_by n (entry_from p n i))
entry-through p q n = downward Through n (λ i h implies. end i h) (λ i h more implies. go i h implies (more (λ j low. implies j (omega arith))) (passes p i) refl)
  where
    Through : ℕ → Type 0
    Through i = ((j : ℕ) → i ≤ j → j < n → q j ≡ true → p j ≡ true) → entry_from q n i ≡ entry_from q n (named_by n (entry_from p n i))

    end : (i : ℕ) → n ≤ i → entry_from q n i ≡ entry_from q n (named_by n (entry_from p n i))
    end i h = rw (entry-end p n i h, entry-end q n i h, entry-end q n n (omega arith))

    go : (i : ℕ) → i < n → ((j : ℕ) → i ≤ j → j < n → q j ≡ true → p j ≡ true) → entry_from q n (i + 1) ≡ entry_from q n (named_by n (entry_from p n (i + 1)))
        → (b : Bool) → passes p i ≡ b → entry_from q n i ≡ entry_from q n (named_by n (entry_from p n i))
    go i h implies more true e = rw (entry_here p n i h e, named-slot n i (ltb-true 0 i (and_left (ltb 0 i) (p i) e)))
    go i h implies more false e =
        let other : passes q i ≡ false = not-eq-not.0 (λ u. never (passes p i) (both u) e) in
        entry-on q n i h other ∙ more ∙ rw (entry-on p n i h e)
      where
        both : passes q i ≡ true → passes p i ≡ true
        both u = rw (and_left (ltb 0 i) (q i) u, implies i (omega arith) h (and_right (ltb 0 i) (q i) u))

-- ---- the slot of an entry

pub some-entry : (e i : ℕ) → e ≡ i → 0 < i → Some i ≡ entry_slot e
some-entry e zero q h = absurd (omega arith)
some-entry e (suc i) q h = rw q

pub no-entry : (e : ℕ) → e ≡ 0 → None ≡ entry_slot e
no-entry e q = rw q

-- as the model has it
pub to-slot : (e : ℕ) (o : model.Option ℕ) → (e ≡ 0 → model.none ≡ o) → (0 < e → model.some e ≡ o) → to_model (entry_slot e) ≡ o
to-slot zero o a b = a refl
to-slot (suc e) o a b = b (omega arith)
