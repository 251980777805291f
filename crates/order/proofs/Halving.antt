-- The search for a key by halves, in numbers along which the keys rise.
use Prim.Native.Nat.{ℕ, ◌+◌, ◌≤◌, ◌<◌}
use native.Mathlib.Omega.{arith}
use mathlib.Core.Path.{◌≡◌, refl, ap, ◌∙◌}
use mathlib.Core.Bool.{Bool, true, false}
use mathlib.Core.List.{List}
use lib.Dec.{ltb}
use borrow.Author.Tests.{ltb-true, ltb-false}
use Rattle.model.specs.Table.{Form}
use Rattle.model.specs.Order.{before}
use Rattle.model.proofs.Order.{before-transitive}
use Rattle.order.specs.Places.{key_at_place, Ascends, Between}

-- the keys below one place are earlier, those from another on later
pub record Narrowed (f : Form) (t l : List ℕ) (n : ℕ) (k : List ℕ) (from to : ℕ) : Type 0 where
  pub ordered : from ≤ to
  pub within : to ≤ n
  pub low : (i : ℕ) → i < from → before (key_at_place f t l i) k ≡ true
  pub high : (i : ℕ) → to ≤ i → i < n → before k (key_at_place f t l i) ≡ true

pub narrowed_none : {f : Form} {t l : List ℕ} {n : ℕ} {k : List ℕ} → Narrowed f t l n k 0 n
narrowed_none = record { ordered = omega arith; within = omega arith; low = λ i p. absurd (omega arith); high = λ i p q. absurd (omega arith) }

module _ {f : Form} {t l : List ℕ} {n : ℕ} {k : List ℕ} {from to m : ℕ} (a : Ascends f t l n) (h : Narrowed f t l n k from to) (p : from ≤ m) (q : m < to) where
  -- the key at m is later, and so are those after it
  pub lower-half : before k (key_at_place f t l m) ≡ true → Narrowed f t l n k from m
  lower-half e = record { ordered = p; within = omega (arith, h.within); low = h.low; high = later }
    where
      later : (i : ℕ) → m ≤ i → i < n → before k (key_at_place f t l i) ≡ true
      later i x y = go (ltb m i) refl
        where
          go : (b : Bool) → ltb m i ≡ b → before k (key_at_place f t l i) ≡ true
          go true c = before-transitive k (key_at_place f t l m) (key_at_place f t l i) e (a.rises m i (ltb-true m i c) y)
          go false c =
              let here : i ≡ m = omega (arith, ltb-false m i c) in
              ap (λ (j : ℕ). before k (key_at_place f t l j)) here ∙ e

  -- the key at m is earlier, and so are those before it
  pub upper-half : before (key_at_place f t l m) k ≡ true → Narrowed f t l n k (m + 1) to
  upper-half e = record { ordered = omega arith; within = h.within; low = earlier; high = h.high }
    where
      earlier : (i : ℕ) → i < m + 1 → before (key_at_place f t l i) k ≡ true
      earlier i x = go (ltb i m) refl
        where
          go : (b : Bool) → ltb i m ≡ b → before (key_at_place f t l i) k ≡ true
          go true c = before-transitive (key_at_place f t l i) (key_at_place f t l m) k (a.rises i m (ltb-true i m c) (omega (arith, h.within))) e
          go false c =
              let here : i ≡ m = omega (arith, ltb-false i m c) in
              ap (λ (j : ℕ). before (key_at_place f t l j) k) here ∙ e

-- nothing is left between
pub between : {f : Form} {t l : List ℕ} {n : ℕ} {k : List ℕ} {from to : ℕ} → Narrowed f t l n k from to → to ≤ from → Between f t l n k from
between h p = record { within = omega (arith, h.ordered, h.within); low = h.low; high = λ i x y. h.high i (omega (arith, h.ordered)) y }
