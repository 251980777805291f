-- The last slash of a path, seen from its end.
use Prim.Native.Nat.{ℕ, suc, ◌-◌, ◌≤◌, ◌<◌}
use native.Mathlib.Omega.{arith}
use mathlib.Core.Path.{◌≡◌, refl, ap, ◌∙◌}
use mathlib.Core.Bool.{Bool, cond, ◌||◌, or-true}
use mathlib.Core.List.{List, [], ◌∷◌, ◌++◌}
use lib.ListN.{length, take, get_or}
use lib.Seq.{take-suc, length-take-le}
use lib.Dec.{eqb, ltb}
use borrow.Author.Tests.{lt-ltb, ne_eqb}
use Rattle.tablefile.specs.Names.{after_slash}

-- a last byte that is no slash does not count
other-end : (s : List ℕ) (c : ℕ) → (c ≡ 47 → ⊥) → after_slash (s ++ (c ∷ [])) ≡ after_slash s
unfolding after_slash
other-end [] c n = rw (ne_eqb c 47 n)
other-end (x ∷ s) c n = ap (λ (m : ℕ). cond (eqb x 47 || ltb 0 m) (suc m) 0) (other-end s c n)

-- a slash at the end is the last
slash-end : (s : List ℕ) → after_slash (s ++ (47 ∷ [])) ≡ suc (length s)
unfolding after_slash
slash-end [] = refl
slash-end (x ∷ s) =
    ap (λ (m : ℕ). cond (eqb x 47 || ltb 0 m) (suc m) 0) (slash-end s)
    ∙ ap (λ (b : Bool). cond b (suc (suc (length s))) 0) (ap (λ (b : Bool). eqb x 47 || b) (lt-ltb 0 (suc (length s)) (omega arith)) ∙ or-true (eqb x 47))

module _ (p : List ℕ) (n : ℕ) (some : 0 < n) (within : n ≤ length p) where
  split : take n p ≡ take (n - 1) p ++ (get_or p (n - 1) 0 ∷ [])
  split = let e : n ≡ suc (n - 1) = omega arith in ap (λ (m : ℕ). take m p) e ∙ take-suc p (n - 1) 0 (omega arith)

  pub other : (get_or p (n - 1) 0 ≡ 47 → ⊥) → after_slash (take n p) ≡ after_slash (take (n - 1) p)
  other h = ap after_slash split ∙ other-end (take (n - 1) p) (get_or p (n - 1) 0) h

  pub slash : get_or p (n - 1) 0 ≡ 47 → after_slash (take n p) ≡ n
  slash h =
      let e : suc (length (take (n - 1) p)) ≡ n = omega (arith, length-take-le (n - 1) p (omega arith)) in
      ap after_slash (split ∙ ap (λ (c : ℕ). take (n - 1) p ++ (c ∷ [])) h) ∙ slash-end (take (n - 1) p) ∙ e
