-- Lists whose keys rise: such a list is fixed by what is in it.
use mathlib.Core.Path.{◌≡◌, refl, sym, ap, ◌∙◌, subst}
use mathlib.Core.Logic.{◌⊎◌, inl, inr}
use mathlib.Core.Bool.{Bool, true, false, cond}
use mathlib.Core.List.{List, [], ◌∷◌}
use Prim.Native.Nat.{ℕ, suc, ◌≤◌}
use Prim.Native.String.{String}
use native.Mathlib.Omega.{arith}
use lib.ListN.{length}
use Rattle.model.proofs.Basics.{never}
use Rattle.model.specs.Bytes.{text}
use Rattle.model.specs.Table.{Slot, empty, used}
use Rattle.model.specs.Order.{before, In, Once, Rising, Entry, entry_key, insert, entries, index_from, index_of, list_from}
use Rattle.model.proofs.Order.{before-transitive, before-asymmetric, before-apart, Compared, sooner, same_key, after, before-total}

-- ---- rows, computed

-- a slot in use
abbrev pub rec : String → String → (version flags expiry : ℕ) → Slot
rec k v n f e = used (record { key = text k; value = text v; flags = f; version = n; expiry = e })

abbrev three : List Slot
three = rec "b" "" 1 0 0 ∷ empty ∷ rec "ab" "" 1 0 0 ∷ rec "a" "" 1 0 0 ∷ empty ∷ []

index-rows : (index_of three ≡ 3 ∷ 2 ∷ 0 ∷ []) × (index_from 7 three ≡ 10 ∷ 9 ∷ 7 ∷ []) × (index_of [] ≡ []) × (index_of (empty ∷ []) ≡ [])
    × (list_from 6 0 three ≡ 3 ∷ 2 ∷ 0 ∷ 0 ∷ 0 ∷ 0 ∷ [])
unfolding entries
index-rows = (refl, refl, refl, refl, refl)

-- ---- what fixes a rising list

module _ {A : Type 0} where
  -- what stands in l stands in m
  abbrev pub Within : List A → List A → Type 0
  Within l m = (a : A) → In a l → In a m

module _ {A : Type 0} (key : A → List ℕ) where
  -- no key is before k
  abbrev pub NoneBefore : List ℕ → List A → Type 0
  NoneBefore k es = (g : A) → In g es → before (key g) k ≡ false

  -- no key is k
  abbrev pub Without : List ℕ → List A → Type 0
  Without k es = (g : A) → In g es → key g ≡ k → ⊥

  -- no key is before one that stands earlier
  abbrev pub Sorted : List A → Type 0
  Sorted [] = Unit {0}
  Sorted (e ∷ es) = NoneBefore (key e) es × Sorted es

  rising-sorted : (es : List A) → Rising key es → Sorted es
  rising-sorted [] r = tt
  rising-sorted (e ∷ es) r = (λ g i. before-asymmetric (key e) (key g) (r.0 g i), rising-sorted es r.1)

  -- ---- a rising list within a sorted one is no longer, and it is that one if it is as long

  rising-within : (xs ys : List A) → Rising key xs → Sorted ys → Within xs ys
      → (length xs ≤ length ys) × (length xs ≡ length ys → xs ≡ ys)
  rising-within [] [] r s w = (omega arith, λ e. refl)
  rising-within (a ∷ xs) [] r s w = absurd (w a (inl refl))
  rising-within [] (b ∷ ys) r s w = (omega arith, λ e. absurd (omega arith))
  rising-within (a ∷ xs) (b ∷ ys) r s w = go (rising-within xs ys) (rising-within (a ∷ xs) ys) (w a (inl refl))
    where
      Fits : List A → List A → Type 0
      Fits xs ys = (length xs ≤ length ys) × (length xs ≡ length ys → xs ≡ ys)

      -- the first of both is the same
      rest : a ≡ b → Within xs ys
      rest p g i = past (w g (inr i))
        where
          past : (g ≡ b) ⊎ In g ys → In g ys
          past (inl q) = absurd (before-apart (key a) (key g) (r.0 g i) (ap key (p ∙ sym q)))
          past (inr j) = j

      -- the first of xs stands further on
      whole : In a ys → Within (a ∷ xs) ys
      whole j g (inl p) = subst (λ (x : A). In x ys) (sym p) j
      whole j g (inr i) = past (w g (inr i))
        where
          past : (g ≡ b) ⊎ In g ys → In g ys
          past (inl q) =
              never (before (key a) (key g)) (r.0 g i) (ap (λ (x : A). before (key a) (key x)) q ∙ s.0 a j)
          past (inr j) = j

      go : (Rising key xs → Sorted ys → Within xs ys → Fits xs ys) → (Rising key (a ∷ xs) → Sorted ys → Within (a ∷ xs) ys → Fits (a ∷ xs) ys)
          → (a ≡ b) ⊎ In a ys → Fits (a ∷ xs) (b ∷ ys)
      go ih jh (inl p) =
          let q = ih r.1 s.1 (rest p) in
          (omega (arith, q.0), λ e. let t : xs ≡ ys = q.1 (omega arith) in cc)
      go ih jh (inr j) = let q = jh r s.1 (whole j) in (omega (arith, q.0), λ e. absurd (omega (arith, q.0)))

  -- nothing stands twice in a rising list
  pub rising-once : (es : List A) → Rising key es → Once es
  rising-once [] r = tt
  rising-once (e ∷ es) r = (λ i. before-apart (key e) (key e) (r.0 e i) refl, rising-once es r.1)

  -- two rising lists with the same in them are equal
  pub rising-unique : (xs ys : List A) → Rising key xs → Rising key ys → Within xs ys → Within ys xs → xs ≡ ys
  rising-unique xs ys r s v w =
      let p = rising-within xs ys r (rising-sorted ys s) v in
      let q = rising-within ys xs s (rising-sorted xs r) w in
      p.1 (omega (arith, p.0, q.0))

-- ---- putting an entry in

pub in_insert : (e : Entry) (es : List Entry) (g : Entry) → In g (insert e es) → (g ≡ e) ⊎ In g es
in_insert e [] g i = i
in_insert e (f ∷ fs) g i = go (in_insert e fs g) (before e.key f.key) i
  where
    later : (In g (insert e fs) → (g ≡ e) ⊎ In g fs) → In g (f ∷ insert e fs) → (g ≡ e) ⊎ In g (f ∷ fs)
    later ih (inl p) = inr (inl p)
    later ih (inr i) = past (ih i)
      where
        past : (g ≡ e) ⊎ In g fs → (g ≡ e) ⊎ In g (f ∷ fs)
        past (inl p) = inl p
        past (inr j) = inr (inr j)

    go : (In g (insert e fs) → (g ≡ e) ⊎ In g fs) → (b : Bool) → In g (cond b (e ∷ f ∷ fs) (f ∷ insert e fs)) → (g ≡ e) ⊎ In g (f ∷ fs)
    go ih true i = i
    go ih false i = later ih i

pub insert-in : (e : Entry) (es : List Entry) (g : Entry) → (g ≡ e) ⊎ In g es → In g (insert e es)
insert-in e [] g i = i
insert-in e (f ∷ fs) g i = go (insert-in e fs g) (before e.key f.key) i
  where
    go : ((g ≡ e) ⊎ In g fs → In g (insert e fs)) → (b : Bool) → (g ≡ e) ⊎ In g (f ∷ fs) → In g (cond b (e ∷ f ∷ fs) (f ∷ insert e fs))
    go ih true i = i
    go ih false (inl p) = inr (ih (inl p))
    go ih false (inr (inl p)) = inl p
    go ih false (inr (inr j)) = inr (ih (inr j))

pub length-insert : (e : Entry) (es : List Entry) → length (insert e es) ≡ suc (length es)
length-insert e [] = refl
length-insert e (f ∷ fs) = go (length-insert e fs) (before e.key f.key)
  where
    go : length (insert e fs) ≡ suc (length fs) → (b : Bool) → length (cond b (e ∷ f ∷ fs) (f ∷ insert e fs)) ≡ suc (suc (length fs))
    go ih true = refl
    go ih false = ap suc ih

-- an entry of another key put into a rising list
pub rising-insert : (e : Entry) (es : List Entry) → Rising entry_key es → Without entry_key e.key es → Rising entry_key (insert e es)
rising-insert e [] r n = (λ g i. absurd i, tt)
rising-insert e (f ∷ fs) r n = go (rising-insert e fs r.1 (λ g i. n g (inr i))) (before e.key f.key) refl
  where
    front : before e.key f.key ≡ true → (g : Entry) → In g (f ∷ fs) → before e.key g.key ≡ true
    front h g (inl p) = ap (λ (x : Entry). before e.key x.key) p ∙ h
    front h g (inr i) = before-transitive e.key f.key g.key h (r.0 g i)

    over : before e.key f.key ≡ false → Compared f.key e.key → before f.key e.key ≡ true
    over h (sooner q) = q
    over h (same_key q) = absurd (n f (inl refl) q)
    over h (after q) = never (before e.key f.key) q h

    behind : before e.key f.key ≡ false → (g : Entry) → (g ≡ e) ⊎ In g fs → before f.key g.key ≡ true
    behind h g (inl p) = ap (λ (x : Entry). before f.key x.key) p ∙ over h (before-total f.key e.key)
    behind h g (inr i) = r.0 g i

    go : Rising entry_key (insert e fs) → (b : Bool) → before e.key f.key ≡ b → Rising entry_key (cond b (e ∷ f ∷ fs) (f ∷ insert e fs))
    go ih true h = (front h, r)
    go ih false h = (λ g i. behind h g (in_insert e fs g i), ih)
