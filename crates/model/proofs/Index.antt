-- The index of slots: it is the one list of the numbers of the slots in use along which their keys rise.
use mathlib.Core.Path.{◌≡◌, refl, sym, ap, ◌∙◌, subst}
use mathlib.Core.Logic.{◌⊎◌, inl, inr, ◌↔◌}
use mathlib.Core.Bool.{Bool, true, false, cond, not}
use mathlib.Core.List.{List, [], ◌∷◌}
use mathlib.Core.Option.{Option, none, some, get_or}
use Prim.Native.Nat.{ℕ, suc, ◌+◌, ◌-◌, ◌≤◌, ◌<◌}
use native.Mathlib.Omega.{arith}
use lib.ListN.{length, get_elem?}
use lib.Dec.{leb, ltb}
use borrow.Author.Tests.{leb-true, ltb-true, ltb-false, le-leb, not-true}
use Rattle.model.specs.Bytes.{same}
use Rattle.model.specs.Optional.{◌>>=◌}
use Rattle.model.specs.Table.{Record, Slot, empty, used, any_holds, distinct}
use Rattle.model.proofs.Basics.{never, and_left, and_right, or_left, or_right, eq-same, some-eq, none-some, cond-some}
use Rattle.model.specs.Order.{before, In, Once, Above, Rising, Entry, entry, entry_key, entries, numbers, index_from, slot_key, key_in, key_of, Ordered}
use Rattle.model.proofs.Rising.{Without, rising-unique, rising-once, in_insert, insert-in, length-insert, rising-insert}

-- ---- the key in a slot

key_in-nil : (first n : ℕ) → key_in first [] n ≡ none
unfolding key_in
key_in-nil first n = go (leb first n)
  where
    go : (b : Bool) → ◌≡◌ {A = Option (List ℕ)} (cond b none none) none
    go true = refl
    go false = refl

key_in-here : (first : ℕ) (s : Slot) (ss : List Slot) → key_in first (s ∷ ss) first ≡ slot_key s
unfolding key_in
key_in-here first s ss = let z : first - first ≡ 0 = omega arith in rw (le-leb first first (omega arith), z)

key_in-later : (first : ℕ) (s : Slot) (ss : List Slot) (n : ℕ) → first < n → key_in first (s ∷ ss) n ≡ key_in (suc first) ss n
unfolding key_in
key_in-later first s ss n h =
    let z : n - first ≡ suc (n - suc first) = omega arith in
    rw (le-leb first n (omega arith), le-leb (suc first) n h, z)

key_in-from : (first : ℕ) (ss : List Slot) (n : ℕ) (k : List ℕ) → key_in first ss n ≡ some k → first ≤ n
unfolding key_in
key_in-from first ss n k e = leb-true first n (cond-some (leb first n) (get_elem? ss (n - first) >>= slot_key) k e).0

pub key_in-slot : (first : ℕ) (ss : List Slot) (n : ℕ) (k : List ℕ) → key_in first ss n ≡ some k
    → (i : ℕ) × (r : Record) × (get_elem? ss i ≡ some (used r)) × (r.key ≡ k) × (n ≡ first + i)
unfolding key_in
key_in-slot first ss n k e = go (leb first n) refl (get_elem? ss (n - first)) refl e
  where
    go : (b : Bool) → leb first n ≡ b → (o : Option Slot) → get_elem? ss (n - first) ≡ o → cond b (o >>= slot_key) none ≡ some k
        → (i : ℕ) × (r : Record) × (get_elem? ss i ≡ some (used r)) × (r.key ≡ k) × (n ≡ first + i)
    go false h o q e = none-some k e
    go true h none q e = none-some k e
    go true h (some empty) q e = none-some k e
    go true h (some (used r)) q e = (n - first, r, q, some-eq e, omega (arith, leb-true first n h))

pub key_in-at : (first : ℕ) (ss : List Slot) (i : ℕ) (r : Record) → get_elem? ss i ≡ some (used r) → key_in first ss (first + i) ≡ some r.key
unfolding key_in
key_in-at first ss i r e =
    let z : first + i - first ≡ i = omega arith in
    rw (le-leb first (first + i) (omega arith), z, e)

-- ---- the entries are those of the slots in use

pub in-entries : (first : ℕ) (ss : List Slot) (g : Entry) → In g (entries first ss) → key_in first ss g.at ≡ some g.key
unfolding entries
in-entries first [] g i = absurd i
in-entries first (empty ∷ ss) g i =
    let h = in-entries (suc first) ss g i in
    key_in-later first empty ss g.at (key_in-from (suc first) ss g.at g.key h) ∙ h
in-entries first (used r ∷ ss) g i = go (in-entries (suc first) ss g) (in_insert (entry r.key first) (entries (suc first) ss) g i)
  where
    go : (In g (entries (suc first) ss) → key_in (suc first) ss g.at ≡ some g.key) → (g ≡ entry r.key first) ⊎ In g (entries (suc first) ss)
        → key_in first (used r ∷ ss) g.at ≡ some g.key
    go ih (inl p) = subst (λ (x : Entry). key_in first (used r ∷ ss) x.at ≡ some x.key) (sym p) (key_in-here first (used r) ss)
    go ih (inr j) = key_in-later first (used r) ss g.at (key_in-from (suc first) ss g.at g.key (ih j)) ∙ ih j

pub entries-in : (first : ℕ) (ss : List Slot) (n : ℕ) (k : List ℕ) → key_in first ss n ≡ some k → In (entry k n) (entries first ss)
unfolding entries
entries-in first [] n k e = none-some k (sym (key_in-nil first n) ∙ e)
entries-in first (s ∷ ss) n k e = go s (entries-in (suc first) ss n k) (ltb first n) refl e
  where
    into : (s : Slot) → In (entry k n) (entries (suc first) ss) → In (entry k n) (entries first (s ∷ ss))
    into empty i = i
    into (used r) i = insert-in (entry r.key first) (entries (suc first) ss) (entry k n) (inr i)

    here : (s : Slot) → first ≡ n → slot_key s ≡ some k → In (entry k n) (entries first (s ∷ ss))
    here empty p q = none-some k q
    here (used r) p q =
        let same_key : r.key ≡ k = some-eq q in
        insert-in (entry r.key first) (entries (suc first) ss) (entry k n) (inl (λ i. entry (sym same_key i) (sym p i)))

    go : (s : Slot) → (key_in (suc first) ss n ≡ some k → In (entry k n) (entries (suc first) ss)) → (b : Bool) → ltb first n ≡ b
        → key_in first (s ∷ ss) n ≡ some k → In (entry k n) (entries first (s ∷ ss))
    go s ih true p e = into s (ih (sym (key_in-later first s ss n (ltb-true first n p)) ∙ e))
    go s ih false p e =
        let same_place : first ≡ n = omega (arith, ltb-false first n p, key_in-from first (s ∷ ss) n k e) in
        here s same_place (sym (key_in-here first s ss) ∙ (ap (key_in first (s ∷ ss)) same_place ∙ e))

-- no more entries than slots
pub length-entries : (first : ℕ) (ss : List Slot) → length (entries first ss) ≤ length ss
unfolding entries
length-entries first [] = omega arith
length-entries first (empty ∷ ss) = omega (arith, length-entries (suc first) ss)
length-entries first (used r ∷ ss) = omega (arith, length-insert (entry r.key first) (entries (suc first) ss), length-entries (suc first) ss)

-- ---- distinct keys rise along the index

pub none_in : (k : List ℕ) (first : ℕ) (ss : List Slot) → any_holds k ss ≡ false → Without entry_key k (entries first ss)
unfolding entries
none_in k first [] h g i p = absurd i
none_in k first (empty ∷ ss) h g i p = none_in k (suc first) ss h g i p
none_in k first (used r ∷ ss) h g i p = go (none_in k (suc first) ss (or_right (same k r.key) (any_holds k ss) h) g) (in_insert (entry r.key first) (entries (suc first) ss) g i)
  where
    go : (In g (entries (suc first) ss) → g.key ≡ k → ⊥) → (g ≡ entry r.key first) ⊎ In g (entries (suc first) ss) → ⊥
    go ih (inl q) = never (same k r.key) (eq-same k r.key (sym p ∙ ap (λ (x : Entry). x.key) q)) (or_left (same k r.key) (any_holds k ss) h)
    go ih (inr j) = ih j p

pub entries-rising : (first : ℕ) (ss : List Slot) → distinct ss ≡ true → Rising entry_key (entries first ss)
unfolding entries distinct
entries-rising first [] d = tt
entries-rising first (empty ∷ ss) d = entries-rising (suc first) ss d
entries-rising first (used r ∷ ss) d =
    rising-insert (entry r.key first) (entries (suc first) ss)
    (entries-rising (suc first) ss (and_right (not (any_holds r.key ss)) (distinct ss) d))
    (none_in r.key (suc first) ss (not-true (any_holds r.key ss) (and_left (not (any_holds r.key ss)) (distinct ss) d)))

-- ---- the numbers of entries

in-numbers : (es : List Entry) (n : ℕ) → In n (numbers es) → (g : Entry) × In g es × (g.at ≡ n)
in-numbers [] n i = absurd i
in-numbers (e ∷ es) n (inl p) = (e, inl refl, sym p)
in-numbers (e ∷ es) n (inr i) = let w = in-numbers es n i in (w.0, inr w.1, w.2)

numbers-in : (es : List Entry) (g : Entry) → In g es → In g.at (numbers es)
numbers-in [] g i = absurd i
numbers-in (e ∷ es) g (inl p) = inl (ap (λ (x : Entry). x.at) p)
numbers-in (e ∷ es) g (inr i) = inr (numbers-in es g i)

-- every entry is that of a slot in use
abbrev pub AllIn : (first : ℕ) → List Slot → List Entry → Type 0
AllIn first ss es = (g : Entry) → In g es → key_in first ss g.at ≡ some g.key

key_of-entry : (first : ℕ) (ss : List Slot) (g : Entry) (n : ℕ) → key_in first ss g.at ≡ some g.key → g.at ≡ n → key_of first ss n ≡ g.key
key_of-entry first ss g n e p = ap (key_of first ss) (sym p) ∙ ap (λ (o : Option (List ℕ)). get_or o []) e

numbers-rising : (first : ℕ) (ss : List Slot) (es : List Entry) → AllIn first ss es → Rising entry_key es → Rising (key_of first ss) (numbers es)
numbers-rising first ss [] h r = tt
numbers-rising first ss (e ∷ es) h r = (above, numbers-rising first ss es (λ g i. h g (inr i)) r.1)
  where
    above : Above (key_of first ss) (key_of first ss e.at) (numbers es)
    above n i =
        let w = in-numbers es n i in
        (λ j. before (key_of-entry first ss e e.at (h e (inl refl)) refl j) (key_of-entry first ss w.0 n (h w.0 (inr w.1)) w.2 j)) ∙ r.0 w.0 w.1

-- ---- what fixes the index of slots with distinct keys

-- a number is listed exactly if it is that of a slot in use
pub index-exact : (first : ℕ) (ss : List Slot) (n : ℕ) → In n (index_from first ss) ↔ ((k : List ℕ) × (key_in first ss n ≡ some k))
index-exact first ss n = (
  λ i. let w = in-numbers (entries first ss) n i in (w.0.key, ap (key_in first ss) (sym w.2) ∙ in-entries first ss w.0 w.1),
  λ w. numbers-in (entries first ss) (entry w.0 n) (entries-in first ss n w.0 w.1),
)

pub index-ordered : (first : ℕ) (ss : List Slot) → distinct ss ≡ true → Ordered first ss (index_from first ss)
index-ordered first ss d = record {
  exact = index-exact first ss;
  rises = numbers-rising first ss (entries first ss) (in-entries first ss) (entries-rising first ss d);
}

-- no number stands twice
pub ordered-once : (first : ℕ) (ss : List Slot) (l : List ℕ) → Ordered first ss l → Once l
ordered-once first ss l o = rising-once (key_of first ss) l o.rises

-- it is the only such list
pub ordered-unique : (first : ℕ) (ss : List Slot) (l : List ℕ) → distinct ss ≡ true → Ordered first ss l → l ≡ index_from first ss
ordered-unique first ss l d o =
    let x = index-ordered first ss d in
    rising-unique (key_of first ss) l (index_from first ss) o.rises x.rises (λ n i. (x.exact n).1 ((o.exact n).0 i)) (λ n i. (o.exact n).1 ((x.exact n).0 i))
