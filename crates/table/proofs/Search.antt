-- The lowest slot that passes a test, as a loop from slot 0 upward finds it: while no slot passed the test, the answer of the whole table is
-- the answer of the slots that are left, counted from where they begin.
use Prim.Native.Nat.{ℕ, zero, suc, ◌+◌, ◌≤◌, ◌<◌}
use native.Mathlib.Nat.{zero-add, add-zero}
use native.Mathlib.Numerals.{add-one}
use native.Mathlib.Omega.{arith}
use mathlib.Core.Path.{◌≡◌, refl, sym, ap, ◌∙◌}
use mathlib.Core.Bool.{Bool, true, false, cond, ◌||◌}
use mathlib.Core.List.{List, [], ◌∷◌}
use mathlib.Core.Option.{Option, none, some, map}
use lib.ListN.{length, drop, get_or, drop_of_length-le}
use lib.Seq.{drop-cons}
use Rattle.model.specs.Optional.{is_some, or_else}
use Rattle.model.specs.Table.{Form, Slot, empty, used, holds, any_holds, is_empty}
use Rattle.model.specs.Search.{lowest, is_expired, free_slot}
use Rattle.model.proofs.Basics.{at_length}
use Rattle.model.proofs.Records.{Kept}
use Rattle.model.proofs.Tables.{All}
use Rattle.model.proofs.Search.{lowest-holds, lowest-first}
use Rattle.slice.proofs.Equal.{other_length}
use Rattle.table.specs.Slots.{key_slot, lowest_from}

abbrev shifted : ℕ → Option ℕ → Option ℕ
shifted i o = map (λ (j : ℕ). i + j) o

shifted-zero : (o : Option ℕ) → shifted 0 o ≡ o
shifted-zero none = refl
shifted-zero (some j) = ap {B = Option ℕ} some (zero-add j)

shifted-suc : (i : ℕ) (o : Option ℕ) → shifted i (map suc o) ≡ shifted (suc i) o
shifted-suc i none = refl
shifted-suc i (some j) = let e : i + suc j ≡ suc i + j = omega arith in ap {B = Option ℕ} some e

module _ (p : Slot → Bool) (ss : List Slot) where
  pub lowest_start : lowest p ss ≡ lowest_from p ss 0
  unfolding lowest_from
  lowest_start = sym (shifted-zero (lowest p ss))

  pub lowest-end : (i : ℕ) → length ss ≤ i → lowest_from p ss i ≡ none
  unfolding lowest_from lowest
  lowest-end i h = rw (drop_of_length-le ss h)

  module _ (i : ℕ) (h : i < length ss) where
    pub lowest-here : p (get_or ss i empty) ≡ true → lowest_from p ss i ≡ some i
    unfolding lowest_from lowest
    lowest-here e = rw (drop-cons ss i empty h, e, add-zero i)

    pub lowest-next : p (get_or ss i empty) ≡ false → lowest_from p ss i ≡ lowest_from p ss (i + 1)
    unfolding lowest_from lowest
    lowest-next e = rw (drop-cons ss i empty h, e, add-one i) (shifted-suc i (lowest p (drop (suc i) ss)))

-- what a loop for the answer o knows at slot i of n: no slot that it passed has the answer
pub record Searched (p : Slot → Bool) (ss : List Slot) (o : Option ℕ) (n i : ℕ) : Type 0 where
  pub within : i ≤ n
  pub all : n ≡ length ss
  pub left : o ≡ lowest_from p ss i

module _ {p : Slot → Bool} {ss : List Slot} {o : Option ℕ} {n i : ℕ} (q : Searched p ss o n i) where
  pub search-end : n ≤ i → none ≡ o
  search-end h = sym (q.left ∙ lowest-end p ss i (omega arith))

  module _ (h : i < n) where
    pub search-here : p (get_or ss i empty) ≡ true → some i ≡ o
    search-here e = sym (q.left ∙ lowest-here p ss i (omega arith) e)

    pub search-next : p (get_or ss i empty) ≡ false → Searched p ss o n (i + 1)
    search-next e = record { within = omega arith; all = q.all; left = q.left ∙ lowest-next p ss i (omega arith) e }

-- no record has a key longer than 24 bytes
lowest-long : (f : Form) (k : List ℕ) → 24 < length k → (ss : List Slot) → All (Kept f) ss → lowest (holds k) ss ≡ none
unfolding lowest
lowest-long f k h [] a = refl
lowest-long f k h (empty ∷ ss) a = rw (lowest-long f k h ss a.1)
lowest-long f k h (used r ∷ ss) a = rw (other_length k r.key (λ e. omega (arith, a.0.key-to)), lowest-long f k h ss a.1)

all_drop : (f : Form) (ss : List Slot) (i : ℕ) → All (Kept f) ss → All (Kept f) (drop i ss)
all_drop f ss zero a = a
all_drop f [] (suc i) a = tt
all_drop f (s ∷ ss) (suc i) a = all_drop f ss i a.1

pub long-none : (f : Form) (k : List ℕ) (ss : List Slot) (i : ℕ) → 24 < length k → All (Kept f) ss → lowest_from (holds k) ss i ≡ none
unfolding lowest_from
long-none f k ss i h a = rw (lowest-long f k h (drop i ss) (all_drop f ss i a))

same_some : (g : ℕ → ℕ) (o : Option ℕ) → is_some (map g o) ≡ is_some o
same_some g none = refl
same_some g (some j) = refl

held : (k : List ℕ) (ss : List Slot) → any_holds k ss ≡ is_some (lowest (holds k) ss)
unfolding lowest
held k [] = refl
held k (s ∷ ss) = by (holds k s) (held k ss ∙ sym (same_some suc (lowest (holds k) ss)))
  where
    by : (b : Bool) → any_holds k ss ≡ is_some (map suc (lowest (holds k) ss))
        → b || any_holds k ss ≡ is_some (cond b (some 0) (map suc (lowest (holds k) ss)))
    by true e = refl
    by false e = e

-- ---- answers

-- what a search from the i-th slot on says of the slots from there
module _ (k : List ℕ) (ss : List Slot) (i : ℕ) where
  held-from : any_holds k (drop i ss) ≡ is_some (lowest_from (holds k) ss i)
  unfolding lowest_from
  held-from = held k (drop i ss) ∙ sym (same_some (λ (j : ℕ). i + j) (lowest (holds k) (drop i ss)))

  pub not-held : none ≡ lowest_from (holds k) ss i → any_holds k (drop i ss) ≡ false
  not-held e = held-from ∙ ap is_some (sym e)

  pub is_held : (j : ℕ) → some j ≡ lowest_from (holds k) ss i → any_holds k (drop i ss) ≡ true
  is_held j e = held-from ∙ ap is_some (sym e)

-- the search for a key from slot 0 on
pub key-lowest : (k : List ℕ) (ss : List Slot) → key_slot k ss ≡ lowest_from (holds k) ss 0
key-lowest k ss = sym (lowest-holds k ss) ∙ lowest_start (holds k) ss

-- an empty slot, else an expired one
module _ (now : ℕ) (ss : List Slot) where
  -- a free slot is one of the slots
  pub free-within : (i : ℕ) → some i ≡ free_slot now ss → i < length ss
  unfolding free_slot
  free-within i e = by (lowest is_empty ss) refl e
    where
      lowest-within : (p : Slot → Bool) → lowest p ss ≡ some i → i < length ss
      lowest-within p h = let w = lowest-first p ss i h in at_length ss i w.slot w.there

      by : (o : Option ℕ) → lowest is_empty ss ≡ o → some i ≡ or_else o (lowest (is_expired now) ss) → i < length ss
      by (some j) q h = lowest-within is_empty (q ∙ sym h)
      by none q h = lowest-within (is_expired now) (sym h)
