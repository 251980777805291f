-- A search among slots finds what the search in the one slot chosen finds, up to the number of the slot.
use mathlib.Core.Path.{◌≡◌, refl, sym, ap, ◌∙◌}
use mathlib.Core.Bool.{Bool, true, false, ◌||◌}
use mathlib.Core.List.{List, [], ◌∷◌}
use mathlib.Core.Option
use mathlib.Core.Option.{Option, none, some, map}
use Prim.Native.Nat.{ℕ, ◌≤◌, ◌<◌}
use lib.ListN.{length, get_or, get_elem?}
use Rattle.model.specs.Optional.{or_else}
use Rattle.model.specs.Table.{Record, Slot, empty, used, is_empty, holds}
use Rattle.model.specs.Search.{Placed, find_key, Lookup, live_at, expired_at, absent, lookup_of, lookup, is_expired, lowest, free_slot, slot_for}
use Rattle.model.proofs.Basics.{never, none-some, or-true, eq-same, at_length, at-within, at-get_or}
use Rattle.model.proofs.Search.{find-hit, lookup-cases, lowest-holds, lowest-first, lowest-none}
use Rattle.indexing.specs.Local.{chosen}

-- ---- another number for the slot

abbrev pub place_at : (i : ℕ) → Placed → Placed
place_at i p = record { at = i; rec = p.rec }

abbrev pub lookup_at : (i : ℕ) → Lookup → Lookup
lookup_at i (live_at p) = live_at (place_at i p)
lookup_at i (expired_at j) = expired_at i
lookup_at i absent = absent

abbrev pub slot_at : (i : ℕ) → Option ℕ → Option ℕ
slot_at i none = none
slot_at i (some j) = some i

-- what stands under k, and the slot that a write takes, are those of slot i alone
pub record Alone (now : ℕ) (k : List ℕ) (ss : List Slot) (l : Lookup) (i : ℕ) : Type 0 where
  pub within : i < length ss
  pub under : l ≡ lookup_at i (lookup now k (get_or ss i empty ∷ []))
  pub slot : slot_for now ss l ≡ slot_at i (slot_for now (get_or ss i empty ∷ []) (lookup now k (get_or ss i empty ∷ [])))

-- ---- one slot

-- a slot that a write with a new key may take
abbrev is_free : (now : ℕ) → Slot → Bool
is_free now s = is_empty s || is_expired now s

module _ (now : ℕ) (k : List ℕ) where
  one-own : (r : Record) → r.key ≡ k → lookup now k (used r ∷ []) ≡ lookup_of now (some (record { at = 0; rec = r }))
  unfolding lookup find_key
  one-own r e = rw (eq-same k r.key (sym e))

  one-other : (s : Slot) → holds k s ≡ false → lookup now k (s ∷ []) ≡ absent
  unfolding lookup find_key
  one-other empty e = refl
  one-other (used r) e = rw e

  one_free : (s : Slot) → is_free now s ≡ true → free_slot now (s ∷ []) ≡ some 0
  unfolding free_slot lowest
  one_free empty e = refl
  one_free (used r) e = rw e

  one-taken : (s : Slot) → is_free now s ≡ false → free_slot now (s ∷ []) ≡ none
  unfolding free_slot lowest
  one-taken empty e = never true refl e
  one-taken (used r) e = rw e

-- ---- free slots

module _ (now : ℕ) (ss : List Slot) where
  record Free (j : ℕ) : Type 0 where
    slot : Slot
    there : get_elem? ss j ≡ some slot
    free : is_free now slot ≡ true

  free-there : (j : ℕ) → free_slot now ss ≡ some j → Free j
  unfolding free_slot
  free-there j = go (lowest is_empty ss) refl
    where
      go : (o : Option ℕ) → lowest is_empty ss ≡ o → or_else o (lowest (is_expired now) ss) ≡ some j → Free j
      go (some i) q e = let w = lowest-first is_empty ss j (q ∙ e) in record { slot = w.slot; there = w.there; free = rw w.passes }
      go none q e =
          let w = lowest-first (is_expired now) ss j e in
          record { slot = w.slot; there = w.there; free = rw w.passes (or-true (is_empty w.slot)) }

  none_free : free_slot now ss ≡ none → (i : ℕ) (s : Slot) → get_elem? ss i ≡ some s → is_free now s ≡ false
  unfolding free_slot
  none_free = go (lowest is_empty ss) refl
    where
      go : (o : Option ℕ) → lowest is_empty ss ≡ o → or_else o (lowest (is_expired now) ss) ≡ none → (i : ℕ) (s : Slot) → get_elem? ss i ≡ some s → is_free now s ≡ false
      go (some j) q e i s g = none-some j (sym e)
      go none q e i s g = rw (lowest-none is_empty ss q i s g) (lowest-none (is_expired now) ss e i s g)

-- ---- the slot chosen

module _ (now : ℕ) (k : List ℕ) (ss : List Slot) where
  -- by the slot s at i, with what stands under k in it
  alone-by : (l one : Lookup) (i : ℕ) (s : Slot) → get_elem? ss i ≡ some s → lookup now k (s ∷ []) ≡ one → l ≡ lookup_at i one
      → slot_for now ss l ≡ slot_at i (slot_for now (s ∷ []) one) → Alone now k ss l i
  alone-by l one i s g h u q =
      let here : s ≡ get_or ss i empty = sym (at-get_or ss i s empty g) in
      let found : one ≡ lookup now k (get_or ss i empty ∷ []) = sym h ∙ ap (λ (x : Slot). lookup now k (x ∷ [])) here in
      record {
        within = at_length ss i s g;
        under = u ∙ ap (lookup_at i) found;
        slot = q ∙ (λ j. slot_at i (slot_for now (here j ∷ []) (found j)));
      }

  none-holds : find_key k ss ≡ none → (i : ℕ) (s : Slot) → get_elem? ss i ≡ some s → holds k s ≡ false
  none-holds q = lowest-none (holds k) ss (lowest-holds k ss ∙ ap (map (λ p. p.at)) q)

  alone-absent : find_key k ss ≡ none → 1 ≤ length ss → (o : Option ℕ) → free_slot now ss ≡ o → Alone now k ss absent (Option.get_or o 0)
  alone-absent q least (some j) e =
      let w = free-there now ss j e in
      alone-by absent absent j w.slot w.there (one-other now k w.slot (none-holds q j w.slot w.there)) refl
      (e ∙ ap (slot_at j) (sym (one_free now k w.slot w.free)))
  alone-absent q least none e =
      let s = get_or ss 0 empty in
      let g : get_elem? ss 0 ≡ some s = at-within ss 0 empty least in
      alone-by absent absent 0 s g (one-other now k s (none-holds q 0 s g)) refl (e ∙ ap (slot_at 0) (sym (one-taken now k s (none_free now ss e 0 s g))))

  pub chosen-alone : 1 ≤ length ss → Alone now k ss (lookup now k ss) (chosen now ss k)
  chosen-alone least =
      lookup-cases now k ss (λ l. Alone now k ss l (Option.get_or (slot_for now ss l) 0)) (λ q. alone-absent q least (free_slot now ss) refl)
      (λ p q h.
      let w = find-hit k ss p q in
      alone-by (live_at p) (live_at (place_at 0 p)) p.at (used p.rec) w.there (one-own now k p.rec w.key ∙ rw h) refl refl)
      λ p q h.
      let w = find-hit k ss p q in
      alone-by (expired_at p.at) (expired_at 0) p.at (used p.rec) w.there (one-own now k p.rec w.key ∙ rw h) refl refl
