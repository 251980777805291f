-- The list that holds the index of a table's slots from one on: what stands at its places, and the list with one slot more.
use Prim.Native.Nat.{ℕ, suc, ◌+◌, ◌-◌, ◌≤◌, ◌<◌}
use native.Mathlib.Nat.{sub-zero}
use native.Mathlib.Omega.{arith}
use mathlib.Core.Path.{◌≡◌, sym, ap, ◌∙◌, subst}
use mathlib.Core.Bool.{true, false}
use mathlib.Core.List.{List, [], ◌∷◌, ◌++◌}
use mathlib.Core.Option
use mathlib.Core.Option.{Option, some}
use lib.ListN.{length, replicate, take, drop, get_or, get_elem?, length-append, length-map, length-drop, drop_of_length-le}
use Rattle.model.specs.Bytes.{part, padded, written}
use Rattle.model.specs.Table.{Form, Record, Slot, empty, used, record_at, fields, distinct}
use Rattle.model.specs.Order.{before, In, Entry, entry, entries, numbers}
use Rattle.model.proofs.Basics.{at-within, at_length}
use Rattle.model.proofs.Rising.{length-insert}
use Rattle.model.proofs.Index.{length-entries, entries-rising}
use Rattle.record.specs.Record.{is_used, as_slot}
use Rattle.record.proofs.Reading.{used-in-use, slot-unused}
use Rattle.table.specs.Slots.{Reads, slots_of, InUseAt}
use Rattle.table.proofs.Parts.{slot_is, slot-readable, record-in, in-use-at}
use Rattle.order.specs.Places.{key_at_place, Ascends, Between, Lists}
use Rattle.order.proofs.Building.{insert-at, at_in, in_take, in-drop, rising-at, number_at, put-numbers, put-list, entries-unused, entries-used, distinct-drop, key-alone, entry-slot}

module _ {f : Form} {t : List ℕ} {i room : ℕ} {l : List ℕ} {n : ℕ} (d : distinct (slots_of f t) ≡ true) (h : Lists f t i room l n) where
  abbrev es : List Entry
  es = entries i (drop i (slots_of f t))

  pub size : n ≡ length es
  size = h.count ∙ length-map es (λ e. e.at)

  entry_at : (p : ℕ) → p < n → (g : Entry) × (get_elem? es p ≡ some g)
  entry_at p q = (get_or es p (entry [] 0), at-within es p (entry [] 0) (omega (arith, size)))

  -- the number at a place is that of a slot in use with the entry's key
  slot_at : (p : ℕ) (g : Entry) → get_elem? es p ≡ some g → (r : Record) × (get_elem? (slots_of f t) (get_or l p 0) ≡ some (used r)) × (r.key ≡ g.key)
  slot_at p g e =
      let w = entry-slot (slots_of f t) i g (at_in es g p e) in
      let number : get_or l p 0 ≡ g.at = ap (λ (s : List ℕ). get_or s p 0) h.bytes ∙ number_at es (replicate (room - length (numbers es)) 0) p g e in
      (w.0, ap (get_elem? (slots_of f t)) number ∙ w.1, w.2)

  pub key-at : (p : ℕ) (g : Entry) → get_elem? es p ≡ some g → key_at_place f t l p ≡ g.key
  key-at p g e = let w = slot_at p g e in ap (λ (r : Record). r.key) (record-in f t (get_or l p 0) w.0 w.1) ∙ w.2

  pub ascends : Ascends f t l n
  ascends = record { room = room_for; in_use = in_use; rises = rises }
    where
      room_for : n ≤ length l
      room_for = omega (arith, h.count, ap length h.bytes, length-append (numbers es) (replicate (room - length (numbers es)) 0))

      in_use : (p : ℕ) → p < n → InUseAt f t (get_or l p 0)
      in_use p q = let g = entry_at p q in let w = slot_at p g.0 g.1 in in-use-at f t (get_or l p 0) w.0 w.1

      rises : (p q : ℕ) → p < q → q < n → before (key_at_place f t l p) (key_at_place f t l q) ≡ true
      rises p q a b =
          let g = entry_at p (omega arith) in
          let k = entry_at q b in
          (λ j. before (key-at p g.0 g.1 j) (key-at q k.0 k.1 j))
          ∙ rising-at es p q g.0 k.0 (entries-rising i (drop i (slots_of f t)) (distinct-drop (slots_of f t) i d)) g.1 k.1 a

-- the same slot and the same room, however they are come by
pub lists-as : {f : Form} {t : List ℕ} {i j room size : ℕ} {l : List ℕ} {n : ℕ} → i ≡ j → room ≡ size → Lists f t i room l n → Lists f t j size l n
lists-as {f} {t} {i} {j} {room} {size} {l} {n} p q h = subst (λ (r : ℕ). Lists f t j r l n) q (subst (λ (k : ℕ). Lists f t k room l n) p h)

-- ---- no slot yet

pub lists-none : (f : Form) (t : List ℕ) (i room : ℕ) {l : List ℕ} → length (slots_of f t) ≤ i → l ≡ replicate room 0 → Lists f t i room l 0
unfolding entries
lists-none f t i room h e =
    let z : entries i (drop i (slots_of f t)) ≡ [] = ap (entries i) (drop_of_length-le (slots_of f t) h) in
    record {
      bytes = e ∙ ap (λ (m : ℕ). replicate m 0) (sym (sub-zero room)) ∙ ap (λ (x : List Entry). padded room (numbers x)) (sym z);
      count = ap (λ (x : List Entry). length (numbers x)) (sym z);
    }

-- ---- a slot more

module _ {f : Form} {t : List ℕ} {i room : ℕ} {l : List ℕ} {n : ℕ} (d : distinct (slots_of f t) ≡ true) (h : Lists f t (suc i) room l n) where
  abbrev later : List Entry
  later = entries (suc i) (drop (suc i) (slots_of f t))

  -- fewer numbers than slots
  pub fewer : i < length (slots_of f t) → n < length (slots_of f t)
  fewer q = omega (arith, size d h, length-entries (suc i) (drop (suc i) (slots_of f t)), length-drop (suc i) (slots_of f t))

  pub skips : get_elem? (slots_of f t) i ≡ some empty → Lists f t i room l n
  skips e =
      let k = sym (entries-unused (slots_of f t) i e) in
      record { bytes = h.bytes ∙ ap (λ (x : List Entry). padded room (numbers x)) k; count = h.count ∙ ap (λ (x : List Entry). length (numbers x)) k }

  module _ (r : Record) (e : get_elem? (slots_of f t) i ≡ some (used r)) where
    -- no slot after it has its key
    pub not_there : (p : ℕ) → p < n → key_at_place f t l p ≡ r.key → ⊥
    not_there p q k =
        let g = entry_at d h p q in
        key-alone (slots_of f t) i r d e g.0 (at_in later g.0 p g.1) (sym (key-at d h p g.0 g.1) ∙ k)

    inserted : (p : ℕ) → Between f t l n r.key p → entries i (drop i (slots_of f t)) ≡ take p later ++ (entry r.key i ∷ drop p later)
    inserted p b = entries-used (slots_of f t) i r e ∙ insert-at (entry r.key i) later p (omega (arith, b.within, size d h)) low high
      where
        low : (g : Entry) → In g (take p later) → before g.key r.key ≡ true
        low g j = let w = in_take p later g j in ap (λ (x : List ℕ). before x r.key) (sym (key-at d h w.0 g w.2)) ∙ b.low w.0 w.1

        high : (g : Entry) → In g (drop p later) → before r.key g.key ≡ true
        high g j =
            let w = in-drop p later g j in
            ap (before r.key) (sym (key-at d h w.0 g w.2)) ∙ b.high w.0 w.1 (omega (arith, at_length later w.0 g w.2, size d h))

    pub enters : (p : ℕ) → Between f t l n r.key p → n < room → {after : List ℕ} → after ≡ written p (i ∷ part p (n - p) l) l
        → Lists f t i room after (n + 1)
    enters p b q w = record {
      bytes = w
          ∙ put-list (numbers later) room n p i l h.bytes h.count q b.within
          ∙ ap (padded room) (sym (put-numbers later (entry r.key i) p))
          ∙ ap (λ (x : List Entry). padded room (numbers x)) (sym (inserted p b));
      count = omega (
        arith,
        size d h,
        length-map (entries i (drop i (slots_of f t))) (λ e. e.at),
        ap length (entries-used (slots_of f t) i r e),
        length-insert (entry r.key i) later,
      );
    }

-- ---- the slot by its bytes

module _ (f : Form) (t : List ℕ) (ok : Reads f t) (i : ℕ) (h : i < length (slots_of f t)) where
  at_slot : get_elem? (slots_of f t) i ≡ some (as_slot f (record_at f i t))
  at_slot = at-within (slots_of f t) i empty h ∙ ap (λ (s : Slot). some s) (sym (slot_is f t ok i h))

  pub slot-empty : is_used (record_at f i t) ≡ false → get_elem? (slots_of f t) i ≡ some empty
  slot-empty u = at_slot ∙ ap (λ (s : Slot). some s) (slot-unused f (record_at f i t) (slot-readable f t ok i h) u)

  pub slot-full : is_used (record_at f i t) ≡ true → get_elem? (slots_of f t) i ≡ some (used (fields (record_at f i t)))
  slot-full u = at_slot ∙ ap (λ (o : Option Slot). some (Option.get_or o empty)) (used-in-use f (record_at f i t) (slot-readable f t ok i h) u).read
