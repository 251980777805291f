-- The lowest slot with a key, by the bytes of the records: it is the one that the model's search finds. Slot 0 is no entry, so that this holds
-- from slot 1 on.
use Rattle.std.proofs.Common.{◌≡◌, ℕ, ◌+◌, ◌<◌, ◌≤◌, Bool, true, false, cond, eqb, List, length, get_or, sym, refl, ap, ◌∙◌, arith, lt-ltb, ne_eqb}
use mathlib.Core.Option.{Option, none, some}
use Rattle.model.specs.Table.{Form, Slot, empty, record_at, holds}
use Rattle.record.proofs.Keys.{holds-key}
use Rattle.table.specs.Slots.{Reads, slots_of, key_slot, lowest_from}
use Rattle.index.specs.Index.{entry_from, count_of, key_is}
use Rattle.table.proofs.Records.{count-is, some-slot}
use Rattle.table.proofs.Search.{lowest-end, lowest-here, lowest-next, key-lowest}
use Rattle.table.proofs.Parts.{slot_is, slot-readable}
use Rattle.index.proofs.Entries.{downward, entry-end, entry_here, entry-on}

-- the slot that an entry is for
abbrev as_slot : ℕ → Option ℕ
as_slot e = cond (eqb e 0) none (some e)

module _ (f : Form) (t : List ℕ) (ok : Reads f t) (k : List ℕ) where
  abbrev ss : List Slot
  ss = slots_of f t

  pub key-held : (i : ℕ) → i < length ss → key_is f t k i ≡ holds k (get_or ss i empty)
  key-held i h = holds-key f k (record_at f i t) (slot-readable f t ok i h) ∙ ap (holds k) (slot_is f t ok i h)

  abbrev entry : ℕ → ℕ
  entry i = entry_from (key_is f t k) (count_of f t) i

  entry-lowest : (i : ℕ) → 1 ≤ i → as_slot (entry i) ≡ lowest_from (holds k) ss i
  entry-lowest =
      downward (λ (i : ℕ). 1 ≤ i → as_slot (entry i) ≡ lowest_from (holds k) ss i) (count_of f t)
      (λ i h low. rw (entry-end (key_is f t k) (count_of f t) i h, lowest-end (holds k) ss i (omega (arith, count-is f t ok))))
      (λ i h more low. go i h low (more (omega arith)) (key_is f t k i) refl)
    where
      go : (i : ℕ) → i < count_of f t → 1 ≤ i → as_slot (entry (i + 1)) ≡ lowest_from (holds k) ss (i + 1) → (b : Bool) → key_is f t k i ≡ b
          → as_slot (entry i) ≡ lowest_from (holds k) ss i
      go i h low more true e =
          let within : i < length ss = omega (arith, count-is f t ok) in
          ap as_slot (entry_here (key_is f t k) (count_of f t) i h (rw (lt-ltb 0 i low) e)) ∙ rw (ne_eqb i 0 (λ z. omega arith))
          (sym (lowest-here (holds k) ss i within (sym (key-held i within) ∙ e)))
      go i h low more false e =
          let within : i < length ss = omega (arith, count-is f t ok) in
          ap as_slot (entry-on (key_is f t k) (count_of f t) i h (rw (lt-ltb 0 i low) e)) ∙ more
          ∙ sym (lowest-next (holds k) ss i within (sym (key-held i within) ∙ e))

  module _ (i : ℕ) (low : 1 ≤ i) where
    pub entry-none : entry i ≡ 0 → none ≡ lowest_from (holds k) ss i
    entry-none e = rw e at (entry-lowest i low)

    pub entry-some : 0 < entry i → some (entry i) ≡ lowest_from (holds k) ss i
    entry-some h = rw (ne_eqb (entry i) 0 (λ z. omega arith)) at (entry-lowest i low)

  -- ---- the search for the key, slot 0 first

  zero-within : 0 < count_of f t
  zero-within = omega (arith, some-slot f t ok, count-is f t ok)

  pub key-first : key_is f t k 0 ≡ true → some 0 ≡ key_slot k ss
  key-first e = sym (key-lowest k ss ∙ lowest-here (holds k) ss 0 (some-slot f t ok) (sym (key-held 0 (some-slot f t ok)) ∙ e))

  module _ (other : key_is f t k 0 ≡ false) where
    after_first : key_slot k ss ≡ lowest_from (holds k) ss 1
    after_first = key-lowest k ss ∙ lowest-next (holds k) ss 0 (some-slot f t ok) (sym (key-held 0 (some-slot f t ok)) ∙ other)

    pub key-alone : count_of f t ≡ 1 → none ≡ key_slot k ss
    key-alone e = sym (after_first ∙ lowest-end (holds k) ss 1 (omega (arith, count-is f t ok)))

    module _ (e : ℕ) (is : e ≡ entry 0) where
      from_one : e ≡ entry 1
      from_one = is ∙ entry-on (key_is f t k) (count_of f t) 0 zero-within refl

      pub key-absent : e ≡ 0 → none ≡ key_slot k ss
      key-absent z = entry-none 1 (omega arith) (sym from_one ∙ z) ∙ sym after_first

      pub key-found : 0 < e → some e ≡ key_slot k ss
      key-found h = ap {B = Option ℕ} some from_one ∙ entry-some 1 (omega arith) (omega (arith, from_one)) ∙ sym after_first
