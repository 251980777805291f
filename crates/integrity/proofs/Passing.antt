-- What a check of a table knows of the slots that it has passed, from the last one down, and what it says of the table.
use Prim.Native.Nat.{ℕ, zero, suc, ◌+◌, ◌≤◌, ◌<◌}
use native.Mathlib.Numerals.{add-one}
use native.Mathlib.Omega.{arith}
use mathlib.Core.Path.{◌≡◌, refl, sym, ap, subst, ◌∙◌}
use mathlib.Core.Bool.{Bool, true, false, ◌&&◌, and-false}
use mathlib.Core.List.{List, [], ◌∷◌}
use lib.Dec.{eqb}
use lib.ListN.{length, drop, get_or, drop_of_length-le}
use lib.Seq.{drop-cons, get_or-set_other}
use borrow.Author.Tests.{eqb-true, eqb-false}
use Rattle.model.specs.Bytes.{part, padded, all}
use Rattle.model.specs.Optional.{is_some}
use Rattle.model.specs.Table.{Form, Slot, empty, used, fields, record_at, read_slot, read_table, size_rules, unlike, distinct}
use Rattle.slice.proofs.Equal.{never}
use Rattle.record.specs.Forms.{Lawful}
use Rattle.record.specs.Record.{IsSlot, Readable, InUseOf, is_used}
use Rattle.record.proofs.Reading.{used-in-use, slot-unused}
use Rattle.record.proofs.Checking.{in-use-key}
use Rattle.table.specs.Slots.{Reads, slots_of}
use Rattle.index.specs.Index.{entry_from, count_of, bucket_of, key_is, key_entry, Indexed, Enters, Chain}
use Rattle.table.proofs.Records.{count-is, read_from, read_none, read_next, read-end, read_table_lem}
use Rattle.table.proofs.Search.{not-held, is_held}
use Rattle.table.proofs.Parts.{length-slot, slot_is, slot-readable}
use Rattle.index.proofs.Entries.{downward, entry-end}
use Rattle.index.proofs.Chains.{inside-count, indexed-chain, indexed-entry}
use Rattle.index.proofs.Keys.{entry-none, entry-some}
use Rattle.index.proofs.Entering.{indexed-none, indexed-unused, indexed-used, indexed-after}
use Rattle.integrity.specs.Check.{faultless, Fresh, EntersUsed}

-- ---- equal keys

-- keys that are not distinct in a part are not distinct in the whole
distinct-part : (ss : List Slot) (i : ℕ) → distinct (drop i ss) ≡ false → distinct ss ≡ false
unfolding distinct
distinct-part ss zero e = e
distinct-part [] (suc i) e = e
distinct-part (s ∷ ss) (suc i) e = rw (distinct-part ss i e) (and-false (unlike s ss))

-- slot i and those after it
module _ (ss : List Slot) (i : ℕ) (h : i < length ss) where
  distinct_from : distinct (drop i ss) ≡ unlike (get_or ss i empty) (drop (i + 1) ss) && distinct (drop (i + 1) ss)
  unfolding distinct
  distinct_from = rw (drop-cons ss i empty h, add-one)

-- ---- the slots that were passed

module _ (f : Form) (t : List ℕ) where
  -- the bytes of slot i are a record, empty or in use
  abbrev IsRead : ℕ → Type 0
  IsRead i = is_some (read_slot f (record_at f i t)) ≡ true

  -- the slots from i on are records
  abbrev pub ReadFrom : ℕ → Type 0
  ReadFrom i = (j : ℕ) → i ≤ j → j < count_of f t → IsRead j

  -- and the index holds them and no others, and their keys are distinct
  pub record Passed (heads next : List ℕ) (i : ℕ) : Type 0 where
    pub slots : ReadFrom i
    pub index : Indexed f t i heads next
    pub blank : (j : ℕ) → j < i → get_or next j 0 ≡ 0
    pub keys : Reads f t → distinct (drop i (slots_of f t)) ≡ true

  pub passed_none : {heads next : List ℕ} → Fresh f t heads next → count_of f t ≤ 256 → Passed heads next (count_of f t)
  unfolding distinct
  passed_none {heads} {next} a h = record {
    slots = λ j low high. absurd (omega arith);
    index = indexed-none f t heads next a.some (a.room h) a.none;
    blank = λ j low. a.blank j;
    keys = λ ok. let all : length (slots_of f t) ≤ count_of f t = omega (arith, count-is f t ok) in rw (drop_of_length-le (slots_of f t) all);
  }

  pub read_more : (i : ℕ) → IsRead i → ReadFrom (i + 1) → ReadFrom i
  read_more i read more j low high = go (eqb j i) refl
    where
      go : (b : Bool) → eqb j i ≡ b → IsRead j
      go true e = subst IsRead (sym (eqb-true j i e)) read
      go false e = more j (omega (arith, eqb-false j i e)) high

  -- ---- a table that breaks a rule

  -- a table whose length breaks the rules does not read
  pub wrong-length : all (size_rules f t) ≡ false → is_some (read_table f t) ≡ false
  wrong-length e = read_table_lem f t ∙ rw e

  faulty : (Reads f t → distinct (slots_of f t) ≡ false) → faultless f t ≡ false
  faulty h = go (is_some (read_table f t)) refl
    where
      go : (b : Bool) → is_some (read_table f t) ≡ b → b && distinct (slots_of f t) ≡ false
      go true e = h e
      go false e = refl

  pub wrong_size : all (size_rules f t) ≡ false → faultless f t ≡ false
  wrong_size e = faulty (λ ok. never false (sym (wrong-length e) ∙ ok) refl)

  -- ---- one slot more

  module _ (i : ℕ) (h : i < count_of f t) where
    within : Reads f t → i < length (slots_of f t)
    within ok = omega (arith, count-is f t ok)

    pub unread : is_some (read_slot f (record_at f i t)) ≡ false → is_some (read_table f t) ≡ false
    unread e = go (is_some (read_table f t)) refl
      where
        go : (b : Bool) → is_some (read_table f t) ≡ b → b ≡ false
        go true ok = never _ (slot-readable f t ok i (within ok)).read e
        go false ok = refl

    pub not-read : is_some (read_slot f (record_at f i t)) ≡ false → faultless f t ≡ false
    not-read e = rw (unread e)

    module _ (l : Lawful f) (read : IsRead i) {heads next : List ℕ} (p : Passed heads next (i + 1)) where
      readable : Readable f (record_at f i t)
      readable = record { size = length-slot f t i (inside-count f t i h); read = read }

      slots-from : ReadFrom i
      slots-from = read_more i read p.slots

      pub passed-unused : is_used (record_at f i t) ≡ false → Passed heads next i
      passed-unused u = record {
        slots = slots-from;
        index = indexed-unused f t i h p.index u;
        blank = λ j low. p.blank j (omega arith);
        keys = λ ok. distinct_from (slots_of f t) i (within ok) ∙ rw (sym (slot_is f t ok i (within ok)) ∙ slot-unused f (record_at f i t) readable u) (p.keys ok);
      }

      module _ (u : is_used (record_at f i t) ≡ true) where
        pub in_use : InUseOf f (record_at f i t)
        in_use = used-in-use f (record_at f i t) readable u

        -- the key, and the lowest slot after this one that has it
        abbrev key : List ℕ
        key = (fields (record_at f i t)).key

        abbrev twin : ℕ
        twin = entry_from (key_is f t key) (count_of f t) (i + 1)

        slot-now : (ok : Reads f t) → get_or (slots_of f t) i empty ≡ used (fields (record_at f i t))
        slot-now ok = sym (slot_is f t ok i (within ok)) ∙ rw in_use.read

        pub equal-keys : 0 < twin → faultless f t ≡ false
        equal-keys a =
            faulty
            (λ ok. distinct-part (slots_of f t) i
            (distinct_from (slots_of f t) i (within ok) ∙ rw (slot-now ok, is_held key (slots_of f t) (i + 1) twin (entry-some f t ok key (i + 1) (omega arith) a))))

        module _ {first : ℕ} {heads' next' : List ℕ} (e : Enters i (part 24 24 (record_at f i t)) heads next first heads' next') where
          pub passed-used : twin ≡ 0 → Passed heads' next' i
          passed-used none = record {
            slots = slots-from;
            index = indexed-used f t i h p.index u first e;
            blank = λ j low. ap (λ (n : List ℕ). get_or n j 0) e.link ∙ get_or-set_other next i j first 0 (λ z. omega arith) ∙ p.blank j (omega arith);
            keys = λ ok. distinct_from (slots_of f t) i (within ok) ∙ rw (slot-now ok, not-held key (slots_of f t) (i + 1) (entry-none f t ok key (i + 1) (omega arith) none)) (p.keys ok);
          }

          -- the slots passed, and the head of the key's bucket among them
          slots-are : (j : ℕ) → i + 1 ≤ j → j < count_of f t → IsSlot (record_at f j t)
          slots-are j low high = record { form = f; lawful = l; is = record { size = length-slot f t j (inside-count f t j high); read = p.slots j low high } }

          head-is : first ≡ get_or heads (bucket_of (length heads) (padded 24 key)) 0
          head-is = e.was ∙ ap (λ (s : List ℕ). get_or heads (bucket_of (length heads) s) 0) (in-use-key f (record_at f i t) in_use)

          pub chain : Chain f t next' first key
          chain = indexed-chain f t (i + 1) (indexed-after f t i h p.index u first e) slots-are key first head-is

          pub twin-is : twin ≡ key_entry f t key first
          twin-is = indexed-entry f t (i + 1) (indexed-after f t i h p.index u first e) slots-are key first head-is

      -- no slot passed shares the bucket, or the slot is not in use
      pub passed-alone : {heads' next' : List ℕ} → EntersUsed i (record_at f i t) heads next 0 heads' next' → Passed heads' next' i
      passed-alone {heads'} {next'} a = go (is_used (record_at f i t)) refl
        where
          go : (b : Bool) → is_used (record_at f i t) ≡ b → Passed heads' next' i
          go true u = passed-used u (a.used u) (twin-is u (a.used u) ∙ entry-end (key_is f t (key u)) (count_of f t) (count_of f t) (omega arith))
          go false u = subst (λ (x : List ℕ × List ℕ). Passed x.0 x.1 i) (λ j. (sym (a.unused u).0 j, sym (a.unused u).1 j)) (passed-unused u)

  -- ---- all slots passed

  read-from : (i : ℕ) → ReadFrom i → read_from f (count_of f t) i t ≡ true
  read-from =
      downward (λ (i : ℕ). ReadFrom i → read_from f (count_of f t) i t ≡ true) (count_of f t)
      (λ i h slots. read-end f (count_of f t) t i h)
      (λ i h more slots. read_next f (count_of f t) t i h ∙ rw (slots i (omega arith) h) (more (λ j low. slots j (omega arith))))

  pub read_all : all (size_rules f t) ≡ true → ReadFrom 0 → Reads f t
  read_all e h = read_table_lem f t ∙ rw e (read_none f (count_of f t) t ∙ read-from 0 h)

  pub passed-all : {heads next : List ℕ} → all (size_rules f t) ≡ true → Passed heads next 0 → faultless f t ≡ true
  passed-all e p =
      let ok = read_all e p.slots in
      rw ok (p.keys ok)
