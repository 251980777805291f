-- A chain of the index: it leads from an entry to every slot in the bucket of a key, and so to the slots that have the key.
use Rattle.std.proofs.Common.{◌≡◌, ℕ, ◌+◌, ◌-◌, ◌<◌, ◌≤◌, Bool, true, false, cond, eqb, List, length, get_or, sym, refl, ap, ◌∙◌, subst, div-mul-le_self, arith, lt-ltb, eq-eqb, eqb-true}
use borrow.Author.Tests.{eqb-false}
use Rattle.model.specs.Bytes.{same, padded}
use Rattle.model.specs.Table.{Form, record_size, record_at, fields}
use Rattle.slice.proofs.Equal.{and_left, and_right}
use Rattle.record.specs.Record.{IsSlot, is_used}
use Rattle.record.proofs.Keys.{key-bytes}
use Rattle.table.specs.Slots.{Inside}
use Rattle.index.specs.Index.{entry_from, named_by, count_of, bucket_of, bucket_at, in_bucket, key_is, key_entry, Indexed, Chain}
use Rattle.table.proofs.Records.{inside}
use Rattle.index.proofs.Entries.{Named, named-slot, entry-end, entry_here, entry-on, entry_named, entry-through}

-- a slot below the number of whole slots lies within the table
pub inside-count : (f : Form) (t : List ℕ) (i : ℕ) → i < count_of f t → Inside f t i
inside-count f t i h = omega (arith, inside f (count_of f t) i h, div-mul-le_self (length t) (record_size f))

-- a slot that has the key is in its bucket
key-bucket : (f : Form) (t k : List ℕ) (m j : ℕ) → IsSlot (record_at f j t) → key_is f t k j ≡ true → in_bucket f t m (bucket_of m (padded 24 k)) j ≡ true
key-bucket f t k m j s e =
    let r = record_at f j t in
    rw (and_left (is_used r) (same k (fields r).key) e) (eq-eqb _ _ (ap (bucket_of m) (key-bytes s.form k r s.is e)))

module _ {f : Form} {t next : List ℕ} {at : ℕ} {k : List ℕ} (c : Chain f t next at k) where
  abbrev n : ℕ
  n = count_of f t

  -- the tests for the key's bucket and for the key
  abbrev p : ℕ → Bool
  p = in_bucket f t c.buckets (bucket_of c.buckets (padded 24 k))

  abbrev q : ℕ → Bool
  q = key_is f t k

  -- the lowest slot of the chain with the key is the lowest of all slots from some slot on
  pub chain-all : entry_from q n c.from ≡ key_entry f t k at
  chain-all =
      entry-through p q n c.from (λ j low high e. key-bucket f t k c.buckets j (c.slots j low high) e)
      ∙ ap (λ (e : ℕ). entry_from q n (named_by n e)) (sym c.starts)

  -- no entry, no slot
  pub chain-end : at ≡ 0 → 0 ≡ key_entry f t k at
  chain-end e = rw e (sym (entry-end q n n (omega arith)))

  module _ (h : 0 < at) where
    pub chain-named : Named p n c.from at
    chain-named = subst (Named p n c.from) (sym c.starts) (entry_named p n c.from (omega (arith, c.starts)))

    pub chain-slot : IsSlot (record_at f at t)
    chain-slot = c.slots at chain-named.low chain-named.high

    pub chain-inside : Inside f t at
    chain-inside = inside-count f t at chain-named.high

    -- the slot has the key
    pub chain-here : q at ≡ true → at ≡ key_entry f t k at
    chain-here e = sym (ap (entry_from q n) (named-slot n at h) ∙ entry_here q n at chain-named.high (rw (lt-ltb 0 at h) e))

    -- the next entry is that of the lowest slot after it in the bucket
    next-is : get_or next at 0 ≡ entry_from p n (at + 1)
    next-is =
        let used = and_left (is_used (record_at f at t)) (eqb (bucket_at f t c.buckets at) _) chain-named.is in
        let bucket = eqb-true _ _ (and_right (is_used (record_at f at t)) (eqb (bucket_at f t c.buckets at) _) chain-named.is) in
        c.links at chain-named.low chain-named.high used ∙ ap (λ (b : ℕ). entry_from (in_bucket f t c.buckets b) n (at + 1)) bucket

    -- the chain from the next entry on
    pub chain_next : Chain f t next (get_or next at 0) k
    chain_next = record {
      from = at + 1;
      buckets = c.buckets;
      room = c.room;
      slots = λ j low. c.slots j (omega (arith, chain-named.low));
      starts = next-is;
      links = λ j low. c.links j (omega (arith, chain-named.low));
    }

    -- numbers rise along the chain, to its end
    pub chain-less : n - named_by n (get_or next at 0) < n - named_by n at
    chain-less = rw (named-slot n at h) (go (eqb (get_or next at 0) 0) refl)
      where
        go : (b : Bool) → eqb (get_or next at 0) 0 ≡ b → n - cond b n (get_or next at 0) < n - at
        go true e = omega (arith, chain-named.high)
        go false e =
            let above : 0 < get_or next at 0 = omega (arith, eqb-false (get_or next at 0) 0 e) in
            omega (arith, next-is, chain-named.high, (entry_named p n (at + 1) (omega (arith, next-is))).low)

-- where a slot of the chain does not have the key, the lowest that has it comes after
pub chain-on : {f : Form} {t next : List ℕ} {at : ℕ} {k : List ℕ} (c : Chain f t next at k) (h : 0 < at) → key_is f t k at ≡ false
    → key_entry f t k at ≡ key_entry f t k (get_or next at 0)
unfolding chain_next
chain-on {f} {t} {next} {at} {k} c h e =
    let n = count_of f t in
    ap (entry_from (key_is f t k) n) (named-slot n at h) ∙ entry-on (key_is f t k) n at (chain-named c h).high (rw (lt-ltb 0 at h) e) ∙ chain-all (chain_next c h)

-- ---- the chain of a key in an index

module _ (f : Form) (t : List ℕ) (i : ℕ) {heads next : List ℕ} (x : Indexed f t i heads next) (slots : (j : ℕ) → i ≤ j → j < count_of f t → IsSlot (record_at f j t))
    (k : List ℕ) (first : ℕ) (e : first ≡ get_or heads (bucket_of (length heads) (padded 24 k)) 0) where
  pub indexed-chain : Chain f t next first k
  indexed-chain = record {
    from = i;
    buckets = length heads;
    room = x.room;
    slots = slots;
    starts = e ∙ x.head (bucket_of (length heads) (padded 24 k));
    links = x.links;
  }

  -- it leads to the lowest slot from i on with the key
  pub indexed-entry : entry_from (key_is f t k) (count_of f t) i ≡ key_entry f t k first
  unfolding indexed-chain
  indexed-entry = chain-all indexed-chain
