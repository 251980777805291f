-- The index with one slot more, from the last slot down.
use Rattle.std.proofs.Common.{◌≡◌, ℕ, ◌+◌, ◌-◌, ◌<◌, ◌≤◌, Bool, true, false, cond, ◌&&◌, eqb, ltb, List, length, get_or, set, sym, refl, ap, ◌∙◌, subst, arith, length-set, get_or-set_other, get_or-set_same, eqb-true}
use mathlib.Core.Bool.{and-false}
use lib.Bits.{and_le_r}
use borrow.Author.Tests.{eqb-false}
use Rattle.model.specs.Bytes.{part}
use Rattle.model.specs.Table.{Form, record_at}
use Rattle.slice.proofs.Equal.{never}
use Rattle.record.specs.Record.{is_used}
use Rattle.index.specs.Hash.{hash_of}
use Rattle.index.specs.Index.{entry_from, count_of, bucket_of, bucket_at, in_bucket, Linked, Indexed, Enters}
use Rattle.index.proofs.Entries.{entry-end, entry_next, entry-on}

pub bucket-within : (m : ℕ) (s : List ℕ) → 1 ≤ m → bucket_of m s < m
unfolding bucket_of
bucket-within m s h = omega (arith, and_le_r (hash_of s) (m - 1))

-- no slot is entered, and no bucket has a head
pub indexed-none : (f : Form) (t heads next : List ℕ) → 1 ≤ length heads → count_of f t ≤ length next → ((b : ℕ) → get_or heads b 0 ≡ 0)
    → Indexed f t (count_of f t) heads next
indexed-none f t heads next some room zeros = record {
  some = some;
  room = room;
  head = λ b. zeros b ∙ sym (entry-end _ (count_of f t) (count_of f t) (omega arith));
  links = λ j low high. absurd (omega arith);
}

-- the links from the i-th slot on, by that of the i-th and those after it
links-from : (f : Form) (t : List ℕ) (m i : ℕ) (next : List ℕ) → Linked f t m (i + 1) next
    → (is_used (record_at f i t) ≡ true → get_or next i 0 ≡ entry_from (in_bucket f t m (bucket_at f t m i)) (count_of f t) (i + 1)) → Linked f t m i next
links-from f t m i next after here j low high used = go (eqb j i) refl
  where
    Link : ℕ → Type 0
    Link s = is_used (record_at f s t) ≡ true → get_or next s 0 ≡ entry_from (in_bucket f t m (bucket_at f t m s)) (count_of f t) (s + 1)

    go : (b : Bool) → eqb j i ≡ b → get_or next j 0 ≡ entry_from (in_bucket f t m (bucket_at f t m j)) (count_of f t) (j + 1)
    go true e = subst Link (sym (eqb-true j i e)) here used
    go false e = after j (omega (arith, eqb-false j i e)) high used

module _ (f : Form) (t : List ℕ) (i : ℕ) (h : i < count_of f t) {heads next : List ℕ} (x : Indexed f t (i + 1) heads next) where
  -- a slot that is not in use is in no bucket
  pub indexed-unused : is_used (record_at f i t) ≡ false → Indexed f t i heads next
  indexed-unused u = record {
    some = x.some;
    room = x.room;
    head = λ b. x.head b ∙ sym (entry-on (in_bucket f t (length heads) b) (count_of f t) i h (rw u (and-false (ltb 0 i))));
    links = links-from f t (length heads) i next x.links (λ used. never (is_used (record_at f i t)) used u);
  }

  module _ (u : is_used (record_at f i t) ≡ true) (first : ℕ) {heads' next' : List ℕ} (e : Enters i (part 24 24 (record_at f i t)) heads next first heads' next') where
    abbrev bucket : ℕ
    bucket = bucket_at f t (length heads) i

    same-heads : length heads' ≡ length heads
    same-heads = ap length e.head ∙ go (ltb 0 i)
      where
        go : (b : Bool) → length (cond b (set heads bucket i) heads) ≡ length heads
        go true = length-set heads bucket i
        go false = refl

    head-is : (b : ℕ) → get_or heads' b 0 ≡ entry_from (in_bucket f t (length heads) b) (count_of f t) i
    head-is b = ap (λ (l : List ℕ). get_or l b 0) e.head ∙ go (ltb 0 i) (eqb bucket b) refl
        ∙ sym (entry_next (in_bucket f t (length heads) b) (count_of f t) i h ∙ rw u)
      where
        old : ℕ
        old = entry_from (in_bucket f t (length heads) b) (count_of f t) (i + 1)

        go : (above same : Bool) → eqb bucket b ≡ same → get_or (cond above (set heads bucket i) heads) b 0 ≡ cond (above && same) i old
        go true true q =
            ap (λ (c : ℕ). get_or (set heads bucket i) c 0) (sym (eqb-true bucket b q)) ∙ get_or-set_same heads bucket i 0 (bucket-within (length heads) (part 24 24 (record_at f i t)) x.some)
        go true false q = get_or-set_other heads bucket b i 0 (λ z. eqb-false bucket b q (sym z)) ∙ x.head b
        go false same q = x.head b

    -- the slots after it are held by the heads as they were, and by the links as they are
    pub indexed-after : Indexed f t (i + 1) heads next'
    indexed-after =
        let links = ap length e.link ∙ length-set next i first in
        record {
          some = x.some;
          room = omega (arith, links, x.room);
          head = x.head;
          links = λ j low high used. ap (λ (l : List ℕ). get_or l j 0) e.link ∙ get_or-set_other next i j first 0 (λ z. omega arith) ∙ x.links j low high used;
        }

    links-are : Linked f t (length heads) i next'
    links-are =
        links-from f t (length heads) i next' indexed-after.links
        (λ used. ap (λ (l : List ℕ). get_or l i 0) e.link ∙ get_or-set_same next i first 0 (omega (arith, x.room)) ∙ e.was ∙ x.head bucket)

    -- a slot that is entered
    pub indexed-used : Indexed f t i heads' next'
    indexed-used = record {
      some = rw same-heads x.some;
      room = indexed-after.room;
      head = λ b. head-is b ∙ ap (λ (m : ℕ). entry_from (in_bucket f t m b) (count_of f t) i) (sym same-heads);
      links = subst (λ (m : ℕ). Linked f t m i next') (sym same-heads) links-are;
    }
