-- The index of the keys of a table: two arrays of entries, each the number of a slot, or 0 for none. `heads` has for each bucket the lowest
-- slot whose key falls into it, and `next` for each slot in use the lowest slot after it of the same bucket. Slot 0 has the number that is for
-- none, so that no entry names it.
use Rattle.std.specs.Prelude.{◌≡◌, ℕ, zero, suc, ◌+◌, ◌-◌, ◌/◌, ◌<◌, ◌≤◌, Bool, true, cond, ◌&&◌, List, length, ◌==◌, bit_and, nat_lt, slice_index, slice_set, Option, Some, None}
use Rattle.model.specs.Bytes.{part, padded}
use Rattle.model.specs.Table.{Form, record_size, record_at, key_at, key_limit}
use Rattle.record.specs.Record.{IsSlot, is_used, has_key}
use Rattle.index.specs.Hash.{hash_of}

-- ---- entries

-- the entry of the lowest of the d slots from i on that passes a test
abbrev pub entry_of : (ℕ → Bool) → (d i : ℕ) → ℕ
entry_of p zero i = 0
entry_of p (suc d) i = cond (nat_lt 0 i && p i) i (entry_of p d (suc i))

-- the entry of the lowest slot from i on, below n, that passes a test
unfoldable pub entry_from : (ℕ → Bool) → (n i : ℕ) → ℕ
entry_from p n i = entry_of p (n - i) i

-- the slot that an entry names, of n slots; n where it names none
abbrev pub named_by : (n entry : ℕ) → ℕ
named_by n e = cond (e == 0) n e

-- the slot of an entry, and the entry of a slot
abbrev pub entry_slot : ℕ → Option ℕ
entry_slot zero = None
entry_slot (suc i) = Some (suc i)

abbrev pub slot_entry : Option ℕ → ℕ
slot_entry None = 0
slot_entry (Some i) = i

-- ---- buckets

-- how many whole slots the table t has
abbrev pub count_of : Form → (t : List ℕ) → ℕ
count_of f t = length t / record_size f

-- the bucket of a key with the zeros after it, of m buckets
unfoldable pub bucket_of : (m : ℕ) → List ℕ → ℕ
bucket_of m s = bit_and (hash_of s) (m - 1)

-- the bucket of a record's key
abbrev pub bucket_at : Form → (t : List ℕ) (m j : ℕ) → ℕ
bucket_at f t m j = bucket_of m (part key_at key_limit (record_at f j t))

-- whether slot j of the table t is in use, and its key in bucket b of m
abbrev pub in_bucket : Form → (t : List ℕ) (m b j : ℕ) → Bool
in_bucket f t m b j = is_used (record_at f j t) && bucket_at f t m j == b

-- whether slot j of the table t is in use with the key k
abbrev pub key_is : Form → (t k : List ℕ) (j : ℕ) → Bool
key_is f t k j = has_key k (record_at f j t)

-- the entry of the lowest slot with the key k, from the slot that an entry names on
abbrev pub key_entry : Form → (t k : List ℕ) (entry : ℕ) → ℕ
key_entry f t k e = entry_from (key_is f t k) (count_of f t) (named_by (count_of f t) e)

-- ---- the index

-- each slot in use from i on is followed by the next one of its bucket, of m
abbrev pub Linked : Form → (t : List ℕ) (m i : ℕ) (next : List ℕ) → Type 0
Linked f t m i next =
    (j : ℕ) → i ≤ j → j < count_of f t → is_used (record_at f j t) ≡ true
    → slice_index next j ≡ entry_from (in_bucket f t m (bucket_at f t m j)) (count_of f t) (j + 1)

-- the index holds the slots from i on
pub record Indexed (f : Form) (t : List ℕ) (i : ℕ) (heads next : List ℕ) : Type 0 where
  pub some : 1 ≤ length heads
  pub room : count_of f t ≤ length next
  pub head : (b : ℕ) → slice_index heads b ≡ entry_from (in_bucket f t (length heads) b) (count_of f t) i
  pub links : Linked f t (length heads) i next

-- slot i, whose key has the 24 bytes s, is entered: it becomes the head of its bucket, unless it is slot 0, and `first` comes after it
pub record Enters (i : ℕ) (s heads next : List ℕ) (first : ℕ) (heads' next' : List ℕ) : Type 0 where
  pub was : first ≡ slice_index heads (bucket_of (length heads) s)
  pub head : heads' ≡ cond (nat_lt 0 i) (slice_set heads (bucket_of (length heads) s) i) heads
  pub link : next' ≡ slice_set next i first

-- from the entry `first` on, `next` leads to every slot from some slot on that is in the bucket of the key k, and these slots are records
pub record Chain (f : Form) (t next : List ℕ) (first : ℕ) (k : List ℕ) : Type 0 where
  pub from : ℕ
  pub buckets : ℕ
  pub room : count_of f t ≤ length next
  pub slots : (j : ℕ) → from ≤ j → j < count_of f t → IsSlot (record_at f j t)
  pub starts : first ≡ entry_from (in_bucket f t buckets (bucket_of buckets (padded key_limit k))) (count_of f t) from
  pub links : Linked f t buckets from next
