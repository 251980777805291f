-- The search for a key by halves, with the number of keys that it was compared with.
use Rattle.std.specs.Prelude.{ℕ, zero, suc, ◌+◌, ◌-◌, ◌/◌, cond, List, get_or}
use Rattle.model.specs.Table.{Slot}
use Rattle.model.specs.Order.{before, key_of}
use Rattle.indexing.specs.OnePass.{used_count}

-- the place at which a key stands, or the one at which it would be put in
pub data Place : Type 0 where
  at gap : ℕ → Place

-- a place, and with how many keys the one looked for was compared
pub record Searched : Type 0 where
  pub place : Place
  pub compared : ℕ

abbrev pub searched : Place → ℕ → Searched
searched p n = record { place = p; compared = n }

-- one comparison more
abbrev pub one_more : Searched → Searched
one_more s = searched s.place (suc s.compared)

-- by the comparison of k with the key m in the middle: the search below it, the middle itself, or the search above it
abbrev pub by_half : (k m : List ℕ) → (low here high : Searched) → Searched
by_half k m low here high = cond (before k m) low (cond (before m k) high here)

-- the search for k among n keys from place `from` on; `keys` gives the key at a place. It ends after at most `steps` comparisons.
unfoldable pub search : (steps : ℕ) (keys : ℕ → List ℕ) (k : List ℕ) (from n : ℕ) → Searched
search zero keys k from n = searched (gap from) 0
search (suc m) keys k from zero = searched (gap from) 0
search (suc m) keys k from (suc n) =
    let middle = from + suc n / 2 in
    let low = one_more (search m keys k from (suc n / 2)) in
    let high = one_more (search m keys k (suc middle) (n - suc n / 2)) in
    by_half k (keys middle) low (searched (at middle) 1) high

-- nine comparisons are enough for 511 keys
abbrev pub find : (keys : ℕ → List ℕ) (k : List ℕ) (n : ℕ) → Searched
find keys k n = search 9 keys k 0 n

-- the key of the slot whose number stands at a place of a list
abbrev pub key_at : (first : ℕ) → List Slot → (list : List ℕ) → (place : ℕ) → List ℕ
key_at first ss l i = key_of first ss (get_or l i 0)

-- the search for k in slots, by the list that holds their index
abbrev pub find_in : (first : ℕ) → List Slot → (list : List ℕ) → (k : List ℕ) → Searched
find_in first ss l k = find (key_at first ss l) k (used_count ss)
