-- Lists of slot numbers: along which keys rise, the place of a key in one, and the list that holds an index.
use Rattle.std.specs.Prelude.{ℕ, ◌≤◌, ◌<◌, ◌≡◌, true, List, length, get_or, drop, Result, Ok, Err}
use Rattle.model.specs.Table.{Form}
use Rattle.model.specs.Order.{before, index_from, list_from}
use Rattle.table.specs.Slots.{slots_of, record_in, InUseAt}

-- the key of the record whose number stands at place i of the list l
abbrev pub key_at_place : Form → (t l : List ℕ) (i : ℕ) → List ℕ
key_at_place f t l i = (record_in f t (get_or l i 0)).key

-- the first n numbers of l are of records in use, and their keys rise
pub record Ascends (f : Form) (t l : List ℕ) (n : ℕ) : Type 0 where
  pub room : n ≤ length l
  pub in_use : (i : ℕ) → i < n → InUseAt f t (get_or l i 0)
  pub rises : (i j : ℕ) → i < j → j < n → before (key_at_place f t l i) (key_at_place f t l j) ≡ true

-- p is the place for the key k among the first n: those before it have earlier keys, those from it on later ones
pub record Between (f : Form) (t l : List ℕ) (n : ℕ) (k : List ℕ) (p : ℕ) : Type 0 where
  pub within : p ≤ n
  pub low : (i : ℕ) → i < p → before (key_at_place f t l i) k ≡ true
  pub high : (i : ℕ) → p ≤ i → i < n → before k (key_at_place f t l i) ≡ true

-- the key k stands at a place of the first n, or is in none of them, and its place
abbrev pub Stands : Form → (t l : List ℕ) (n : ℕ) (k : List ℕ) → Result ℕ ℕ → Type 0
Stands f t l n k (Ok p) = (p < n) × (key_at_place f t l p ≡ k)
Stands f t l n k (Err p) = Between f t l n k p

-- the list, of `room` places, holds the index of the slots from slot i on, which has n numbers
pub record Lists (f : Form) (t : List ℕ) (i room : ℕ) (list : List ℕ) (n : ℕ) : Type 0 where
  pub bytes : list ≡ list_from room i (drop i (slots_of f t))
  pub count : n ≡ length (index_from i (drop i (slots_of f t)))
