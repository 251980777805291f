-- Byte order of keys, and the index of a table: the numbers of its slots in use, in byte order of their keys.
use Rattle.std.specs.Prelude.{ℕ, suc, ◌-◌, ◌≡◌, ◌⊎◌, ◌↔◌, Bool, true, false, cond, ◌&&◌, ◌||◌, List, [], ◌∷◌, map, leb, ltb, eqb}
use Rattle.std.proofs.Math.Option.{Option, none, some, get_or}
use Rattle.std.proofs.Math.ListN.{get_elem?}
use Rattle.model.specs.Bytes.{padded}
use Rattle.model.specs.Optional.{◌>>=◌}
use Rattle.model.specs.Table.{Slot, empty, used}

-- ---- byte order

-- whether s comes before t: by the first byte in which they differ, a shorter one before its extension
abbrev pub before : List ℕ → List ℕ → Bool
before [] [] = false
before [] (y ∷ t) = true
before (x ∷ s) [] = false
before (x ∷ s) (y ∷ t) = ltb x y || (eqb x y && before s t)

-- ---- lists that rise

module _ {A : Type 0} where
  -- a stands in a list
  abbrev pub In : A → List A → Type 0
  In a [] = ⊥
  In a (x ∷ l) = (a ≡ x) ⊎ In a l

  -- no element stands twice
  abbrev pub Once : List A → Type 0
  Once [] = Unit {0}
  Once (a ∷ l) = (In a l → ⊥) × Once l

module _ {A : Type 0} (key : A → List ℕ) where
  -- k comes before every key
  abbrev pub Above : List ℕ → List A → Type 0
  Above k l = (a : A) → In a l → before k (key a) ≡ true

  -- keys strictly rise along a list
  abbrev pub Rising : List A → Type 0
  Rising [] = Unit {0}
  Rising (a ∷ l) = Above (key a) l × Rising l

-- ---- the index

-- a key and the number of its slot
pub record Entry : Type 0 where
  pub key : List ℕ
  pub at : ℕ

abbrev pub entry : List ℕ → ℕ → Entry
entry k n = record { key = k; at = n }

abbrev pub entry_key : Entry → List ℕ
entry_key e = e.key

-- an entry put in before the first one with a later key
abbrev pub insert : Entry → List Entry → List Entry
insert e [] = e ∷ []
insert e (f ∷ fs) = let more = f ∷ insert e fs in cond (before e.key f.key) (e ∷ f ∷ fs) more

-- the slots in use in byte order of their keys, live or not; the slots are numbered from `first` on
unfoldable pub entries : (first : ℕ) → List Slot → List Entry
entries first [] = []
entries first (empty ∷ ss) = entries (suc first) ss
entries first (used r ∷ ss) = insert (entry r.key first) (entries (suc first) ss)

abbrev pub numbers : List Entry → List ℕ
numbers es = map (λ e. e.at) es

-- the numbers of the slots in use, in byte order of their keys
abbrev pub index_from : (first : ℕ) → List Slot → List ℕ
index_from first ss = numbers (entries first ss)

-- the index of a whole table
abbrev pub index_of : List Slot → List ℕ
index_of ss = index_from 0 ss

-- the index in a list of n places: zeros after it
abbrev pub list_from : (n first : ℕ) → List Slot → List ℕ
list_from n first ss = padded n (index_from first ss)

-- ---- what fixes the index

abbrev pub slot_key : Slot → Option (List ℕ)
slot_key empty = none
slot_key (used r) = some r.key

-- the key of slot n, if n is the number of one of the slots and that one is in use
unfoldable pub key_in : (first : ℕ) → List Slot → (n : ℕ) → Option (List ℕ)
key_in first ss n = cond (leb first n) (get_elem? ss (n - first) >>= slot_key) none

-- the key of slot n, none where it is no slot in use
abbrev pub key_of : (first : ℕ) → List Slot → (n : ℕ) → List ℕ
key_of first ss n = get_or (key_in first ss n) []

-- a list of the numbers of all slots in use and no other, along which their keys rise
pub record Ordered (first : ℕ) (ss : List Slot) (l : List ℕ) : Type 0 where
  pub exact : (n : ℕ) → In n l ↔ ((k : List ℕ) × (key_in first ss n ≡ some k))
  pub rises : Rising (key_of first ss) l
