-- Whether a list is an index, tested in one pass with no sorting; and how a list is kept when one slot changes.
use Rattle.std.specs.Prelude.{ℕ, suc, ◌-◌, Bool, true, false, cond, ◌&&◌, List, [], ◌∷◌, ◌++◌, length, replicate, take, drop, leb, ltb}
use Rattle.std.proofs.Math.Option.{Option, none, some}
use Rattle.model.specs.Bytes.{same, all}
use Rattle.model.specs.Optional.{◌>>=◌}
use Rattle.model.specs.Table.{Slot, empty, used}
use Rattle.model.specs.Order.{before, Entry, entry, key_in}

-- how many slots are in use
abbrev pub used_count : List Slot → ℕ
used_count [] = 0
used_count (empty ∷ ss) = used_count ss
used_count (used r ∷ ss) = suc (used_count ss)

-- the entries that numbers name, if each names a slot in use
abbrev pub named : (first : ℕ) → List Slot → List ℕ → Option (List Entry)
named first ss [] = some []
named first ss (n ∷ l) = do
  k ← key_in first ss n
  es ← named first ss l
  some (entry k n ∷ es)

abbrev pub before_head : List ℕ → List Entry → Bool
before_head k [] = true
before_head k (e ∷ es) = before k e.key

-- whether keys strictly rise along a list, each compared with the next
abbrev pub rise : List Entry → Bool
rise [] = true
rise (e ∷ es) = before_head e.key es && rise es

abbrev pub rise_in : Option (List Entry) → Bool
rise_in none = false
rise_in (some es) = rise es

-- as many numbers as slots in use, each of a slot in use, their keys rising; then zeros to the end
abbrev pub index_rules : (first : ℕ) → List Slot → List ℕ → List Bool
index_rules first ss l =
    leb (used_count ss) (length l)
    ∷ rise_in (named first ss (take (used_count ss) l))
    ∷ same (drop (used_count ss) l) (replicate (length l - used_count ss) 0)
    ∷ []

unfoldable pub is_index : (first : ℕ) → List Slot → List ℕ → Bool
is_index first ss l = all (index_rules first ss l)

-- ---- the list after a change of one slot

-- what stands at place p taken out: what follows moves down, and a zero comes last
abbrev pub take_out : (p : ℕ) → List ℕ → List ℕ
take_out p l = take p l ++ (drop (suc p) l ++ (0 ∷ []))

-- the number n put in at place p: what follows moves up, and the last falls off
abbrev pub put_in : (p n : ℕ) → List ℕ → List ℕ
put_in p n l = take (length l) (take p l ++ (n ∷ drop p l))

-- a place counted without place q
abbrev pub place_without : (q p : ℕ) → ℕ
place_without q p = cond (ltb q p) (p - 1) p
