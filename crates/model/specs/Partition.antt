-- Two parties can share a table: the owner has the records below a boundary, the installer the rest. A call says which part it means.
use Rattle.std.specs.Prelude.{ℕ, ◌*◌, Bool, true, ◌&&◌, List, ◌++◌, take, drop, leb, ltb}
use Rattle.model.specs.Table.{Form, Slot, record_size, distinct}

pub data Party : Type 0 where
  owner installer : Party

abbrev pub other : Party → Party
other owner = installer
other installer = owner

-- the whole table, or a party's part of a table that is shared at a boundary, counted in records
pub data View : Type 0 where
  whole : View
  shared_by : Party → (boundary : ℕ) → View

module _ {A : Type 0} where
  -- a party's side of a list that is cut after n elements
  abbrev pub side : Party → ℕ → List A → List A
  side owner n l = take n l
  side installer n l = drop n l

  -- the same list with another side for that party
  abbrev pub with_side : Party → ℕ → (new l : List A) → List A
  with_side owner n new l = new ++ drop n l
  with_side installer n new l = take n l ++ new

-- the bytes of a party's part of a table that is shared at the boundary n
abbrev pub partition : Form → Party → ℕ → List ℕ → List ℕ
partition f p n t = side p (n * record_size f) t

-- ---- by view

-- the bytes that a command works on
abbrev pub bytes_in : Form → View → (table : List ℕ) → List ℕ
bytes_in f whole t = t
bytes_in f (shared_by p n) t = partition f p n t

-- the table with these bytes new
abbrev pub with_bytes : Form → View → (new table : List ℕ) → List ℕ
with_bytes f whole new t = new
with_bytes f (shared_by p n) new t = with_side p (n * record_size f) new t

-- the slots in which a command looks for keys and takes records
abbrev pub slots_in : View → List Slot → List Slot
slots_in whole ss = ss
slots_in (shared_by p n) ss = side p n ss

-- a boundary is at least 1 and below the number of records
abbrev pub boundary_ok : View → (records : ℕ) → Bool
boundary_ok whole m = true
boundary_ok (shared_by p n) m = leb 1 n && ltb n m

-- no two keys of the whole table are equal; of a shared one no two of one part, in either part, whoever calls
abbrev pub keys_ok : View → List Slot → Bool
keys_ok whole ss = distinct ss
keys_ok (shared_by p n) ss = distinct (take n ss) && distinct (drop n ss)
