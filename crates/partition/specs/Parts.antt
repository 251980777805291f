-- What ties the part of a call to the model's views. t is the table's bytes.
use Rattle.std.specs.Prelude.{ℕ, ◌*◌, ◌/◌, ◌≤◌, ◌<◌, ◌≡◌, true, List, length, Option, Some, None}
use Rattle.std.specs.Prelude.{Result, Ok, Err}
use Rattle.model.specs.Bytes.{all}
use Rattle.model.specs.Checked.{Checked, refuse, ok}
use Rattle.model.specs.Table.{Form, Slot, record_size, size_rules}
use Rattle.model.specs.Partition as model
use Rattle.model.specs.Partition.{owner, installer, whole, shared_by, bytes_in}
use Rattle.model.specs.Gate.{good_part, good_table}
use Rattle.outcome.specs.declared.Refusal.{Refusal}
use Rattle.outcome.specs.Outcome.{number_of}
use Rattle.partition.specs.declared.Party.{Party}
use Rattle.partition.specs.declared.Party.TheVariants.{Whole, Owner, Installer}
use Rattle.partition.specs.declared.View.{View}
use Rattle.partition.specs.declared.Part.{Part}

-- the model's view
abbrev pub view_by : Party → (boundary : ℕ) → model.View
view_by Whole n = whole
view_by Owner n = shared_by owner n
view_by Installer n = shared_by installer n

abbrev pub model_view : View → model.View
model_view v = view_by v.party v.boundary

-- the number of a refusal, 0 where there is none
abbrev pub refusal_of : Checked (List Slot) → ℕ
refusal_of (refuse n) = n
refusal_of (ok ss) = 0

-- the same of what the code answers
abbrev pub number_in : Option Refusal → ℕ
number_in None = 0
number_in (Some r) = number_of r

-- ---- the boundary

-- a table of the right length, and the place a of a boundary n that is good for it
pub record IsCut (f : Form) (n : ℕ) (t : List ℕ) (a : ℕ) : Type 0 where
  pub size : all (size_rules f t) ≡ true
  pub least : 1 ≤ n
  pub most : n < length t / record_size f
  pub place : a ≡ n * record_size f

-- the place of the boundary; or every call of either party is refused
abbrev pub Cuts : Form → (n : ℕ) (t : List ℕ) → Result ℕ Refusal → Type 0
Cuts f n t (Ok a) = IsCut f n t a
Cuts f n t (Err r) = (p : model.Party) → good_part f (shared_by p n) t ≡ refuse (number_of r)

-- ---- the part

-- where a view's part begins and ends in the table
abbrev pub start_in : Form → model.View → ℕ
start_in f whole = 0
start_in f (shared_by owner n) = 0
start_in f (shared_by installer n) = n * record_size f

abbrev pub end_in : Form → model.View → (t : List ℕ) → ℕ
end_in f whole t = length t
end_in f (shared_by owner n) t = n * record_size f
end_in f (shared_by installer n) t = length t

-- the places a and e of a view's part, and that the first tests come to those of the part as a table of its own
pub record IsPart (f : Form) (v : model.View) (t : List ℕ) (a e : ℕ) : Type 0 where
  pub start : a ≡ start_in f v
  pub end : e ≡ end_in f v t
  pub low : a ≤ e
  pub high : e ≤ length t
  pub tests : good_part f v t ≡ good_table f (bytes_in f v t)

-- the part; or every call on it is refused
abbrev pub FindsBy : Form → model.View → (t : List ℕ) → Result Part Refusal → Type 0
FindsBy f v t (Ok part) = IsPart f v t part.start part.end
FindsBy f v t (Err r) = good_part f v t ≡ refuse (number_of r)

abbrev pub Finds : Form → View → (t : List ℕ) → Result Part Refusal → Type 0
Finds f v t r = FindsBy f (model_view v) t r
