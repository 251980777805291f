-- What stands under a command's key, as the model has it.
use Rattle.std.specs.Prelude as code
use Rattle.std.specs.Prelude.{ℕ, ◌≡◌, List, [], Some, None}
use Rattle.std.proofs.Math.Option.{Option, none, some}
use Rattle.model.specs.Table.{Form, Record}
use Rattle.model.specs.Search as model
use Rattle.model.specs.Search.{lookup, slot_for}
use Rattle.record.specs.Forms.{form_of}
use Rattle.model.proofs.Records.{InRange}
use Rattle.record.specs.declared.Attributes.{Attributes}
use Rattle.record.specs.Attributes.{with_attributes, record_with}
use Rattle.table.specs.Slots.{Reads, slots_of, record_in, InUseAt}
use Rattle.live.specs.declared.Lookup.{Lookup}
use Rattle.live.specs.declared.Lookup.TheVariants.{Live, Expired, Absent}
use Rattle.live.specs.declared.Target.{Target}

-- a live record is the one at its slot of the table t, with the attributes given
abbrev pub model_lookup : Form → (t : List ℕ) → Lookup → model.Lookup
model_lookup f t (Live i a) = model.live_at (record { at = i; rec = with_attributes a (record_in f t i) })
model_lookup f t (Expired i) = model.expired_at i
model_lookup f t Absent = model.absent

-- slot i is in use, and its record with the attributes a is in range
pub record LiveAt (f : Form) (t : List ℕ) (i : ℕ) (a : Attributes) : Type 0 where
  pub in_use : InUseAt f t i
  pub range : InRange f (with_attributes a (record_in f t i))

abbrev pub SoundAt : Form → (t : List ℕ) → Lookup → Type 0
SoundAt f t (Live i a) = LiveAt f t i a
SoundAt f t (Expired i) = InUseAt f t i
SoundAt f t Absent = Unit {0}

-- the table t reads, and the answer speaks of it
pub record Sound (f : Form) (t : List ℕ) (l : Lookup) : Type 0 where
  pub reads : Reads f t
  pub at : SoundAt f t l

-- the answer of the one search for the key k
pub record IsUnder (f : Form) (t : List ℕ) (time : ℕ) (k : List ℕ) (l : Lookup) : Type 0 where
  pub is : model_lookup f t l ≡ lookup time k (slots_of f t)
  pub sound : Sound f t l

-- the live record by its attributes: what a write asks of it for version, flags and expiry
abbrev pub stored_in : Lookup → Option Record
stored_in (Live i a) = some (record_with [] [] a)
stored_in (Expired i) = none
stored_in Absent = none

-- the same by the code's choice of attributes
abbrev pub stored_of : code.Option Attributes → Option Record
stored_of None = none
stored_of (Some a) = some (record_with [] [] a)

-- ---- the place of a command

abbrev pub shape_of : Target → Form
shape_of g = form_of g.form

abbrev pub lookup_in : (t : List ℕ) → Target → model.Lookup
lookup_in t g = model_lookup (shape_of g) t g.found

-- the slot that a write takes
abbrev pub slot_in : (t : List ℕ) → Target → Option ℕ
slot_in t g = slot_for g.time (slots_of (shape_of g) t) (lookup_in t g)
