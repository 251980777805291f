-- The bytes of one record: what a call may ask of them, and what it changes.
use Rattle.std.specs.Prelude.{ℕ, ◌+◌, ◌≤◌, ◌≡◌, Bool, true, ◌&&◌, List, [], ◌∷◌, length, get_or, leb, ltb, eqb}
use Rattle.std.proofs.Math.Option
use Rattle.std.proofs.Math.Option.{some}
use Rattle.model.specs.Bytes.{same, all}
use Rattle.model.specs.Number.{version_limit}
use Rattle.model.specs.Table.{Form, Record, Slot, empty, used, record_size, record_bytes, read_slot, fields, key_limit, time_limit, use_at, key_length_at, value_length_at, value_at, tail_size}
use Rattle.model.specs.Optional.{is_some}
use Rattle.record.specs.Forms.{Lawful}
use Rattle.record.specs.declared.Attributes.{Attributes}
use Rattle.record.specs.Attributes.{attribute_bytes}

-- the slot that the bytes are; an empty one if they are none
abbrev pub as_slot : Form → List ℕ → Slot
as_slot f b = Option.get_or (read_slot f b) empty

-- the bytes of a record of a form, empty or in use
pub record Readable (f : Form) (b : List ℕ) : Type 0 where
  pub size : length b ≡ record_size f
  pub read : is_some (read_slot f b) ≡ true

-- the bytes of a record of a form, in use
pub record InUseOf (f : Form) (b : List ℕ) : Type 0 where
  pub size : length b ≡ record_size f
  pub read : read_slot f b ≡ some (used (fields b))

-- the bytes of a record in use, of some form: what a function asks that reads no more than the bytes
pub record InUse (b : List ℕ) : Type 0 where
  pub form : Form
  pub lawful : Lawful form
  pub is : InUseOf form b

-- the bytes of a record, empty or in use, of some form
pub record IsSlot (b : List ℕ) : Type 0 where
  pub form : Form
  pub lawful : Lawful form
  pub is : Readable form b

-- whether byte 0 is that of a record in use
abbrev pub is_used : List ℕ → Bool
is_used b = eqb (get_or b use_at 0) 1

-- whether the bytes are a record in use with the key k
abbrev pub has_key : (k b : List ℕ) → Bool
has_key k b = is_used b && same k (fields b).key

-- there is room for s beside the value
abbrev pub Fits : (b s : List ℕ) → Type 0
Fits b s = value_at + (length (fields b).value + length s) + tail_size ≤ length b

-- the bytes b of a record in use became those of the record changed by g, whatever its form
abbrev pub Changed : (Record → Record) → (b after : List ℕ) → Type 0
Changed g b after = (f : Form) → InUseOf f b → after ≡ record_bytes f (g (fields b))

-- bytes 0 to 23 of a record in use, from byte 3, the lengths of its key and value and its attributes
unfoldable pub head : (mark key value : ℕ) → Attributes → List ℕ
head m k v a = 1 ∷ k ∷ v ∷ m ∷ attribute_bytes a

-- the tests of those bytes
abbrev pub head_rules : Form → List ℕ → List Bool
head_rules f b =
    eqb (get_or b use_at 0) 1
    ∷ leb 1 (get_or b key_length_at 0) ∷ leb (get_or b key_length_at 0) key_limit
    ∷ leb (get_or b value_length_at 0) f.value_limit
    ∷ eqb (get_or b 3 0) f.mark
    ∷ ltb (fields b).version version_limit
    ∷ leb (fields b).expiry time_limit
    ∷ []

-- whether those bytes can be of a record in use
unfoldable pub is_head : Form → List ℕ → Bool
is_head f b = all (head_rules f b)
