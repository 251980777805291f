-- The attributes of a record, its flags, version and expiry, and what a write makes of a record by them.
use Rattle.std.specs.Prelude.{Bool, true, false, List, ◌++◌, ℕ}
use Rattle.model.specs.Bytes.{little_endian}
use Rattle.model.specs.Table.{Record}
use Rattle.record.specs.declared.Attributes.{Attributes}

abbrev pub attributes_of : Record → Attributes
attributes_of r = record { flags = r.flags; version = r.version; expiry = r.expiry }

-- the record of a key, a value and attributes
abbrev pub record_with : (k v : List ℕ) → Attributes → Record
record_with k v a = record { key = k; value = v; flags = a.flags; version = a.version; expiry = a.expiry }

-- a record with other attributes
abbrev pub with_attributes : Attributes → Record → Record
with_attributes a r = record_with r.key r.value a

-- the text s joined to v, at its front or at its back
abbrev pub joined_text : (front : Bool) (s v : List ℕ) → List ℕ
joined_text true s v = s ++ v
joined_text false s v = v ++ s

-- a record with s joined to its value, and other attributes
abbrev pub joined_record : (front : Bool) (s : List ℕ) → Attributes → Record → Record
joined_record front s a r = record_with r.key (joined_text front s r.value) a

-- bytes 4 to 23 of a record in use
unfoldable pub attribute_bytes : Attributes → List ℕ
attribute_bytes a = little_endian 4 a.flags ++ (little_endian 8 a.version ++ little_endian 8 a.expiry)
