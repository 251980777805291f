-- What ties this crate's fields and lines to the model's.
use Rattle.std.specs.Prelude.{ℕ, Bool, true, false, List, [], ◌∷◌, ◌++◌}
use Rattle.model.specs.Table.{Record}
use Rattle.model.specs.Difference.{Field, value, version, flags, expiry, Line, when, fields_apart, changed_line, add_line, hex, fields_text}
use Rattle.difference.specs.declared.fields.Fields.{Fields}

-- the fields that are told to differ
abbrev pub fields_of : Fields → List Field
fields_of d = when d.value value ++ (when d.version version ++ (when d.flags flags ++ when d.expiry expiry))

abbrev pub is_none : List Field → Bool
is_none [] = true
is_none (f ∷ fs) = false

-- a mark, a key, fields and a line feed
abbrev pub line_bytes : (mark : ℕ) → List ℕ → List Field → List ℕ
line_bytes m k fs = m ∷ 32 ∷ (hex k ++ (fields_text fs ++ (10 ∷ [])))

-- the line of a key that has a record in both tables, if it has one
abbrev pub change_lines : Record → Record → List Line
change_lines r q = add_line (changed_line r.key (fields_apart r q)) []
