-- The forms of a record: the model's form of each, and what every form keeps.
use Rattle.std.specs.Prelude.{◌≤◌}
use Rattle.model.specs.Table.{Form as Shape, form128}
use Rattle.record.specs.declared.Form.{Form}
use Rattle.record.specs.declared.Form.TheVariants.{Of128, Of192}

-- the longer records, of 192 bytes
abbrev pub form192 : Shape
form192 = record { value_limit = 128; mark = 2; reply_room = 192 }

abbrev pub form_of : Form → Shape
form_of Of128 = form128
form_of Of192 = form192

-- a form that the code can have: the value's length fits its byte
pub record Lawful (f : Shape) : Type 0 where
  pub most : f.value_limit ≤ 128
