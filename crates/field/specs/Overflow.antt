-- A sum against a type's range as the model has it.
use Rattle.std.specs.Prelude.{ℤ}
use Rattle.std.specs.Prelude.{Result, Ok, Err}
use Rattle.model.specs.Overflow as model
use Rattle.number.specs.declared.Side.{Side}
use Rattle.number.specs.declared.Side.TheVariants.{Under, Over}

abbrev pub model_side : Result ℤ Side → model.Side
model_side (Err Under) = model.under
model_side (Err Over) = model.over
model_side (Ok z) = model.within z
