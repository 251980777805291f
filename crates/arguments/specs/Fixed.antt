-- The number among the fixed words of a command, as the model has it.
use Rattle.std.proofs.Math.Option.{Option, none, some}
use Rattle.model.specs.Command.{Number, signed, natural}
use Rattle.model.specs.Parse as model
use Rattle.arguments.specs.declared.Fixed.{Fixed}

-- the one of the signed number and the version that the rule has there
abbrev pub model_fixed : (x : Option Number) → Fixed → model.Fixed x
model_fixed none f = tt
model_fixed (some signed) f = f.by
model_fixed (some natural) f = f.version
