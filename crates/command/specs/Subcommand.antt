-- What subcommands by value mean in the model.
use Rattle.std.specs.Prelude.{ℕ, zero, suc, min, false, List, [], ◌∷◌, get_or, ℤ, pos}
use Rattle.model.specs.Field as field
use Rattle.model.specs.Overflow as overflow
use Rattle.model.specs.Bitfield as bitfield
use Rattle.command.specs.declared.subcommand.IntType.{IntType}
use Rattle.command.specs.declared.subcommand.Field.{Field}
use Rattle.command.specs.declared.subcommand.Mode.{Mode}
use Rattle.command.specs.declared.subcommand.Operation.{Operation}
use Rattle.command.specs.declared.subcommand.Sub.{Sub}
use Rattle.command.specs.declared.subcommand.Subs.{Subs}

abbrev pub model_int : IntType → field.IntType
model_int i = record { signed = i.signed; width = i.width }

abbrev pub model_field : Field → field.Field
model_field f = field.field (model_int f.int) f.offset

abbrev pub model_mode : Mode → overflow.Mode
model_mode Mode.Wrap = overflow.wrap
model_mode Mode.Sat = overflow.sat
model_mode Mode.Fail = overflow.fail

abbrev pub model_operation : Operation → field.Field → ℤ → bitfield.Sub
model_operation Operation.Get f z = bitfield.get f
model_operation Operation.Set f z = bitfield.set f z
model_operation (Operation.Incrby m) f z = bitfield.incrby f (model_mode m) z

abbrev pub model_sub : Sub → bitfield.Sub
model_sub s = model_operation s.operation (model_field s.field) s.number

-- what would stand in a list that is too short, which one of four is not
abbrev pub no_sub : Sub
no_sub = record { operation = Operation.Get; field = record { int = record { signed = false; width = 1 }; offset = 0 }; number = pos 0 }

-- subcommand i; past the fourth place the fourth stands again
abbrev pub sub_at : Subs → (i : ℕ) → Sub
sub_at s i = get_or s.list (min i 3) no_sub

-- n subcommands from place i on
abbrev pub subs_from : Subs → (i n : ℕ) → List bitfield.Sub
subs_from s i zero = []
subs_from s i (suc n) = model_sub (sub_at s i) ∷ subs_from s (suc i) n

-- the subcommands of a command
unfoldable pub model_subs : Subs → List bitfield.Sub
model_subs s = subs_from s 0 s.count
