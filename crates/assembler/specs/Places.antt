-- The code's places in a frame as the model's.
use Rattle.std.specs.Prelude.{ℕ, ◌+◌, ◌-◌, Bool, false, cond, ltb, Option, Some, None}
use Rattle.std.proofs.Math.Option as chosen
use Rattle.model.specs.Number.{is_digit}
use Rattle.model.specs.Resp.{command_limit}
use Rattle.stream.specs.Frame as model
use Rattle.assembler.specs.declared.frame.Header.{Header}
use Rattle.assembler.specs.declared.frame.Header.TheVariants.{Array, Bulk}
use Rattle.assembler.specs.declared.frame.Place.{Place}
use Rattle.assembler.specs.declared.frame.Place.TheVariants.{Start, First, Digit, LineEnd, Body, BodyEnd, Words}

abbrev pub header_of : Header → model.Header
header_of Array = model.array
header_of (Bulk later) = model.bulk later

abbrev pub place_of : Place → model.Place
place_of Start = model.start
place_of (First h) = model.first (header_of h)
place_of (Digit h n) = model.digit (header_of h) n
place_of (LineEnd h n) = model.line_end (header_of h) n
place_of (Body n later) = model.body n later
place_of (BodyEnd later) = model.body_end later
place_of (Words n) = model.words n

-- none where no command of any length has the byte there
abbrev pub moved_to : Option Place → chosen.Option model.Place
moved_to None = chosen.none
moved_to (Some p) = chosen.some (place_of p)

-- what a byte means as a decimal digit
abbrev pub digit_in : ℕ → Option ℕ
digit_in c = cond (is_digit c) (Some (c - 48)) None

-- whether the need of a place is beyond the limit of a command, after `used` bytes; asked where a byte may have raised it, after a digit
abbrev pub beyond : model.Place → (used : ℕ) → Bool
beyond model.start used = false
beyond (model.first h) used = false
beyond (model.digit h n) used = ltb command_limit (used + (2 + model.need_after h n))
beyond (model.line_end h n) used = false
beyond (model.body n later) used = false
beyond (model.body_end later) used = false
beyond (model.words n) used = false
