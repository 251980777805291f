-- The exit status of a result.
use Rattle.std.specs.Prelude.{ℕ, Result, Ok, Err}

-- what could not be done ends with 2
abbrev pub status_in : {E : Type 0} → Result ℕ E → ℕ
status_in (Ok status) = status
status_in (Err e) = 2
