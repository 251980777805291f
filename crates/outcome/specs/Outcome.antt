-- What the code answers, as the model has it: the code's `Option` and `Result` beside the model's choice and its checked results.
use Rattle.std.specs.Prelude.{ℕ, Option, Some, None}
use Rattle.std.specs.Prelude.{Result, Ok, Err}
use Rattle.std.proofs.Math.Option as model
use Rattle.model.specs.Checked.{Checked, refuse, ok}
use Rattle.outcome.specs.declared.Refusal.{Refusal}

-- a value of the model's, or none
abbrev pub from_model : {A : Type 0} → model.Option A → Option A
from_model model.none = None
from_model (model.some a) = Some a

-- a value of the code's, or none
abbrev pub to_model : {A : Type 0} → Option A → model.Option A
to_model None = model.none
to_model (Some a) = model.some a

-- document 01's number of each test that refuses
abbrev pub number_of : Refusal → ℕ
number_of Refusal.Damaged = 1
number_of Refusal.Time = 2
number_of Refusal.Room = 3
number_of Refusal.Malformed = 4
number_of Refusal.Unknown = 5
number_of Refusal.Words = 6
number_of Refusal.Size = 7
number_of Refusal.Syntax = 8
number_of Refusal.Number = 9
number_of Refusal.Expiry = 10
number_of Refusal.Bounds = 11
number_of Refusal.Stale = 12
number_of Refusal.Stored = 13
number_of Refusal.Overflow = 14
number_of Refusal.Version = 15
number_of Refusal.Length = 16
number_of Refusal.Full = 17
number_of Refusal.Boundary = 18

-- a result, its value turned into the model's, or the number of the refusal
abbrev pub checked : {A B : Type 0} → (A → B) → Result A Refusal → Checked B
checked f (Ok a) = ok (f a)
checked f (Err r) = refuse (number_of r)
