-- What the C function for the current value s promises: whether one is shown, whether it is inside the command, where it begins and its length.
use Rattle.std.specs.Prelude.{ℕ, ◌≡◌, Bool}
use Rattle.model.specs.CurrentValue.{Shown, is_shown, is_in_command, start_of, length_of}

pub record Located (s : Shown) (told inside : Bool) (from count : ℕ) : Type 0 where
  pub shown : told ≡ is_shown s
  pub in-command : inside ≡ is_in_command s
  pub start : from ≡ start_of s
  pub length : count ≡ length_of s
