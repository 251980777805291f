-- What writing a text over a buffer promises.
use Rattle.std.specs.Prelude.{ℕ, ◌+◌, ◌≡◌, List, length}
use Rattle.model.specs.Bytes.{written}

-- the text s was written over the bytes b from place `at` on, which left the bytes `after` and gave back the place after the text
pub record Wrote (at : ℕ) (s b after : List ℕ) (next : ℕ) : Type 0 where
  pub place : next ≡ at + length s
  pub bytes : after ≡ written at s b
