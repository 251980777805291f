-- What the current value promises: the bytes that are given back, where they stand, and whether a value is shown. t and c are the borrowed
-- table and command, r the part given back.
use Rattle.std.specs.Prelude.{ℕ, ◌+◌, ◌≡◌, Bool, List, Option, Some, None}
use Rattle.std.specs.Borrow.{Bor}
use Rattle.model.specs.CurrentValue.{Shown, nothing, in_table, in_command, is_shown, shown_bytes}
use Rattle.current.specs.declared.Shown as code
use Rattle.current.specs.declared.Shown.TheVariants.{InTable, InCommand}

-- the model's value of an answer
abbrev pub model_shown : Option code.Shown → Shown
model_shown None = nothing
model_shown (Some (InTable a n)) = in_table a n
model_shown (Some (InCommand a n)) = in_command a n

-- where a part begins, given where table and command begin: a block of memory and a place in it
abbrev pub place_of : (table command : ℕ × ℕ) → Shown → ℕ × ℕ
place_of t c nothing = t
place_of t c (in_table a n) = (t.0, a + t.1)
place_of t c (in_command a n) = (c.0, a + c.1)

pub record Shows (t c : Bor (List ℕ)) (s : Shown) (r : Bor (List ℕ)) (told : Bool) : Type 0 where
  pub bytes : r.now ≡ shown_bytes t.now c.now s
  pub place : r.ref_ptr ≡ place_of t.ref_ptr c.ref_ptr s
  pub shown : told ≡ is_shown s
