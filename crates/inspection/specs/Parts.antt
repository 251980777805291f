-- The parts of a table that two parties share.
use Rattle.std.specs.Prelude.{ℕ, cond, ltb}

-- the first slot of the part that a slot is in: the owner's slots begin at 0, the installer's at the boundary
abbrev pub part_start : (slot boundary : ℕ) → ℕ
part_start slot boundary = cond (ltb slot boundary) 0 boundary
