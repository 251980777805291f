-- Reading and writing a field one byte at a time, at most nine for a field of 64 bits.
use Rattle.std.specs.Prelude.{ℕ, ◌+◌, ◌-◌, ◌*◌, ◌/◌, ◌%◌, ◌^◌, min}

-- of `left` bits from bit `from` of a byte on, how many are in that byte
abbrev pub taken : (from left : ℕ) → ℕ
taken from left = min (8 - from) left

-- t bits of a byte, above its low l
abbrev pub bits_above : (t l byte : ℕ) → ℕ
bits_above t l b = b / 2 ^ l % 2 ^ t

-- a byte with the t bits above its low l replaced by x
abbrev pub patched : (t l x byte : ℕ) → ℕ
patched t l x b = b / 2 ^ (t + l) * 2 ^ (t + l) + (x * 2 ^ l + b % 2 ^ l)
