-- How long a command's first line and a word's bulk string are.
use Prim.Native.Nat.{ℕ, ◌+◌, ◌≤◌}
use native.Mathlib.Omega.{arith}
use mathlib.Core.Path.{◌≡◌}
use mathlib.Core.List.{List}
use lib.ListN.{length, length-append}
use Rattle.model.specs.Number.{nat_text}
use Rattle.model.specs.Resp.{command_limit, array_mark, line, bulk_bytes}
use Rattle.model.proofs.Numbers.{length-nat_text}

pub line-length : (n : ℕ) → length (line array_mark n) ≡ length (nat_text n) + 3
line-length n = simp length-append (omega arith)

module _ (w : List ℕ) where
  pub bulk-length : length (bulk_bytes w) ≡ length (nat_text (length w)) + length w + 5
  bulk-length = simp length-append (omega arith)

  -- a length within the limit has at most 3 digits
  pub few-digits : length w ≤ command_limit → length (nat_text (length w)) ≤ 3
  few-digits h = length-nat_text 2 (length w) (omega arith)
