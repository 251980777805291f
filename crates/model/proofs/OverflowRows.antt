-- Rows of BITFIELD's OVERFLOW, in the manner of FieldRows.
use Prim.Native.Nat.{ℕ}
use mathlib.Core.Bool.{true, false}
use mathlib.Core.List.{List, [], ◌∷◌, ◌++◌}
use mathlib.Core.Option.{none, some}
use lib.ListN.{replicate}
use lib.IntN.{pos}
use Rattle.model.specs.Bytes.{text}
use Rattle.model.specs.Field.{Field}
use Rattle.model.specs.Overflow.{sat, fail}
use Rattle.model.specs.Bitfield.{Sub, incrby, Ran}
use Rattle.model.specs.BenchSheet.{zeros}
use Rattle.model.proofs.MoreRows.{Case}
use Rattle.model.proofs.FieldRows.{spaced, writes, reads}

-- ---- the ends of the types in each mode

-- the greatest and the least number of i64 at bit 0
abbrev most : List ℕ
most = 127 ∷ replicate 7 255

abbrev least : List ℕ
least = 128 ∷ zeros 7

-- those of u63, the bit after the field being 1
abbrev ones : List ℕ
ones = replicate 8 255

abbrev last_one : List ℕ
last_one = zeros 7 ++ (1 ∷ [])

abbrev ends : List Case
ends =
    writes most "INCRBY i64 0 1" "*1\r\n:-9223372036854775808\r\n" least
    ∷ writes most "OVERFLOW SAT INCRBY i64 0 1" "*1\r\n:9223372036854775807\r\n" most
    ∷ reads most "OVERFLOW FAIL INCRBY i64 0 1" "*1\r\n$-1\r\n"
    ∷ writes least "INCRBY i64 0 -1" "*1\r\n:9223372036854775807\r\n" most
    ∷ writes least "OVERFLOW SAT INCRBY i64 0 -1" "*1\r\n:-9223372036854775808\r\n" least
    ∷ reads least "OVERFLOW FAIL INCRBY i64 0 -1" "*1\r\n$-1\r\n"
    ∷ writes most "INCRBY i64 0 9223372036854775807" "*1\r\n:-2\r\n" (replicate 7 255 ++ (254 ∷ []))
    ∷ writes least "INCRBY i64 0 -9223372036854775808" "*1\r\n:0\r\n" (zeros 8)
    ∷ writes least "OVERFLOW FAIL INCRBY i64 0 9223372036854775807" "*1\r\n:-1\r\n" ones
    ∷ writes ones "INCRBY u63 0 1" "*1\r\n:0\r\n" last_one
    ∷ writes ones "OVERFLOW SAT INCRBY u63 0 1" "*1\r\n:9223372036854775807\r\n" ones
    ∷ reads ones "OVERFLOW FAIL INCRBY u63 0 1" "*1\r\n$-1\r\n"
    ∷ writes last_one "INCRBY u63 0 -1" "*1\r\n:9223372036854775807\r\n" ones
    ∷ writes last_one "OVERFLOW SAT INCRBY u63 0 -1" "*1\r\n:0\r\n" last_one
    ∷ reads last_one "OVERFLOW FAIL INCRBY u63 0 -1" "*1\r\n$-1\r\n"
    ∷ writes ones "OVERFLOW SAT INCRBY u63 0 9223372036854775807 INCRBY u63 0 -9223372036854775808" "*2\r\n:9223372036854775807\r\n:0\r\n" last_one
    ∷ writes (127 ∷ []) "INCRBY i8 0 1" "*1\r\n:-128\r\n" (128 ∷ [])
    ∷ writes (127 ∷ []) "OVERFLOW SAT INCRBY i8 0 1" "*1\r\n:127\r\n" (127 ∷ [])
    ∷ reads (127 ∷ []) "OVERFLOW FAIL INCRBY i8 0 1" "*1\r\n$-1\r\n"
    ∷ writes (128 ∷ []) "OVERFLOW WRAP INCRBY i8 0 -1" "*1\r\n:127\r\n" (127 ∷ [])
    ∷ writes (128 ∷ []) "OVERFLOW SAT INCRBY i8 0 -1" "*1\r\n:-128\r\n" (128 ∷ [])
    ∷ reads (128 ∷ []) "OVERFLOW FAIL INCRBY i8 0 -1" "*1\r\n$-1\r\n"
    ∷ reads (128 ∷ []) "GET i1 0 GET u1 0 GET i1 1 GET u1 1" "*4\r\n:-1\r\n:1\r\n:0\r\n:0\r\n"
    ∷ writes (128 ∷ []) "INCRBY i1 0 1 INCRBY i1 0 1 INCRBY i1 0 -1" "*3\r\n:0\r\n:-1\r\n:0\r\n" (0 ∷ [])
    ∷ writes (128 ∷ []) "OVERFLOW SAT INCRBY i1 0 -1 INCRBY i1 1 1 INCRBY i1 0 1" "*3\r\n:-1\r\n:0\r\n:0\r\n" (0 ∷ [])
    ∷ reads (128 ∷ []) "OVERFLOW FAIL INCRBY i1 0 -1 INCRBY i1 1 1" "*2\r\n$-1\r\n$-1\r\n"
    ∷ writes (128 ∷ []) "SET i1 1 -1 SET i1 0 0" "*2\r\n:0\r\n:-1\r\n" (64 ∷ [])
    ∷ writes (128 ∷ []) "INCRBY u1 0 1 INCRBY u1 1 -1" "*2\r\n:0\r\n:1\r\n" (64 ∷ [])
    ∷ writes (128 ∷ []) "OVERFLOW SAT INCRBY u1 0 1 INCRBY u1 1 -1" "*2\r\n:1\r\n:0\r\n" (128 ∷ [])
    ∷ reads (128 ∷ []) "OVERFLOW FAIL INCRBY u1 0 1 INCRBY u1 1 -1" "*2\r\n$-1\r\n$-1\r\n"
    ∷ []

-- ---- which INCRBY a mode holds for

abbrev modes : List Case
modes =
    writes (0 ∷ []) "INCRBY u2 0 5 OVERFLOW SAT INCRBY u2 2 5 INCRBY u2 4 5" "*3\r\n:1\r\n:3\r\n:3\r\n" (124 ∷ [])
    ∷ writes (0 ∷ []) "OVERFLOW FAIL INCRBY u2 0 5 OVERFLOW SAT INCRBY u2 2 5" "*2\r\n$-1\r\n:3\r\n" (48 ∷ [])
    ∷ writes (0 ∷ []) "OVERFLOW SAT INCRBY u2 0 5 OVERFLOW WRAP INCRBY u2 2 5" "*2\r\n:3\r\n:1\r\n" (208 ∷ [])
    ∷ writes (0 ∷ []) "OVERFLOW SAT GET u2 0 SET u2 2 2 INCRBY u2 2 5" "*3\r\n:0\r\n:0\r\n:3\r\n" (48 ∷ [])
    ∷ writes (0 ∷ []) "OVERFLOW FAIL OVERFLOW WRAP INCRBY u2 0 5" "*1\r\n:1\r\n" (64 ∷ [])
    ∷ []

-- A mode that holds for two INCRBY and is changed for a third takes 18 words, and a command has at most 16: so these are the words after the
-- key, the subcommands that they give, and what those come to on an empty value.
abbrev pub mode_words : List (List ℕ)
mode_words = spaced (text "OVERFLOW SAT INCRBY u2 0 5 INCRBY u2 2 5 OVERFLOW FAIL INCRBY u2 4 5")

abbrev u2_at : (offset : ℕ) → Field
u2_at at = record { type = record { signed = false; width = 2 }; offset = at }

abbrev pub mode_subs : List Sub
mode_subs = incrby (u2_at 0) sat (pos 5) ∷ incrby (u2_at 2) sat (pos 5) ∷ incrby (u2_at 4) fail (pos 5) ∷ []

abbrev pub mode_ran : Ran
mode_ran = record { value = 240 ∷ []; results = some (pos 3) ∷ some (pos 3) ∷ none ∷ []; wrote = true }

-- ---- all of them

abbrev pub overflow_rows : List Case
overflow_rows = ends ++ modes
