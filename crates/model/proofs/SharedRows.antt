-- Rows of calls on shared tables in the manner of the bench sheet, each on a table of its own: the order of the tests, what each party can
-- reach, and current values. The bytes of the tables are written out.
use Prim.Native.Nat.{ℕ}
use Prim.Native.String.{String}
use mathlib.Core.Path.{◌≡◌}
use mathlib.Core.List.{List, [], ◌∷◌, ◌++◌, map}
use lib.ListN.{length, take, drop, replicate}
use Rattle.model.specs.Bytes.{text}
use Rattle.model.specs.Partition.{owner, installer, View, whole, shared_by}
use Rattle.model.specs.Resp.{encode}
use Rattle.model.specs.Call.{Outcome, SharedStore}
use Rattle.model.specs.CurrentValue.{Shown, nothing, in_table, in_command}
use Rattle.model.specs.BenchSheet.{zeros, buffer}
use Rattle.model.proofs.MoreRows.{small, cell}

-- ---- records, written out

-- a record without flags and expiry
abbrev held : (key : String) (version : ℕ) (value : String) → List ℕ
held k n v = cell 0 (small n) (small 0) (text k) (text v)

abbrev hole : List ℕ
hole = zeros 128

-- a record of no form
abbrev damaged : List ℕ
damaged = replicate 128 2

-- the owner's foo, then the installer's
abbrev two_foos : List ℕ
two_foos = held "foo" 1 "a" ++ held "foo" 7 "b"

abbrev foo_and_bar : List ℕ
foo_and_bar = held "foo" 1 "a" ++ held "bar" 7 "b"

abbrev foo_and_hole : List ℕ
foo_and_hole = held "foo" 1 "a" ++ hole

abbrev hole_and_bar : List ℕ
hole_and_bar = hole ++ held "bar" 7 "b"

-- foo twice, after bar or before it
abbrev bar_then_foos : List ℕ
bar_then_foos = held "bar" 1 "a" ++ (held "foo" 1 "a" ++ held "foo" 1 "a")

abbrev foos_then_bar : List ℕ
foos_then_bar = held "foo" 1 "a" ++ (held "foo" 1 "a" ++ held "bar" 1 "a")

-- ---- rows

pub record SharedCase : Type 0 where
  pub view : View
  pub table : List ℕ
  pub time : ℕ
  pub words : List (List ℕ)
  pub room : ℕ
  pub number : ℕ
  pub reply : String
  pub after : List ℕ

-- an answer or an error reply, at time 1000
abbrev answered : View → List ℕ → List String → ℕ → String → List ℕ → SharedCase
answered v t ws n r a = record { view = v; table = t; time = 1000; words = map text ws; room = 128; number = n; reply = r; after = a }

-- a refusal by 1 to 4 or 18
abbrev idle : View → List ℕ → (time : ℕ) → List String → (room number : ℕ) → SharedCase
idle v t now ws m n = record { view = v; table = t; time = now; words = map text ws; room = m; number = n; reply = ""; after = t }

-- the first time that is too late
abbrev late : ℕ
late = 4611686018427387905

abbrev pub shared_rows : List SharedCase
shared_rows =
    -- each party has a key foo of its own
    answered (shared_by owner 1) two_foos ("EXGET" ∷ "foo" ∷ []) 0 "*2\r\n$1\r\na\r\n:1\r\n" two_foos
    ∷ answered (shared_by installer 1) two_foos ("EXGET" ∷ "foo" ∷ []) 0 "*2\r\n$1\r\nb\r\n:7\r\n" two_foos
    ∷ answered (shared_by owner 1) two_foos ("EXSET" ∷ "foo" ∷ "c" ∷ []) 0 "+OK\r\n" (held "foo" 2 "c" ++ held "foo" 7 "b")
    ∷ answered (shared_by installer 1) two_foos ("EXCAD" ∷ "foo" ∷ "7" ∷ []) 0 ":1\r\n" foo_and_hole
    ∷ answered (shared_by owner 1) two_foos ("EXCAD" ∷ "foo" ∷ "7" ∷ []) 0 ":0\r\n" two_foos
    -- without a boundary they are equal keys
    ∷ idle whole two_foos 1000 ("EXGET" ∷ "foo" ∷ []) 128 1
    -- the other's key is absent
    ∷ answered (shared_by owner 1) foo_and_bar ("EXGET" ∷ "bar" ∷ []) 0 "$-1\r\n" foo_and_bar
    ∷ answered (shared_by installer 1) hole_and_bar ("EXSET" ∷ "foo" ∷ "c" ∷ "XX" ∷ []) 0 "$-1\r\n" hole_and_bar
    -- the other's free record is not taken
    ∷ answered (shared_by owner 1) foo_and_hole ("EXSET" ∷ "bar" ∷ "c" ∷ []) 17 "-ERR table is full\r\n" foo_and_hole
    ∷ answered (shared_by installer 1) hole_and_bar ("EXSET" ∷ "foo" ∷ "c" ∷ []) 17 "-ERR table is full\r\n" hole_and_bar
    ∷ answered (shared_by installer 2) (hole ++ (hole_and_bar ++ hole)) ("EXSET" ∷ "foo" ∷ "c" ∷ []) 0 "+OK\r\n" (hole ++ (hole_and_bar ++ held "foo" 1 "c"))
    ∷ answered whole (hole ++ (hole_and_bar ++ hole)) ("EXSET" ∷ "foo" ∷ "c" ∷ []) 0 "+OK\r\n" (held "foo" 1 "c" ++ (hole_and_bar ++ hole))
    -- a boundary of 0, at or past the record count; a table of one record has no good one
    ∷ idle (shared_by owner 0) foo_and_hole 1000 ("EXGET" ∷ "foo" ∷ []) 128 18
    ∷ idle (shared_by owner 2) foo_and_hole 1000 ("EXGET" ∷ "foo" ∷ []) 128 18
    ∷ idle (shared_by installer 0) foo_and_hole 1000 ("EXGET" ∷ "foo" ∷ []) 128 18
    ∷ idle (shared_by installer 900) foo_and_hole 1000 ("EXGET" ∷ "foo" ∷ []) 128 18
    ∷ idle (shared_by owner 1) (held "foo" 1 "a") 1000 ("EXGET" ∷ "foo" ∷ []) 128 18
    -- a damaged record of either part comes before the boundary, equal keys after it
    ∷ idle (shared_by owner 0) (held "foo" 1 "a" ++ damaged) 1000 ("EXGET" ∷ "foo" ∷ []) 128 1
    ∷ idle (shared_by owner 1) (held "foo" 1 "a" ++ damaged) 1000 ("EXGET" ∷ "foo" ∷ []) 128 1
    ∷ idle (shared_by owner 0) [] 1000 ("EXGET" ∷ "foo" ∷ []) 128 1
    ∷ idle (shared_by owner 3) bar_then_foos 1000 ("EXGET" ∷ "foo" ∷ []) 128 18
    -- equal keys in either part, whoever calls
    ∷ idle (shared_by owner 1) bar_then_foos 1000 ("EXGET" ∷ "bar" ∷ []) 128 1
    ∷ idle (shared_by installer 2) foos_then_bar 1000 ("EXGET" ∷ "bar" ∷ []) 128 1
    -- then time, reply buffer and command
    ∷ idle (shared_by owner 0) foo_and_hole late ("EXGET" ∷ "foo" ∷ []) 127 18
    ∷ idle (shared_by owner 1) bar_then_foos late ("EXGET" ∷ "bar" ∷ []) 127 1
    ∷ idle (shared_by owner 1) foo_and_hole late ("EXGET" ∷ "foo" ∷ []) 127 2
    ∷ idle (shared_by owner 1) foo_and_hole 1000 [] 127 3
    ∷ idle (shared_by owner 1) foo_and_hole 1000 [] 128 4
    ∷ []

abbrev shared_outcome : SharedCase → Outcome
shared_outcome c = record {
  number = c.number;
  length = length (text c.reply);
  reply = text c.reply ++ drop (length (text c.reply)) (take c.room buffer);
  table = c.after;
}

-- what a store gives back at each row is what the row expects
abbrev pub SharedPasses : SharedStore → List SharedCase → Type 0
SharedPasses s cs = map (λ c. s c.view c.table c.time (encode c.words) (take c.room buffer)) cs ≡ map shared_outcome cs

-- ---- current values

pub record SharedView : Type 0 where
  pub view : View
  pub table : List ℕ
  pub time : ℕ
  pub words : List (List ℕ)
  pub shown : Shown

abbrev shows : View → List ℕ → List String → Shown → SharedView
shows v t ws s = record { view = v; table = t; time = 1000; words = map text ws; shown = s }

-- a value begins at byte 48 of its record, the second record at byte 128, and word 2 of these commands at byte 28
abbrev pub shared_views : List SharedView
shared_views =
    shows (shared_by owner 1) two_foos ("EXGET" ∷ "foo" ∷ []) (in_table 48 1)
    ∷ shows (shared_by installer 1) two_foos ("EXGET" ∷ "foo" ∷ []) (in_table 176 1)
    ∷ shows (shared_by owner 2) (hole_and_bar ++ foo_and_bar) ("EXGET" ∷ "bar" ∷ []) (in_table 176 1)
    ∷ shows (shared_by installer 2) (hole_and_bar ++ foo_and_bar) ("EXGET" ∷ "bar" ∷ []) (in_table 432 1)
    ∷ shows whole foo_and_bar ("EXGET" ∷ "bar" ∷ []) (in_table 176 1)
    ∷ shows (shared_by installer 1) two_foos ("EXCAS" ∷ "foo" ∷ "cde" ∷ "7" ∷ []) (in_command 28 3)
    ∷ shows (shared_by owner 1) two_foos ("EXCAS" ∷ "foo" ∷ "cde" ∷ "7" ∷ []) (in_table 48 1)
    -- the other's key, equal keys without a boundary, a bad boundary, equal keys of the other
    ∷ shows (shared_by owner 1) foo_and_bar ("EXGET" ∷ "bar" ∷ []) nothing
    ∷ shows (shared_by installer 1) foo_and_bar ("EXGET" ∷ "foo" ∷ []) nothing
    ∷ shows whole two_foos ("EXGET" ∷ "foo" ∷ []) nothing
    ∷ shows (shared_by owner 0) foo_and_bar ("EXGET" ∷ "foo" ∷ []) nothing
    ∷ shows (shared_by installer 2) foo_and_bar ("EXGET" ∷ "bar" ∷ []) nothing
    ∷ shows (shared_by owner 1) bar_then_foos ("EXGET" ∷ "bar" ∷ []) nothing
    ∷ []
