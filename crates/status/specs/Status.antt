-- What an answer comes to at the command line, by its number, and what a comparison of two tables does.
use Rattle.std.specs.Prelude.{ℕ, ◌≡◌, Bool, cond, ◌&&◌, not, List, leb, eqb}
use Rattle.model.specs.Bytes.{same}

-- whether a file with the bytes `old` is to be written: the call was answered, and the file lacks what the table holds
abbrev pub to_write : ℕ → (old table : List ℕ) → Bool
to_write n old t = eqb n 0 && not (same old t)

-- 0 where the command was answered, 1 where it was answered by an error reply, 2 where there is no reply
abbrev pub status_of : ℕ → ℕ
status_of n = cond (eqb n 0) 0 (cond (leb 5 n && leb n 17) 1 2)

-- the same where the reply was written; where it was not, 3 if the table changed and 2 if it did not
abbrev pub told_status : (written changed : Bool) → ℕ → ℕ
told_status written changed n = cond written (status_of n) (cond changed 3 2)

-- of a stream of commands: the highest of theirs, where those before the next one came to `before`
abbrev pub status_after : (before next : ℕ) → ℕ
status_after before next = cond (leb before next) next before

-- whether a stream goes on after a command with a status: each command so far has its reply
abbrev pub open_after : ℕ → Bool
open_after status = leb status 1

-- of two tables, each good or not, told in `len` bytes: 0 where they hold the same, 1 where they differ, 2 where one is no good table
abbrev pub status_between : (first second : Bool) (len : ℕ) → ℕ
status_between first second len = cond (first && second) (cond (eqb len 0) 0 1) 2

-- r is the exit status of a comparison that was told in `len` bytes, whether they were written or not
pub record Compared (first second : Bool) (len r : ℕ) : Type 0 where
  pub written : Bool
  pub status : r ≡ cond written (status_between first second len) 2

-- r is the exit status of an answer with the number n, whether its reply was written or not
pub record Told (changed : Bool) (n r : ℕ) : Type 0 where
  pub written : Bool
  pub status : r ≡ told_status written changed n
