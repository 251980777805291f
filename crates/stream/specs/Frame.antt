-- Where the bytes of a command so far stand in its frame, byte by byte, and how many bytes a whole command still needs from there.
use Rattle.std.specs.Prelude.{ℕ, zero, suc, ◌+◌, ◌-◌, ◌*◌, Bool, true, false, cond, ◌&&◌, not, List, [], ◌∷◌, length, leb, eqb}
use Rattle.std.proofs.Math.Option.{Option, none, some}
use Rattle.model.specs.Optional.{◌>>=◌}
use Rattle.model.specs.Number.{is_digit}
use Rattle.model.specs.Resp.{command_limit, word_limit, array_mark, bulk_mark}

-- the line of an array, or that of a bulk string with so many words after it
pub data Header : Type 0 where
  array : Header
  bulk : (later : ℕ) → Header

-- what comes next
pub data Place : Type 0 where
  -- the array's mark
  start : Place
  -- the first digit of a header's number
  first : Header → Place
  -- one more digit, or the CR of the line, after digits that mean n
  digit : Header → (n : ℕ) → Place
  -- the LF of a header's line
  line_end : Header → (n : ℕ) → Place
  -- n bytes of a word, then its CR
  body : (n later : ℕ) → Place
  -- the LF after a word
  body_end : (later : ℕ) → Place
  -- so many words, and nothing after them
  words : ℕ → Place

-- the place after a whole command
abbrev pub end : Place
end = words 0

-- an array has 1 to 16 words
abbrev pub allowed : Header → ℕ → Bool
allowed array n = leb 1 n && leb n word_limit
allowed (bulk later) n = true

-- what a header's line stands before
abbrev pub after : Header → ℕ → Place
after array n = words n
after (bulk later) n = body n later

-- the place p if the test passes
abbrev pub to : Bool → Place → Option Place
to b p = cond b (some p) none

-- the place after the byte c, the limit of 512 bytes aside; none if no command of any length has that byte there
abbrev pub next : Place → ℕ → Option Place
next start c = to (eqb c array_mark) (first array)
next (first h) c = to (is_digit c && allowed h (c - 48)) (digit h (c - 48))
next (digit h n) c = cond (eqb c 13) (some (line_end h n)) (to (is_digit c && (not (eqb n 0) && allowed h (10 * n + (c - 48)))) (digit h (10 * n + (c - 48))))
next (line_end h n) c = to (eqb c 10) (after h n)
next (body zero later) c = to (eqb c 13) (body_end later)
next (body (suc n) later) c = some (body n later)
next (body_end later) c = to (eqb c 10) (words later)
next (words zero) c = none
next (words (suc later)) c = to (eqb c bulk_mark) (first (bulk later))

-- the place after the bytes s
abbrev pub walk : Place → List ℕ → Option Place
walk p [] = some p
walk p (c ∷ s) = next p c >>= λ q. walk q s

-- the least number that a header can have
abbrev pub least : Header → ℕ
least array = 1
least (bulk later) = 0

-- the bytes that a whole command needs at least after a header's line; a word needs 6: `$0` CR LF CR LF
abbrev pub need_after : Header → ℕ → ℕ
need_after array n = 6 * n
need_after (bulk later) n = n + 2 + 6 * later

-- the bytes that a whole command still needs at least
abbrev pub need : Place → ℕ
need start = 10
need (first h) = 3 + need_after h (least h)
need (digit h n) = 2 + need_after h n
need (line_end h n) = 1 + need_after h n
need (body n later) = need_after (bulk later) n
need (body_end later) = 1 + 6 * later
need (words n) = need_after array n

-- whether a whole command can follow n bytes that stand at a place
abbrev pub fits : ℕ → Place → Bool
fits n p = leb (n + need p) command_limit

abbrev pub can_from : ℕ → Option Place → Bool
can_from n none = false
can_from n (some p) = fits n p

-- whether the bytes s are a beginning of a whole command, or one themselves: decides `Can` (Feed)
unfoldable pub viable : List ℕ → Bool
viable s = can_from (length s) (walk start s)
