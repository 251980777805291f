-- An assembler (the papers' holder): a borrowed buffer b, whose first n bytes are held between calls.
use Rattle.std.specs.Prelude.{ℕ, ◌+◌, Bool, cond, ◌&&◌, List, [], ◌∷◌, ◌++◌, length, take, drop, leb, eqb}
use Rattle.model.specs.Resp.{command_limit}
use Rattle.model.specs.Call.{Store}
use Rattle.stream.specs.Feed.{Fed, more, complete, refused, feed, Given, Result, result_of}

-- whether the buffer has room for a command, and n bytes
abbrev pub holds : (b : List ℕ) (n : ℕ) → Bool
holds b n = leb command_limit (length b) && leb n (length b)

-- what a piece comes to; a buffer of fewer than 512 bytes, or of fewer than n, cannot have come from a call
unfoldable pub feed_in : (b : List ℕ) (n : ℕ) (piece : List ℕ) → Fed
feed_in b n piece = cond (holds b n) (feed (take n b) piece) (refused 0)

-- bytes at the front of the buffer, and its old bytes past them
abbrev pub placed : (b s : List ℕ) → List ℕ
placed b s = s ++ drop (length s) b

-- the buffer then: the bytes taken are put behind those held, unless the command is a part of the piece; a refusal changes nothing
abbrev pub bytes_after : (b : List ℕ) (n : ℕ) → Fed → List ℕ
bytes_after b n (more held) = placed b held
bytes_after b n (complete m c) = cond (eqb n 0) b (placed b c)
bytes_after b n (refused m) = b

-- the command that m bytes of a piece make whole: a part of the piece where nothing was held before it, else the front of the buffer
abbrev pub command_in : (b : List ℕ) (n : ℕ) (piece : List ℕ) (m : ℕ) → List ℕ
command_in b n piece m = cond (eqb n 0) (take m piece) (take (n + m) b)

-- the meaning of a call with an assembler, over any store; what is held then stands at the front of `bytes_after`
abbrev pub feeding_in : Store → (b : List ℕ) (n : ℕ) → Given → Result
feeding_in s b n g = result_of s g (feed_in b n g.piece)

-- the results of calls in a row with one assembler, each with the buffer and the count that the one before it left
abbrev pub results_in : Store → (b : List ℕ) (n : ℕ) → List Given → List Result
results_in s b n [] = []
results_in s b n (g ∷ gs) = feeding_in s b n g ∷ results_in s (bytes_after b n (feed_in b n g.piece)) (length (feeding_in s b n g).held) gs
