-- What a call with a piece promises: what the code gives back, as the model has it.
use Rattle.std.specs.Prelude.{ℕ, ◌≡◌, List, length}
use Rattle.std.proofs.Math.Option.{Option, none, some}
use Rattle.model.specs.Call.{Store}
use Rattle.stream.specs.Feed.{Given, Result}
use Rattle.stream.specs.Assembler.{feed_in, bytes_after, feeding_in}
use Rattle.feed.specs.declared.Progress.{Progress}
use Rattle.feed.specs.declared.Progress.TheVariants.{More, Answered}

-- how many bytes of a piece of n are taken
abbrev pub taken_of : (n : ℕ) → Progress → ℕ
taken_of n (More held) = n
taken_of n (Answered taken a) = taken

-- how many bytes are held
abbrev pub held_of : Progress → ℕ
held_of (More held) = held
held_of (Answered taken a) = 0

-- document 01's number; none for "more"
abbrev pub number_of : Progress → Option ℕ
number_of (More held) = none
number_of (Answered taken a) = some a.number

-- the reply's length
abbrev pub length_of : Progress → ℕ
length_of (More held) = 0
length_of (Answered taken a) = a.len

-- what is told beside the number, and all bytes then: the result is o, and the assembler's bytes are `kept`
pub record Gives (o : Result) (kept : List ℕ) (taken held len : ℕ) (bytes table reply : List ℕ) : Type 0 where
  pub taken_is : taken ≡ o.taken
  pub held-is : held ≡ length o.held
  pub len_is : len ≡ o.length
  pub bytes-are : bytes ≡ kept
  pub table_is : table ≡ o.table
  pub reply-is : reply ≡ o.reply

-- the answer f and all bytes are those of the call over the store s, with an assembler b that holds n bytes
abbrev pub Feeds : Store → (b : List ℕ) (n : ℕ) → Given → Progress → (bytes table reply : List ℕ) → Type 0
Feeds s b n g f bytes table reply =
    (number_of f ≡ (feeding_in s b n g).number)
    × Gives (feeding_in s b n g) (bytes_after b n (feed_in b n g.piece)) (taken_of (length g.piece) f) (held_of f) (length_of f) bytes table reply

-- what a call is given besides the assembler
abbrev pub inputs : (piece table : List ℕ) (now : ℕ) (reply : List ℕ) → Given
inputs p t now b = record { piece = p; table = t; now = now; reply = b }
