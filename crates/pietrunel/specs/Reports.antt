-- What the C function for a piece promises: the result of the model's call with an assembler, by numbers and bytes.
use Rattle.std.specs.Prelude.{ℕ, ◌≡◌, List}
use Rattle.std.proofs.Math.Option.{Option, none, some}
use Rattle.model.specs.Call.{Store}
use Rattle.stream.specs.Feed.{Given}
use Rattle.stream.specs.Assembler.{feed_in, bytes_after, feeding_in}
use Rattle.feed.specs.Feeds.{Gives}

-- document 01's number, or 100 for "more", which no call of the store gives
abbrev pub code_of : Option ℕ → ℕ
code_of none = 100
code_of (some n) = n

-- what is given back and all bytes are those of the call over the store s, with an assembler b that holds n bytes
abbrev pub Reports : Store → (b : List ℕ) (n : ℕ) → Given → (number taken held len : ℕ) (bytes table reply : List ℕ) → Type 0
Reports s b n g number taken held len bytes table reply =
    (number ≡ code_of (feeding_in s b n g).number) × Gives (feeding_in s b n g) (bytes_after b n (feed_in b n g.piece)) taken held len bytes table reply
