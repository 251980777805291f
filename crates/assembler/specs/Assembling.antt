-- What a piece comes to, as the model has it, and what `assemble` promises.
use Rattle.std.specs.Prelude.{ℕ, ◌≤◌, ◌≡◌, List, ◌++◌, length, take}
use Rattle.model.specs.Resp.{command_limit}
use Rattle.stream.specs.Feed.{Fed, more, complete, refused}
use Rattle.stream.specs.Machine.{begin, going, scan}
use Rattle.stream.specs.Assembler.{feed_in, bytes_after}
use Rattle.assembler.specs.States.{state_of}
use Rattle.assembler.specs.declared.state.State.{State}
use Rattle.assembler.specs.declared.Assembled.{Assembled}
use Rattle.assembler.specs.declared.Assembled.TheVariants.{More, Whole, Refused}

-- the bytes held, s, and the piece are the caller's
abbrev pub fed_of : (s piece : List ℕ) → Assembled → Fed
fed_of s piece More = more (s ++ piece)
fed_of s piece (Whole n) = complete n (s ++ take n piece)
fed_of s piece (Refused n) = refused n

-- the first n bytes of the buffer b leave this state, and there is room for a command
pub record Begun (b : List ℕ) (n : ℕ) (st : State) : Type 0 where
  pub room : command_limit ≤ length b
  pub held : n ≤ length b
  pub state : scan begin (take n b) ≡ going (state_of st)

-- the answer a and the buffer, from b to `new`, are the model's
pub record Assembles (b : List ℕ) (n : ℕ) (piece : List ℕ) (a : Assembled) (new : List ℕ) : Type 0 where
  pub fed : fed_of (take n b) piece a ≡ feed_in b n piece
  pub bytes : new ≡ bytes_after b n (feed_in b n piece)
