-- A command that comes a few bytes at a time: what is held between calls, and what a call with one more piece gives back.
use Rattle.std.specs.Prelude.{ℕ, zero, suc, ◌≤◌, ◌<◌, ◌≡◌, Bool, cond, ◌&&◌, not, List, [], ◌∷◌, ◌++◌, length, take}
use Rattle.std.proofs.Math.Option.{Option, none, some}
use Rattle.model.specs.Optional.{is_some}
use Rattle.model.specs.Resp.{decode}
use Rattle.model.specs.Call.{Outcome, Store, untouched}
use Rattle.stream.specs.Frame.{viable}

-- ---- beginnings of commands, by meaning

-- a whole command, and its words
pub record Whole (s : List ℕ) : Type 0 where
  pub words : List (List ℕ)
  pub reads : decode s ≡ some words

-- a whole command can follow: some bytes make these a whole command
pub record Can (s : List ℕ) : Type 0 where
  pub rest : List ℕ
  pub whole : Whole (s ++ rest)

-- a beginning of a whole command, and not all of it
pub record Proper (s : List ℕ) : Type 0 where
  pub can : Can s
  pub unfinished : Whole s → ⊥

-- ---- the same as tests

unfoldable pub whole : List ℕ → Bool
whole s = is_some (decode s)

-- what may be held between calls (the papers' holder): a proper beginning; nothing at all is one too
abbrev pub holdable : List ℕ → Bool
holdable s = viable s && not (whole s)

-- ---- taking a piece

-- what a piece comes to
pub data Fed : Type 0 where
  -- no whole command yet: all bytes are taken, and these are held
  more : (held : List ℕ) → Fed
  -- so many bytes are taken, and they make this command whole
  complete : (taken : ℕ) (command : List ℕ) → Fed
  -- so many bytes are taken, and no whole command can follow; 0: what is held cannot have come from a call
  refused : (taken : ℕ) → Fed

-- the same with one byte more taken before
abbrev pub further : Fed → Fed
further (more held) = more held
further (complete n c) = complete (suc n) c
further (refused n) = refused (suc n)

-- the bytes of a piece, one at a time
abbrev pub take_bytes : (held piece : List ℕ) → Fed
take_bytes held [] = more held
take_bytes held (c ∷ piece) =
    let now = held ++ (c ∷ []) in
    let onward = further (take_bytes now piece) in
    cond (whole now) (complete 1 now) (cond (viable now) onward (refused 1))

-- what cannot have come to be held is refused before any byte is taken
unfoldable pub feed : (held piece : List ℕ) → Fed
feed held piece = let fed = take_bytes held piece in cond (holdable held) fed (refused 0)

-- ---- what that has to be, by meaning

-- no whole command yet: all bytes are taken, and these are held
pub record Waits (held piece new : List ℕ) : Type 0 where
  pub from : Proper held
  pub bytes : new ≡ held ++ piece
  pub proper : Proper new

-- n bytes of the piece make a whole command
pub record Completes (held piece : List ℕ) (n : ℕ) (command : List ℕ) : Type 0 where
  pub from : Proper held
  pub least : 1 ≤ n
  pub most : n ≤ length piece
  pub bytes : command ≡ held ++ take n piece
  pub whole : Whole command

-- after n bytes of the piece a whole command can follow, after the next no more
pub record Dies (held piece : List ℕ) (n : ℕ) : Type 0 where
  pub from : Proper held
  pub within : n < length piece
  pub proper : Proper (held ++ take n piece)
  pub dead : Can (held ++ take (suc n) piece) → ⊥

-- the request, of what a piece comes to; `refused 0` is for what cannot have come to be held
abbrev pub Right : (held piece : List ℕ) → Fed → Type 0
Right held piece (more new) = Waits held piece new
Right held piece (complete n c) = Completes held piece n c
Right held piece (refused zero) = Proper held → ⊥
Right held piece (refused (suc n)) = Dies held piece n

-- ---- the call

-- what a call is given besides what is held
pub record Given : Type 0 where
  pub piece : List ℕ
  pub table : List ℕ
  pub now : ℕ
  pub reply : List ℕ

-- what a call gives back: how many bytes of the piece it took, what is held now, document 01's number (none for "more"), the reply's
-- length, and all bytes of the reply buffer and of the table
pub record Result : Type 0 where
  pub taken : ℕ
  pub held : List ℕ
  pub number : Option ℕ
  pub length : ℕ
  pub reply : List ℕ
  pub table : List ℕ

-- a feeder is any function from what a call is given to what it gives back
abbrev pub Feeder : Type 0
Feeder = (held : List ℕ) → Given → Result

-- "more": reply buffer and table keep what they held
abbrev pub waits : (held : List ℕ) → Given → Result
waits held g = record { taken = length g.piece; held = held; number = none; length = 0; reply = g.reply; table = g.table }

-- an outcome after so many bytes; nothing is held any more
abbrev pub ends : ℕ → Outcome → Result
ends n o = record { taken = n; held = []; number = some o.number; length = o.length; reply = o.reply; table = o.table }

-- a whole command is carried out on the table, time and reply buffer of its last piece; they are not looked at before
abbrev pub result_of : Store → Given → Fed → Result
result_of s g (more held) = waits held g
result_of s g (complete n c) = ends n (s g.table g.now c g.reply)
result_of s g (refused n) = ends n (untouched 4 g.table g.reply)

-- the meaning of a call with a piece, over any store
abbrev pub feeding : Store → Feeder
feeding s held g = result_of s g (feed held g.piece)

-- the request, of a feeder over a store
abbrev pub Serves : Store → Feeder → Type 0
Serves s f = (held : List ℕ) (g : Given) (x : Fed) → Right held g.piece x → f held g ≡ result_of s g x

-- ---- calls in a row

-- the results of calls in a row, each with what the one before it left held
abbrev pub results : Feeder → (held : List ℕ) → List Given → List Result
results f held [] = []
results f held (g ∷ gs) = f held g ∷ results f (f held g).held gs

-- the bytes of all pieces
abbrev pub joined : List Given → List ℕ
joined [] = []
joined (g ∷ gs) = g.piece ++ joined gs

-- "more" at every call, all bytes held
abbrev pub waiting : (held : List ℕ) → List Given → List Result
waiting held [] = []
waiting held (g ∷ gs) = waits (held ++ g.piece) g ∷ waiting (held ++ g.piece) gs

-- calls whose pieces make up the command c: `last` brings its last byte, those after it bring none
pub record Cut (gs : List Given) (c : List ℕ) : Type 0 where
  pub before : List Given
  pub last : Given
  pub after : List Given
  pub calls : gs ≡ before ++ (last ∷ after)
  pub bytes : joined before ++ last.piece ≡ c
  pub some_byte : last.piece ≡ [] → ⊥
  pub no_byte : joined after ≡ []

-- one whole command cut anywhere, nothing held before: "more" until the call that brings its last byte; that call's results are those of
-- the undivided call on its own table, time and reply buffer, all its bytes taken and nothing held; "more" again at calls without a byte
abbrev pub Undivided : Store → Feeder → Type 0
Undivided s f =
    (c : List ℕ) → Whole c → (gs : List Given) → joined gs ≡ c
    → (k : Cut gs c)
    × (results f [] gs ≡ waiting [] k.before ++ (ends (length k.last.piece) (s k.last.table k.last.now c k.last.reply) ∷ waiting [] k.after))
