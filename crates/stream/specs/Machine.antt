-- `feed` with each byte looked at once: a small state goes from byte to byte.
use Rattle.std.specs.Prelude.{ℕ, zero, suc, ◌+◌, Bool, true, false, cond, List, [], ◌∷◌, ◌++◌, take}
use Rattle.std.proofs.Math.Option.{Option, none, some}
use Rattle.model.specs.Optional.{◌>>=◌}
use Rattle.stream.specs.Frame.{Place, start, first, digit, line_end, body, body_end, words, next, fits}
use Rattle.stream.specs.Feed.{Fed, more, complete, refused}

-- what comes next, after so many bytes
pub record State : Type 0 where
  pub place : Place
  pub used : ℕ

abbrev pub at : Place → ℕ → State
at p n = record { place = p; used = n }

-- the state before the first byte
abbrev pub begin : State
begin = at start 0

-- the state after the byte c; none if no whole command can follow
unfoldable pub step : State → ℕ → Option State
step st c = do
  p ← next st.place c
  cond (fits (suc st.used) p) (some (at p (suc st.used))) none

-- whether the command is whole
abbrev pub is_end : Place → Bool
is_end start = false
is_end (first h) = false
is_end (digit h n) = false
is_end (line_end h n) = false
is_end (body n later) = false
is_end (body_end later) = false
is_end (words zero) = true
is_end (words (suc n)) = false

-- what bytes come to
pub data Scan : Type 0 where
  -- no whole command yet
  going : (st : State) → Scan
  -- a whole command after so many of them
  ended : (n : ℕ) → Scan
  -- after so many no whole command can follow
  dead : (n : ℕ) → Scan

-- the same with n bytes more before them
abbrev pub behind : ℕ → Scan → Scan
behind n (going st) = going st
behind n (ended m) = ended (n + m)
behind n (dead m) = dead (n + m)

-- what one byte comes to; k tells of those after it
abbrev pub by_step : Option State → (State → Scan) → Scan
by_step none k = dead 1
by_step (some st) k = let onward = behind 1 (k st) in cond (is_end st.place) (ended 1) onward

-- the bytes from a state on
abbrev pub scan : State → List ℕ → Scan
scan st [] = going st
scan st (c ∷ s) = by_step (step st c) (λ q. scan q s)

-- what the bytes of a piece come to, behind those held
abbrev pub fed_by : (held piece : List ℕ) → Scan → Fed
fed_by held piece (going st) = more (held ++ piece)
fed_by held piece (ended n) = complete n (held ++ take n piece)
fed_by held piece (dead n) = refused n

-- the bytes held come first; they are no proper beginning unless they leave a state
abbrev pub after_held : (held piece : List ℕ) → Scan → Fed
after_held held piece (going st) = fed_by held piece (scan st piece)
after_held held piece (ended n) = refused 0
after_held held piece (dead n) = refused 0

-- is `feed` (`feed_by_scan-feed`, proofs/Steps)
abbrev pub feed_by_scan : (held piece : List ℕ) → Fed
feed_by_scan held piece = after_held held piece (scan begin held)
