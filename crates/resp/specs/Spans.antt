-- Where the words of a command stand in its bytes s, and how many there are.
use Rattle.std.specs.Prelude.{ℕ, ◌+◌, ◌-◌, ◌^◌, ◌≤◌, ◌<◌, ◌≡◌, Bool, true, List, [], length, take, get_or, set, Option, Some, None}
use Rattle.std.proofs.Math.Option as model
use Rattle.model.specs.Bytes.{part}
use Rattle.model.specs.Resp.{command_limit, word_limit, array_mark, line, bulks_bytes, decode}
use Rattle.model.specs.Parse.{word_at}
use Rattle.model.specs.CurrentValue.{word_start}
use Rattle.resp.specs.Words.{has_words}
use Rattle.resp.specs.declared.Span.{Span}
use Rattle.resp.specs.declared.Word.{Word}

-- the words of a command; none where the bytes are no command
unfoldable pub words_of : List ℕ → List (List ℕ)
words_of s = model.get_or (decode s) []

-- ---- spans

-- the bytes of a span of s
abbrev pub bytes_of : List ℕ → Span → List ℕ
bytes_of s w = part w.start (w.end - w.start) s

-- the span of word i of the command of the words ws
abbrev pub span_at : ℕ → List (List ℕ) → Span
span_at i ws = record { start = word_start i ws; end = word_start i ws + length (word_at i ws) }

-- an array of places: where word i begins stands at i, where it ends at 16 + i
abbrev pub span_in : List ℕ → ℕ → Span
span_in places i = record { start = get_or places i 0; end = get_or places (16 + i) 0 }

-- s is a command, and the array says for each of its words where it stands
pub record Splits (s places : List ℕ) : Type 0 where
  pub decoded : decode s ≡ model.some (words_of s)
  pub spans : (i : ℕ) → i < length (words_of s) → span_in places i ≡ span_at i (words_of s)

-- what the counting of the words of s answers, and the array that it leaves
pub record Counted (s places : List ℕ) (r : Option ℕ) : Type 0 where
  pub none : r ≡ None → decode s ≡ model.none
  pub some : {n : ℕ} → r ≡ Some n → Splits s places × (n ≡ length (words_of s))

-- ---- word by word

-- the place where word i of the command of the words ws begins, its length line included
unfoldable pub place_of : ℕ → List (List ℕ) → ℕ
place_of i ws = length (line array_mark (length ws)) + length (bulks_bytes (take i ws))

-- the first i words stand where the array says
abbrev pub Known : (places : List ℕ) → List (List ℕ) → (i : ℕ) → Type 0
Known places ws i = (j : ℕ) → j < i → span_in places j ≡ span_at j ws

-- if s is a command, it is one of n words, of which the first begins at `at`
pub record Begins (s : List ℕ) (at n : ℕ) : Type 0 where
  pub short : length s ≤ command_limit
  pub few : n ≤ word_limit
  pub words : (ws : List (List ℕ)) → decode s ≡ model.some ws → n ≡ length ws
  pub first : (ws : List (List ℕ)) → decode s ≡ model.some ws → at ≡ place_of 0 ws

-- a word that can be noted as word i
pub record Notes (w : Word) (i : ℕ) (places : List ℕ) : Type 0 where
  pub room : length places ≡ 32
  pub few : i < 16
  pub short : (w.start < 2 ^ 16) × (w.end < 2 ^ 16)

-- the array that the noting of a word leaves, and the place after the word
abbrev pub noted : Word → (i : ℕ) → List ℕ → List ℕ × ℕ
noted w i places = (set (set places i w.start) (16 + i) w.end, w.next)

-- what the reading of n words answers, and the array that it leaves
pub record WordsRead (s : List ℕ) (at n : ℕ) (places : List ℕ) (r : Bool) : Type 0 where
  pub whole : r ≡ has_words n s at
  pub known : r ≡ true → (ws : List (List ℕ)) → decode s ≡ model.some ws → Known places ws n
