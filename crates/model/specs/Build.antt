-- Building a command in RESP2 word by word: its first line says how many words it has, and each word is added behind what is there.
use Rattle.std.specs.Prelude.{ℕ, zero, suc, cond, ◌&&◌, List, [], ◌∷◌, ◌++◌, length, take, drop, leb}
use Rattle.std.proofs.Math.Option.{Option, none, some}
use Rattle.model.specs.Optional.{◌>>=◌}
use Rattle.model.specs.Resp.{command_limit, word_limit, array_mark, line, bulk_bytes, read_line, read_bulk}

-- the bytes s, where there are at most n
abbrev pub up_to : ℕ → List ℕ → Option (List ℕ)
up_to n s = cond (leb (length s) n) (some s) none

-- a command of n words, 1 to 16, as it begins: its first line
unfoldable pub begin : ℕ → Option (List ℕ)
begin n = cond (leb 1 n && leb n word_limit) (some (line array_mark n)) none

-- how many of n words are left to add, where the bulk strings s are there
abbrev pub bulks_left : (n : ℕ) → List ℕ → Option ℕ
bulks_left zero [] = some zero
bulks_left zero (c ∷ s) = none
bulks_left (suc n) [] = some (suc n)
bulks_left (suc n) (c ∷ s) = do
  w ← read_bulk (c ∷ s)
  bulks_left n w.rest

-- how many words are left to add to a command that is begun; none where s is no such command
unfoldable pub words_left : List ℕ → Option ℕ
words_left s = do
  l ← read_line array_mark s
  cond (leb 1 l.value && leb l.value word_limit) (bulks_left l.value l.rest) none

-- a command that is begun and lacks a word, with the word w added
unfoldable pub add_word : (s w : List ℕ) → Option (List ℕ)
add_word s w = do
  n ← words_left s
  cond (leb 1 n) (up_to command_limit (s ++ bulk_bytes w)) none

abbrev pub add_words : List ℕ → List (List ℕ) → Option (List ℕ)
add_words s [] = some s
add_words s (w ∷ ws) = do
  t ← add_word s w
  add_words t ws

-- the command of the words ws
abbrev pub build : List (List ℕ) → Option (List ℕ)
build ws = do
  s ← begin (length ws)
  add_words s ws

-- ---- in a borrowed buffer b

-- the buffer with a command at its front, and the command's length; where there is none, the buffer as it was and 0
abbrev pub placed : (b : List ℕ) → Option (List ℕ) → List ℕ × ℕ
placed b none = (b, 0)
placed b (some s) = (s ++ drop (length s) b, length s)

-- the first n bytes
abbrev pub front : ℕ → List ℕ → Option (List ℕ)
front n b = cond (leb n (length b)) (some (take n b)) none

-- the buffer with a command of n words begun, and its length
unfoldable pub begin_in : (b : List ℕ) (n : ℕ) → List ℕ × ℕ
begin_in b n = placed b (begin n >>= up_to (length b))

-- the buffer with the word w added to the command that its first len bytes begin, and the length then
unfoldable pub add_word_in : (b : List ℕ) (len : ℕ) (w : List ℕ) → List ℕ × ℕ
add_word_in b len w =
    placed b
    (do
      s ← front len b
      t ← add_word s w
      up_to (length b) t)

abbrev pub add_words_in : List ℕ × ℕ → List (List ℕ) → List ℕ × ℕ
add_words_in r [] = r
add_words_in r (w ∷ ws) = add_words_in (add_word_in r.0 r.1 w) ws

-- the buffer after the calls that build the command of the words ws, and the length that the last one gives
abbrev pub build_in : (b : List ℕ) → List (List ℕ) → List ℕ × ℕ
build_in b ws = add_words_in (begin_in b (length ws)) ws
