-- What the reader of a command answers, by the model's definitions: it gives places in the bytes s where the model gives the bytes left.
use Rattle.std.specs.Prelude.{ℕ, ◌-◌, Bool, cond, List, length, drop, get_or, leb, Option, Some, None}
use Rattle.std.proofs.Math.Option as model
use Rattle.model.specs.Optional.{is_some}
use Rattle.model.specs.Number.{is_digit}
use Rattle.model.specs.Resp.{command_limit, Taken, skip_line_end, read_line, read_bulk, read_bulks}
use Rattle.resp.specs.declared.Line.{Line}
use Rattle.resp.specs.declared.Word.{Word}

-- ---- lines

-- a line's number with the place after the line
abbrev pub number_to : (value next : ℕ) → Option Line
number_to value next = Some (record { value = value; next = next })

-- a number with the place after it; a number above 512 can be no length and no count
abbrev pub limited : (next : ℕ) → model.Option ℕ → Option Line
limited next model.none = None
limited next (model.some n) = cond (leb n command_limit) (number_to n next) None

-- the digit at a place
unfoldable pub digit_at : List ℕ → ℕ → Option ℕ
digit_at s at = let c = get_or s at 0 in cond (is_digit c) (Some (c - 48)) None

-- whether CR LF stands at the front
unfoldable pub ends_line : List ℕ → Bool
ends_line s = is_some (skip_line_end s)

-- a line that was read in n bytes; the place after it is that of the bytes left
abbrev pub line_of : ℕ → model.Option (Taken ℕ) → Option Line
line_of n model.none = None
line_of n (model.some t) = limited (n - length t.rest) (model.some t.value)

-- the line with a mark at a place
unfoldable pub line_from : (mark : ℕ) → List ℕ → (at : ℕ) → Option Line
line_from mark s at = line_of (length s) (read_line mark (drop at s))

-- ---- words

-- a word's bytes end where its CR LF begins
abbrev pub word_to : (next : ℕ) → List ℕ → Option Word
word_to next w = Some (record { start = next - 2 - length w; end = next - 2; next = next })

-- a word that was read in n bytes
abbrev pub word_of : ℕ → model.Option (Taken (List ℕ)) → Option Word
word_of n model.none = None
word_of n (model.some t) = word_to (n - length t.rest) t.value

-- the bulk string at a place
unfoldable pub word_from : List ℕ → (at : ℕ) → Option Word
word_from s at = word_of (length s) (read_bulk (drop at s))

-- whether there are n bulk strings from a place on, and nothing after them
unfoldable pub has_words : (n : ℕ) → List ℕ → (at : ℕ) → Bool
has_words n s at = is_some (read_bulks n (drop at s))
