-- The hash of a key. Nothing rests on how keys are spread.
use Rattle.std.specs.Prelude.{ℕ, ◌+◌, ◌*◌, ◌/◌, ◌%◌, ◌^◌, List}
use Rattle.model.specs.Bytes.{part, from_little_endian}

-- the number in the 8 bytes at a place
abbrev pub word_at : (at : ℕ) → List ℕ → ℕ
word_at at s = from_little_endian (part at 8 s)

-- nine times x and one word more, modulo 2^64
unfoldable pub with_word : (x word : ℕ) → ℕ
with_word x w = (9 * x + w) % 2 ^ 64

-- three words made one, and the sum of its halves times a factor, of which the low 24 bits are dropped
unfoldable pub mixed : (a b c : ℕ) → ℕ
mixed a b c =
    let all = with_word (with_word a b) c in
    (all % 2 ^ 32 + all / 2 ^ 32) * 1688876449 / 2 ^ 24

-- the hash of a key with the zeros after it, 24 bytes
abbrev pub hash_of : List ℕ → ℕ
hash_of s = mixed (word_at 0 s) (word_at 8 s) (word_at 16 s)
