-- Bytes as they stand between quotes: a backslash and a letter, or \x and two hexadecimal digits, for a byte that does not print.
use Rattle.std.specs.Prelude.{ℕ, ◌+◌, ◌/◌, ◌%◌, Bool, cond, ◌&&◌, Option, None, Some, List, [], ◌∷◌, flat_map, leb, ltb, eqb}

-- the letter of a byte that has one of its own: " \ \n \r \t \a \b
unfoldable pub letter : ℕ → Option ℕ
letter b =
    cond (eqb b 34) (Some 34) (cond (eqb b 92) (Some 92) (cond (eqb b 10) (Some 110) (cond (eqb b 13) (Some 114) (cond (eqb b 9) (Some 116) (cond (eqb b 7) (Some 97) (cond (eqb b 8) (Some 98) None))))))

-- the ASCII bytes from the blank to the tilde
abbrev pub prints : ℕ → Bool
prints b = leb 32 b && leb b 126

-- a hexadecimal digit: 0 to 9, then a to f
abbrev pub hex_digit : ℕ → ℕ
hex_digit d = cond (ltb d 10) (48 + d) (87 + d)

-- a byte without a letter of its own
abbrev pub plain : ℕ → List ℕ
plain b = cond (prints b) (b ∷ []) (92 ∷ 120 ∷ hex_digit (b / 16) ∷ hex_digit (b % 16) ∷ [])

-- a byte by its letter, or without one
abbrev pub escaped_by : Option ℕ → ℕ → List ℕ
escaped_by (Some c) b = 92 ∷ c ∷ []
escaped_by None b = plain b

unfoldable pub escaped : ℕ → List ℕ
escaped b = escaped_by (letter b) b

abbrev pub escaped_all : List ℕ → List ℕ
escaped_all s = flat_map escaped s
