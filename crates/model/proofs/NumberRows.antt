-- Rows of document 02's E7 at time 1000: numbers with a plus, a minus before 0 or extra zeros, and texts that are none, in each place where a
-- number is read. Document 01's own `-0` and `007` stand among its "Also" lines in MoreRows.
use Prim.Native.Nat.{ℕ}
use Prim.Native.String.{String}
use mathlib.Core.List.{List, [], ◌∷◌, ◌++◌, map}
use Rattle.model.specs.Bytes.{text}
use Rattle.model.specs.BenchSheet.{zeros}
use Rattle.model.proofs.MoreRows.{small, cell, Case, case}
use Rattle.model.proofs.FieldRows.{held, comes, reads, writes, wrong_number}

-- ---- EXINCRBY, by the word and by the text that foo holds

-- the sum is told and stored in the short form
abbrev counts : (stored word sum : String) (reply : String) → Case
counts v w z r = case (held 4 (text v)) 1000 ("EXINCRBY" ∷ "foo" ∷ w ∷ []) 0 r (held 5 (text z))

-- a word that is no number
abbrev no_word : String → Case
no_word w = case (held 4 (text "1")) 1000 ("EXINCRBY" ∷ "foo" ∷ w ∷ []) 9 "-ERR value is not an integer or out of range\r\n" (held 4 (text "1"))

-- a stored text that is none
abbrev no_text : String → Case
no_text v = case (held 4 (text v)) 1000 ("EXINCRBY" ∷ "foo" ∷ "1" ∷ []) 13 "-ERR stored value is not an integer\r\n" (held 4 (text v))

-- no byte, a sign alone, two, or one after; a blank, a letter or a byte beside the digits; 21 digits; numbers that do not fit, of which
-- 18446744073709551621 is 5 more than 2^64
abbrev not_numbers : List String
not_numbers =
    "" ∷ "+" ∷ "-" ∷ "+-5" ∷ "-+5" ∷ "++5" ∷ "--5" ∷ "5+" ∷ "+ 5" ∷ " 5" ∷ "+x" ∷ "5:" ∷ "/5" ∷ "000000000000000000005" ∷ "+000000000000000000005" ∷ "-000000000000000000005"
    ∷ "99999999999999999999" ∷ "-99999999999999999999" ∷ "18446744073709551621" ∷ "+18446744073709551621" ∷ "-18446744073709551621"
    ∷ "09223372036854775808" ∷ "+9223372036854775808" ∷ "-09223372036854775809" ∷ []

abbrev sums : List Case
sums =
    counts "1" "+5" "6" ":6\r\n"
    ∷ counts "1" "007" "8" ":8\r\n"
    ∷ counts "1" "-0" "1" ":1\r\n"
    ∷ counts "1" "-007" "-6" ":-6\r\n"
    ∷ counts "1" "00000000000000000005" "6" ":6\r\n"
    ∷ counts "1" "+00000000000000000005" "6" ":6\r\n"
    ∷ counts "1" "-00000000000000000005" "-4" ":-4\r\n"
    ∷ counts "0" "+09223372036854775807" "9223372036854775807" ":9223372036854775807\r\n"
    ∷ counts "0" "-09223372036854775808" "-9223372036854775808" ":-9223372036854775808\r\n"
    ∷ counts "007" "1" "8" ":8\r\n"
    ∷ counts "+5" "-0" "5" ":5\r\n"
    ∷ counts "-0" "0" "0" ":0\r\n"
    ∷ counts "-007" "+7" "0" ":0\r\n"
    ∷ counts "+00000000000000000005" "1" "6" ":6\r\n"
    ∷ counts "-09223372036854775808" "0" "-9223372036854775808" ":-9223372036854775808\r\n"
    ∷ map no_word not_numbers ++ map no_text not_numbers

-- ---- the other number words

-- foo has version 4 and the value 5
abbrev five : List ℕ
five = held 4 (text "5")

-- twenty-one digits after an option
abbrev no_option : String → Case
no_option w = case five 1000 ("EXSET" ∷ "foo" ∷ "b" ∷ w ∷ "+000000000000000000004" ∷ []) 9 "-ERR value is not an integer or out of range\r\n" five

abbrev words : List Case
words =
    comes five "EXSET foo b EX -0" 10 "-ERR invalid expire time\r\n" five
    ∷ comes five "EXSET foo b PX +0" 10 "-ERR invalid expire time\r\n" five
    ∷ comes five "EXSET foo b EXAT 000" 10 "-ERR invalid expire time\r\n" five
    ∷ comes five "EXSET foo b PXAT -05" 10 "-ERR invalid expire time\r\n" five
    ∷ comes five "EXSET foo b EX +" 9 "-ERR value is not an integer or out of range\r\n" five
    ∷ comes five "EXSET foo b EX +02 FLAGS +007 VER 004" 0 "+OK\r\n" (cell 7 (small 5) (small 3000) (text "foo") (text "b"))
    ∷ comes five "EXSET foo b PX 00000000000000000002 FLAGS -0 ABS +09" 0 "+OK\r\n" (cell 0 (small 9) (small 1002) (text "foo") (text "b"))
    ∷ comes five "EXSET foo b VER -0" 12 "-ERR update version is stale\r\n" five
    ∷ comes five "EXSET foo b ABS -01" 9 "-ERR value is not an integer or out of range\r\n" five
    ∷ comes five "EXSET foo b FLAGS 04294967296" 9 "-ERR value is not an integer or out of range\r\n" five
    ∷ comes five "EXSET foo b VER 000000000000000000004" 9 "-ERR value is not an integer or out of range\r\n" five
    ∷ comes five "EXINCRBY foo +1 MIN 006 MAX +6" 0 ":6\r\n" (held 5 (text "6"))
    ∷ comes five "EXINCRBY foo 1 MIN -0 MAX +-6" 9 "-ERR value is not an integer or out of range\r\n" five
    ∷ comes five "EXSETVER foo +009" 0 ":1\r\n" (held 9 (text "5"))
    ∷ comes five "EXCAS foo 007 +4" 0 "*3\r\n+OK\r\n+\r\n:5\r\n" (held 5 (text "007"))
    ∷ comes five "EXCAS foo 6 -0" 0 "*3\r\n+ERR update version is stale\r\n$1\r\n5\r\n:4\r\n" five
    ∷ comes five "EXCAD foo 00000000000000000004" 0 ":1\r\n" (zeros 128)
    ∷ comes five "EXGAE foo EXAT +003" 0 "*3\r\n$1\r\n5\r\n:4\r\n:0\r\n" (cell 0 (small 4) (small 3000) (text "foo") (text "5"))
    -- a sign and twenty digits in each place
    ∷ comes five "EXSET foo b EX +00000000000000000002 FLAGS +00000000000000000007 VER +00000000000000000004" 0 "+OK\r\n" (cell 7 (small 5) (small 3000) (text "foo") (text "b"))
    ∷ comes five "EXINCRBY foo 1 MIN -00000000000000000006 MAX +00000000000000000006" 0 ":6\r\n" (held 5 (text "6"))
    ∷ comes five "EXSETVER foo +00000000000000000009" 0 ":1\r\n" (held 9 (text "5"))
    ∷ comes five "EXINCRBY foo 1 MAX 000000000000000000009" 9 "-ERR value is not an integer or out of range\r\n" five
    ∷ comes five "EXSETVER foo 000000000000000000009" 9 "-ERR value is not an integer or out of range\r\n" five
    ∷ map no_option ("EX" ∷ "FLAGS" ∷ "ABS" ∷ [])

-- ---- BITFIELD's offsets, also after #, and its numbers; types stay strict

abbrev fields : List Case
fields =
    reads (18 ∷ []) "GET u8 +0 GET u8 -0 GET u8 000 GET u8 #-0" "*4\r\n:18\r\n:18\r\n:18\r\n:18\r\n"
    ∷ reads (0 ∷ 0 ∷ 0 ∷ 0 ∷ 0 ∷ 18 ∷ 0 ∷ 19 ∷ []) "GET u8 #+5 GET u8 #007 GET u8 +40 GET u8 #00000000000000000005" "*4\r\n:18\r\n:19\r\n:18\r\n:18\r\n"
    ∷ reads (0 ∷ 18 ∷ []) "GET u8 00000000000000000008 GET u8 +00000000000000000008 GET u8 #+00000000000000000001" "*3\r\n:18\r\n:18\r\n:18\r\n"
    ∷ writes (18 ∷ []) "SET u8 0 +00000000000000000007 INCRBY u8 0 -00000000000000000001" "*2\r\n:18\r\n:6\r\n" (6 ∷ [])
    ∷ writes (18 ∷ []) "SET u8 0 +007 INCRBY u8 -0 -001 INCRBY u8 #00 +2" "*3\r\n:18\r\n:6\r\n:8\r\n" (8 ∷ [])
    ∷ map wrong_number ("GET u8 +#5" ∷ "GET u8 #" ∷ "GET u8 #+" ∷ "GET u8 #+-5" ∷ "GET u8 #-01" ∷ "GET u8 000000000000000000000" ∷ "GET u8 #000000000000000000000"
    ∷ "GET u8 04294967296" ∷ "GET u8 18446744073709551616" ∷ "SET u8 0 +0256" ∷ "SET u8 0 -01" ∷ "INCRBY u8 0 +" ∷ "INCRBY u8 0 000000000000000000001" ∷ "SET u8 0 000000000000000000001"
    ∷ "GET +u8 0" ∷ "GET u+8 0" ∷ "GET u08 0" ∷ "GET i-0 0" ∷ [])

abbrev pub number_rows : List Case
number_rows = sums ++ (words ++ fields)
