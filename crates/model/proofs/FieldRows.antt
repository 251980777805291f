-- Rows of BITFIELD in the manner of the bench sheet, each on a table of its own at time 1000: document 02's rules, the order of the refusals,
-- and the session of source document 002. Those of OVERFLOW stand in OverflowRows.
use Prim.Native.Nat.{ℕ}
use Prim.Native.String.{String}
use mathlib.Core.Bool.{cond}
use mathlib.Core.List.{List, [], ◌∷◌, ◌++◌, map}
use lib.ListN.{replicate}
use lib.Dec.{eqb}
use Rattle.model.specs.Bytes.{text}
use Rattle.model.specs.BenchSheet.{zeros}
use Rattle.model.proofs.MoreRows.{small, top, cell, Case}

-- ---- words and records, written out

abbrev begun : ℕ → List (List ℕ) → List (List ℕ)
begun c [] = (c ∷ []) ∷ []
begun c (w ∷ ws) = (c ∷ w) ∷ ws

-- the words of a text, a space between two
abbrev pub spaced : List ℕ → List (List ℕ)
spaced [] = [] ∷ []
spaced (c ∷ s) = cond (eqb c 32) ([] ∷ spaced s) (begun c (spaced s))

-- foo without flags and expiry, with both, with the largest version, and expired at time 1000
abbrev pub held : (version : ℕ) (value : List ℕ) → List ℕ
held n v = cell 0 (small n) (small 0) (text "foo") v

abbrev timed : (version : ℕ) (value : List ℕ) → List ℕ
timed n v = cell 7 (small n) (small 3000) (text "foo") v

abbrev at_top : List ℕ
at_top = cell 0 top (small 0) (text "foo") (18 ∷ [])

abbrev expired : List ℕ
expired = cell 7 (small 9) (small 1000) (text "foo") (255 ∷ [])

-- another key's record
abbrev bar : List ℕ
bar = cell 7 (small 9) (small 0) (text "bar") (1 ∷ [])

-- ---- rows

abbrev pub comes : (table : List ℕ) → (command : String) → (number : ℕ) → (reply : String) → (after : List ℕ) → Case
comes t c n r a = record { table = t; time = 1000; words = spaced (text c); number = n; reply = r; after = a }

-- BITFIELD foo with these subcommands
abbrev on_foo : (table : List ℕ) → (subcommands : String) → (number : ℕ) → (reply : String) → (after : List ℕ) → Case
on_foo t c n r a = record { table = t; time = 1000; words = text "BITFIELD" ∷ text "foo" ∷ spaced (text c); number = n; reply = r; after = a }

-- foo has version 4 and a value: another one is written, or nothing
abbrev pub writes : (value : List ℕ) → (subcommands reply : String) → (after : List ℕ) → Case
writes v c r u = on_foo (held 4 v) c 0 r (held 5 u)

abbrev pub reads : (value : List ℕ) → (subcommands reply : String) → Case
reads v c r = on_foo (held 4 v) c 0 r (held 4 v)

abbrev wrong_words : (subcommands : String) → Case
wrong_words c = on_foo (held 4 (18 ∷ [])) c 8 "-ERR syntax error\r\n" (held 4 (18 ∷ []))

abbrev pub wrong_number : (subcommands : String) → Case
wrong_number c = on_foo (held 4 (18 ∷ [])) c 9 "-ERR value is not an integer or out of range\r\n" (held 4 (18 ∷ []))

abbrev too_far : (subcommands : String) → Case
too_far c = on_foo (held 4 (18 ∷ [])) c 16 "-ERR string exceeds maximum allowed size\r\n" (held 4 (18 ∷ []))

-- ---- each subcommand, several in a row, and none

abbrev subcommands : List Case
subcommands =
    reads (18 ∷ 52 ∷ []) "GET u8 0 GET i4 4 GET u4 6 GET u4 12" "*4\r\n:18\r\n:2\r\n:8\r\n:4\r\n"
    ∷ reads (255 ∷ []) "GET u8 0 GET i8 0 GET i16 0 GET u16 4" "*4\r\n:255\r\n:-1\r\n:-256\r\n:61440\r\n"
    ∷ reads (128 ∷ zeros 7) "GET i64 0 GET i64 0 GET i64 0 GET i64 0" "*4\r\n:-9223372036854775808\r\n:-9223372036854775808\r\n:-9223372036854775808\r\n:-9223372036854775808\r\n"
    ∷ writes (18 ∷ 52 ∷ []) "SET u8 0 255" "*1\r\n:18\r\n" (255 ∷ 52 ∷ [])
    ∷ writes (18 ∷ 52 ∷ []) "SET i5 2 -1" "*1\r\n:9\r\n" (62 ∷ 52 ∷ [])
    ∷ writes (18 ∷ 52 ∷ []) "INCRBY u8 8 10" "*1\r\n:62\r\n" (18 ∷ 62 ∷ [])
    ∷ writes (18 ∷ 52 ∷ []) "INCRBY i8 0 -20" "*1\r\n:-2\r\n" (254 ∷ 52 ∷ [])
    ∷ comes (held 4 (18 ∷ 52 ∷ [])) "bitfield foo get u8 0 sEt u8 8 1 incrby u8 8 2 overflow wrap" 0 "*3\r\n:18\r\n:52\r\n:3\r\n" (held 5 (18 ∷ 3 ∷ []))
    ∷ writes (18 ∷ 52 ∷ []) "SET u8 0 7 INCRBY u8 0 1 GET u8 0 GET u4 4" "*4\r\n:18\r\n:8\r\n:8\r\n:8\r\n" (8 ∷ 52 ∷ [])
    ∷ writes (18 ∷ 52 ∷ []) "SET u8 0 255 SET i8 0 -128 SET u8 8 0" "*3\r\n:18\r\n:-1\r\n:52\r\n" (128 ∷ 0 ∷ [])
    ∷ reads (18 ∷ []) "OVERFLOW SAT" "*0\r\n"
    ∷ comes (held 4 (18 ∷ [])) "BITFIELD foo" 0 "*0\r\n" (held 4 (18 ∷ []))
    ∷ comes (zeros 128) "BITFIELD foo" 0 "*0\r\n" (zeros 128)
    ∷ on_foo (zeros 128) "OVERFLOW SAT OVERFLOW FAIL" 0 "*0\r\n" (zeros 128)
    ∷ []

-- ---- offsets, and test 16

abbrev offsets : List Case
offsets =
    writes (replicate 9 255) "SET i64 1 -81985529216486896 GET i64 1" "*2\r\n:-1\r\n:-81985529216486896\r\n" (255 ∷ 110 ∷ 93 ∷ 76 ∷ 59 ∷ 42 ∷ 25 ∷ 8 ∷ 127 ∷ [])
    ∷ writes [] "SET u8 504 1" "*1\r\n:0\r\n" (zeros 63 ++ (1 ∷ []))
    ∷ writes (7 ∷ []) "INCRBY u1 511 1" "*1\r\n:1\r\n" (7 ∷ (zeros 62 ++ (1 ∷ [])))
    ∷ writes [] "SET i64 448 -1" "*1\r\n:0\r\n" (zeros 56 ++ replicate 8 255)
    ∷ reads (replicate 64 255) "GET u8 505 GET i8 505 GET u8 512" "*3\r\n:254\r\n:-2\r\n:0\r\n"
    ∷ reads (255 ∷ []) "GET i64 8 GET u8 4294967295 GET i64 #4294967295" "*3\r\n:0\r\n:0\r\n:0\r\n"
    ∷ writes (1 ∷ []) "SET u8 #3 9 GET u8 24 GET u8 #3" "*3\r\n:0\r\n:9\r\n:9\r\n" (1 ∷ 0 ∷ 0 ∷ 9 ∷ [])
    ∷ writes (1 ∷ []) "SET u5 #3 31 INCRBY u8 #0 1" "*2\r\n:0\r\n:2\r\n" (2 ∷ 1 ∷ 240 ∷ [])
    ∷ writes (1 ∷ []) "SET u8 #63 2" "*1\r\n:0\r\n" (1 ∷ (zeros 62 ++ (2 ∷ [])))
    ∷ map too_far ("SET u8 505 1" ∷ "SET u1 512 1" ∷ "SET u8 #64 2" ∷ "SET u8 #4294967295 2" ∷ "INCRBY u8 505 1" ∷ "INCRBY u8 4294967295 2"
    ∷ "OVERFLOW FAIL INCRBY u8 505 -1" ∷ "SET u8 0 1 GET u8 0 INCRBY i64 449 0" ∷ [])

-- ---- what is written: growth, version, flags and expiry, and the record of an absent key

abbrev changes : List Case
changes =
    writes (1 ∷ []) "SET u4 20 15" "*1\r\n:0\r\n" (1 ∷ 0 ∷ 15 ∷ [])
    ∷ writes (1 ∷ []) "SET u4 16 15" "*1\r\n:0\r\n" (1 ∷ 0 ∷ 240 ∷ [])
    ∷ writes (1 ∷ []) "SET u8 8 0" "*1\r\n:0\r\n" (1 ∷ 0 ∷ [])
    ∷ writes (1 ∷ []) "SET u8 0 1" "*1\r\n:1\r\n" (1 ∷ [])
    ∷ writes (1 ∷ []) "INCRBY u8 8 0" "*1\r\n:0\r\n" (1 ∷ 0 ∷ [])
    ∷ writes (1 ∷ []) "OVERFLOW FAIL INCRBY u8 0 0" "*1\r\n:1\r\n" (1 ∷ [])
    ∷ reads (1 ∷ []) "OVERFLOW FAIL INCRBY u8 40 -1" "*1\r\n$-1\r\n"
    ∷ writes (1 ∷ []) "OVERFLOW FAIL INCRBY u8 40 -1 SET u8 8 7" "*2\r\n$-1\r\n:0\r\n" (1 ∷ 7 ∷ [])
    ∷ writes (1 ∷ []) "SET u8 8 7 OVERFLOW FAIL INCRBY u8 40 -1" "*2\r\n:0\r\n$-1\r\n" (1 ∷ 7 ∷ [])
    ∷ on_foo (timed 4 (1 ∷ [])) "INCRBY u8 0 1" 0 "*1\r\n:2\r\n" (timed 5 (2 ∷ []))
    ∷ on_foo (timed 4 (1 ∷ [])) "GET u8 0" 0 "*1\r\n:1\r\n" (timed 4 (1 ∷ []))
    ∷ on_foo expired "GET u8 0" 0 "*1\r\n:0\r\n" expired
    ∷ on_foo expired "INCRBY u4 0 1" 0 "*1\r\n:1\r\n" (held 1 (16 ∷ []))
    ∷ on_foo (zeros 128) "GET u8 0 OVERFLOW FAIL INCRBY u8 0 -1" 0 "*2\r\n:0\r\n$-1\r\n" (zeros 128)
    ∷ on_foo (zeros 128) "SET u8 8 5" 0 "*1\r\n:0\r\n" (held 1 (0 ∷ 5 ∷ []))
    ∷ on_foo (bar ++ zeros 128) "INCRBY i8 0 -1" 0 "*1\r\n:-1\r\n" (bar ++ held 1 (255 ∷ []))
    ∷ on_foo (bar ++ held 4 (1 ∷ [])) "INCRBY i8 0 -1" 0 "*1\r\n:0\r\n" (bar ++ held 5 (0 ∷ []))
    ∷ on_foo bar "SET u8 0 1" 17 "-ERR table is full\r\n" bar
    ∷ on_foo bar "INCRBY u8 0 0" 17 "-ERR table is full\r\n" bar
    ∷ on_foo bar "GET u8 0" 0 "*1\r\n:0\r\n" bar
    ∷ on_foo bar "OVERFLOW FAIL INCRBY u8 0 -1" 0 "*1\r\n$-1\r\n" bar
    ∷ []

-- ---- refusals

-- which of two tests comes first, where both would refuse, and tests 15 and 17 where nothing is written
abbrev order : List Case
order =
    comes bar "BITFIELD" 6 "-ERR wrong number of arguments\r\n" bar
    ∷ comes bar "BITFIELD  NOPE" 7 "-ERR string exceeds maximum allowed size\r\n" bar
    ∷ comes bar "BITFIELD abcdefghijklmnopqrstuvwxy NOPE" 7 "-ERR string exceeds maximum allowed size\r\n" bar
    ∷ comes bar "BITFIELD abcdefghijklmnopqrstuvwx GET u8 0" 0 "*1\r\n:0\r\n" bar
    ∷ wrong_words "SET u8 0 256 GET u8"
    ∷ wrong_words "GET u64 0 OVERFLOW NOPE"
    ∷ wrong_number "SET u8 505 1 GET u64 0"
    ∷ wrong_number "SET u8 505 256"
    ∷ on_foo at_top "SET u8 0 1 SET u8 505 1" 16 "-ERR string exceeds maximum allowed size\r\n" at_top
    ∷ on_foo at_top "SET u8 0 1" 15 "-ERR version would overflow\r\n" at_top
    ∷ on_foo at_top "OVERFLOW FAIL INCRBY u8 0 -19 INCRBY u8 0 0" 15 "-ERR version would overflow\r\n" at_top
    ∷ on_foo at_top "GET u8 0 OVERFLOW FAIL INCRBY u8 0 -19" 0 "*2\r\n:18\r\n$-1\r\n" at_top
    ∷ on_foo bar "SET u8 505 1" 16 "-ERR string exceeds maximum allowed size\r\n" bar
    ∷ []

-- a subcommand takes the words after it as its own, also if they spell another; a word of 65 bytes after the key is no value, so it is 8 and not 7
abbrev own_words : List Case
own_words =
    map wrong_number ("GET GET u8" ∷ "SET SET u8 0" ∷ [])
    ++ map wrong_words ("NOPE u8 0" ∷ "OVERFLOW NOPE INCRBY u8 0 1" ∷ "OVERFLOW GET u8 0" ∷ "GET u8 GET u8 0" ∷ "OVERFLOW" ∷ "GET" ∷ "GET u8" ∷ "SET u8 0" ∷ "INCRBY u8 0"
    ∷ "aaaaaaaaaaaaaaaaaaaaaaaaaaaaaaaaaaaaaaaaaaaaaaaaaaaaaaaaaaaaaaaaa" ∷ [])

-- types, offsets and numbers, and the last of each that is taken
abbrev numbers : List Case
numbers =
    reads (18 ∷ []) "GET i64 0 GET u63 0 GET i1 7 GET u1 6" "*4\r\n:1297036692682702848\r\n:648518346341351424\r\n:0\r\n:1\r\n"
    ∷ writes (18 ∷ []) "SET u8 0 255 SET i8 0 127 SET i8 0 -128" "*3\r\n:18\r\n:-1\r\n:127\r\n" (128 ∷ [])
    ∷ writes (18 ∷ []) "INCRBY u8 0 9223372036854775807 INCRBY u8 0 -9223372036854775808" "*2\r\n:17\r\n:17\r\n" (17 ∷ [])
    ∷ map wrong_number ("GET u64 0" ∷ "GET i65 0" ∷ "GET u0 0" ∷ "GET i0 0" ∷ "GET U8 0" ∷ "GET I8 0" ∷ "GET u08 0" ∷ "GET u+8 0" ∷ "GET u-8 0" ∷ "GET u 0" ∷ "GET 8 0" ∷ "GET  0"
    ∷ "GET u8 4294967296" ∷ "GET u8 #4294967296" ∷ "GET u8 -1" ∷ "GET u8 #-1" ∷ "GET u8 ##1" ∷ "GET u8 #" ∷ "GET u8 "
    ∷ "SET u8 0 256" ∷ "SET u8 0 -1" ∷ "SET i8 0 128" ∷ "SET i8 0 -129" ∷ "SET i1 0 1" ∷ "SET u63 0 9223372036854775808" ∷ "SET u8 0 1x"
    ∷ "INCRBY u8 0 9223372036854775808" ∷ "INCRBY u8 0 -9223372036854775809" ∷ [])

-- ---- source document 002

-- mykey with this byte 12, which holds bits 96 to 103
abbrev mykey : (version : ℕ) (byte : ℕ) → List ℕ
mykey n b = cell 0 (small n) (small 0) (text "mykey") (zeros 12 ++ (b ∷ []))

-- its session, each call on the table that the one before left; then what it tells of i8, where it has 127 for -128 and 1 more
abbrev session : List Case
session =
    comes (zeros 128) "BITFIELD mykey incrby u2 100 1 OVERFLOW SAT incrby u2 102 1" 0 "*2\r\n:1\r\n:1\r\n" (mykey 1 5)
    ∷ comes (mykey 1 5) "BITFIELD mykey incrby u2 100 1 OVERFLOW SAT incrby u2 102 1" 0 "*2\r\n:2\r\n:2\r\n" (mykey 2 10)
    ∷ comes (mykey 2 10) "BITFIELD mykey incrby u2 100 1 OVERFLOW SAT incrby u2 102 1" 0 "*2\r\n:3\r\n:3\r\n" (mykey 3 15)
    ∷ comes (mykey 3 15) "BITFIELD mykey incrby u2 100 1 OVERFLOW SAT incrby u2 102 1" 0 "*2\r\n:0\r\n:3\r\n" (mykey 4 3)
    ∷ writes (127 ∷ []) "INCRBY i8 0 1 INCRBY i8 0 1" "*2\r\n:-128\r\n:-127\r\n" (129 ∷ [])
    ∷ writes (120 ∷ []) "OVERFLOW SAT INCRBY i8 0 10 INCRBY i8 0 10" "*2\r\n:127\r\n:127\r\n" (127 ∷ [])
    ∷ []

-- ---- all of them

abbrev pub field_rows : List Case
field_rows = subcommands ++ (offsets ++ (changes ++ (order ++ (own_words ++ (numbers ++ session)))))
