-- Which bytes a whole command can follow, and what pieces come to, on bytes written out.
use Prim.Native.Nat.{ℕ, ◌-◌}
use mathlib.Core.Path.{◌≡◌, refl}
use mathlib.Core.Bool.{true, ◌&&◌, not}
use mathlib.Core.List.{List, [], ◌∷◌, ◌++◌, map}
use mathlib.Core.Option.{none, some}
use lib.ListN.{replicate, length, take}
use Rattle.model.specs.Bytes.{text, all}
use Rattle.model.proofs.Compute.{computing}
use Rattle.stream.specs.Frame.{viable}
use Rattle.model.specs.Call.{Store}
use Rattle.stream.specs.Feed.{whole, feed, Fed, more, complete, refused, Given, feeding}
use Rattle.stream.specs.Stream.{flat}

-- the definitions to open where bytes are walked or fed by computation
unfoldable pub walking : Unit {0}
unfolding computing viable whole feed
walking = tt

-- n empty words
empties : ℕ → List ℕ
unfolding walking
empties n = flat (replicate n (text "$0\r\n\r\n"))

-- a whole command can follow
begun : List (List ℕ)
unfolding walking empties
begun =
    text ""
    ∷ text "*"
    ∷ text "*1"
    ∷ text "*10"
    ∷ text "*16"
    ∷ text "*1\r"
    ∷ text "*1\r\n$"
    ∷ text "*1\r\n$0"
    ∷ text "*1\r\n$5"
    ∷ text "*1\r\n$50"
    ∷ text "*1\r\n$500"
    ∷ text "*1\r\n$0\r\n\r"
    ∷ text "*16\r\n$409"
    ∷ (text "*16\r\n" ++ (empties 15 ++ text "$409"))
    ∷ text "*2\r\n$2\r\n\r\n\r"
    ∷ (text "*1\r\n$500\r\n" ++ (replicate 500 0 ++ text "\r"))
    ∷ []

begun-viable : all (map (λ s. viable s && not (whole s)) begun) ≡ true
unfolding walking empties begun
begun-viable = refl

-- whole commands
commands : List (List ℕ)
unfolding walking empties
commands =
    text "*1\r\n$0\r\n\r\n"
    ∷ text "*2\r\n$2\r\n\r\n\r\n$1\r\nx\r\n"
    ∷ (text "*16\r\n" ++ empties 16)
    ∷ (text "*1\r\n$500\r\n" ++ (replicate 500 0 ++ text "\r\n"))
    ∷ (text "*16\r\n" ++ (empties 15 ++ (text "$409\r\n" ++ (replicate 409 10 ++ text "\r\n"))))
    ∷ []

commands-whole : all (map (λ s. viable s && (whole s && not (viable (s ++ (42 ∷ []))))) commands) ≡ true
unfolding walking empties commands
commands-whole = refl

-- no whole command can follow, for the last byte alone
dead : List (List ℕ)
unfolding walking empties
dead =
    text "x"
    ∷ text "$"
    ∷ text "*0"
    ∷ text "*17"
    ∷ text "*20"
    ∷ text "*100"
    ∷ text "*-"
    ∷ text "*\r"
    ∷ text "*1\n"
    ∷ text "*1\r\r"
    ∷ text "*1\r\n*"
    ∷ text "*1\r\n\r"
    ∷ text "*1\r\n$\r"
    ∷ text "*1\r\n$-"
    ∷ text "*1\r\n$01"
    ∷ text "*1\r\n$00"
    ∷ text "*1\r\n$501"
    ∷ text "*1\r\n$999"
    ∷ text "*16\r\n$410"
    ∷ text "*16\r\n$41:"
    ∷ (text "*16\r\n" ++ (empties 15 ++ text "$410"))
    ∷ text "*1\r\n$2\r\nabc"
    ∷ text "*1\r\n$2\r\nab\n"
    ∷ text "*1\r\n$2\r\nab\r\r"
    ∷ text "*2\r\n$0\r\n\r\n*"
    ∷ text "*1\r\n$0\r\n\r\n*"
    ∷ []

dead-last : all (map (λ s. viable (take (length s - 1) s) && not (viable s)) dead) ≡ true
unfolding walking empties dead
dead-last = refl

-- what is held, a piece, and what it comes to
record Row : Type 0 where
  held : List ℕ
  piece : List ℕ

rows : List Row
unfolding walking
rows =
    record { held = []; piece = [] }
    ∷ record { held = []; piece = text "*1\r\n$" }
    ∷ record { held = text "*1\r\n$"; piece = [] }
    ∷ record { held = text "*1\r\n$"; piece = text "0\r\n\r\n" }
    ∷ record { held = text "*1\r\n$"; piece = text "0\r\n\r\n*1\r\n" }
    ∷ record { held = text "*1\r\n$"; piece = text "01\r\n" }
    ∷ record { held = text "*1"; piece = text "7\r\n" }
    ∷ record { held = text "*1\r\n$0\r\n\r\n"; piece = text "*" }
    ∷ record { held = text "*0"; piece = [] }
    ∷ record { held = text "*0"; piece = text "\r\n" }
    ∷ []

fed : List Fed
unfolding walking
fed =
    more []
    ∷ more (text "*1\r\n$")
    ∷ more (text "*1\r\n$")
    ∷ complete 5 (text "*1\r\n$0\r\n\r\n")
    ∷ complete 5 (text "*1\r\n$0\r\n\r\n")
    ∷ refused 2
    ∷ refused 1
    ∷ refused 0
    ∷ refused 0
    ∷ refused 0
    ∷ []

rows-fed : map (λ r. feed r.held r.piece) rows ≡ fed
unfolding walking rows fed
rows-fed = refl

-- a piece, with a table of no records
abbrev pub brought : List ℕ → Given
brought p = record { piece = p; table = []; now = 0; reply = [] }

-- before the command is whole, whatever table, time and reply buffer are: "more", and nothing changes
waiting-row : (s : Store) (table : List ℕ) (now : ℕ) (reply : List ℕ)
    → feeding s [] (record { piece = text "*"; table = table; now = now; reply = reply })
    ≡ record { taken = 1; held = text "*"; number = none; length = 0; reply = reply; table = table }
unfolding walking
waiting-row s table now reply = refl

-- bytes held that begin no command, whatever table, time and reply buffer are: 4, no byte is taken, and nothing is held
dropping-row : (s : Store) (table : List ℕ) (now : ℕ) (reply : List ℕ)
    → feeding s (text "*0") (record { piece = text "*"; table = table; now = now; reply = reply })
    ≡ record { taken = 0; held = []; number = some 4; length = 0; reply = reply; table = table }
unfolding walking
dropping-row s table now reply = refl
