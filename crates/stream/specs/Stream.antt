-- A stream: commands one after another, in pieces that end anywhere; what a caller of any feeder gets of it, and what it should get.
use Rattle.std.specs.Prelude.{ℕ, zero, suc, ◌-◌, ◌≡◌, cond, List, [], ◌∷◌, ◌++◌, map, length, drop}
use Rattle.std.proofs.Math.Option.{Option, none, some}
use Rattle.std.proofs.Math.ListN.{get_elem?}
use Rattle.model.specs.Call.{Outcome, Store, untouched}
use Rattle.stream.specs.Frame.{viable}
use Rattle.stream.specs.Feed.{Whole, Proper, whole, Result, Feeder}

-- a piece, a byte or a command, with the time and the reply buffer that its calls are given
pub record Timed (A : Type 0) : Type 0 where
  pub content : A
  pub now : ℕ
  pub reply : List ℕ

-- other content with the same time and reply buffer
abbrev pub stamped : {A B : Type 0} → Timed A → B → Timed B
stamped x b = record { content = b; now = x.now; reply = x.reply }

-- what calls came to: the outcomes of those that gave a number, in order, and the table and what is held after the last
pub record Driven : Type 0 where
  pub outcomes : List Outcome
  pub table : List ℕ
  pub held : List ℕ

-- no number
abbrev pub unanswered : (table held : List ℕ) → Driven
unanswered table held = record { outcomes = []; table = table; held = held }

-- the same after earlier outcomes
abbrev pub preceded : List Outcome → Driven → Driven
preceded os d = record { outcomes = os ++ d.outcomes; table = d.table; held = d.held }

-- ---- a caller

-- the outcome in a result, if it has a number
abbrev pub outcome_in : Option ℕ → Result → List Outcome
outcome_in none r = []
outcome_in (some n) r = record { number = n; length = r.length; reply = r.reply; table = r.table } ∷ []

-- the first if no byte is left, else the second
abbrev pub unless_left : (left : List ℕ) → Driven → Driven → Driven
unless_left [] stop again = stop
unless_left (c ∷ left) stop again = again

-- what is left of the piece p is offered until all of it is taken, by at most n calls; each gets the table and what is held as the last left them
abbrev pub offer : Feeder → (p : Timed (List ℕ)) (n : ℕ) (table held left : List ℕ) → Driven
offer f p zero table held left = unanswered table held
offer f p (suc n) table held left =
    let r = f held (record { piece = left; table = table; now = p.now; reply = p.reply }) in
    let stop = unanswered r.table r.held in
    let again = offer f p n r.table r.held (drop r.taken left) in
    preceded (outcome_in r.number r) (unless_left (drop r.taken left) stop again)

-- all pieces in turn
abbrev pub drive : Feeder → (table held : List ℕ) → List (Timed (List ℕ)) → Driven
drive f table held [] = unanswered table held
drive f table held (p ∷ ps) =
    let d = offer f p (suc (length p.content)) table held p.content in
    preceded d.outcomes (drive f d.table d.held ps)

-- ---- commands one by one

-- calls with whole commands, each on the table that the last left
abbrev pub one_by_one : Store → (table : List ℕ) → List (Timed (List ℕ)) → Driven
one_by_one s table [] = unanswered table []
one_by_one s table (k ∷ ks) =
    let o = s table k.now k.content k.reply in
    preceded (o ∷ []) (one_by_one s o.table ks)

-- the bytes of all pieces, each with its piece's time and reply buffer
abbrev pub bytes_of : List (Timed (List ℕ)) → List (Timed ℕ)
bytes_of [] = []
bytes_of (p ∷ ps) = map (stamped p) p.content ++ bytes_of ps

-- a command with the time and reply buffer of a byte; nothing if there is no such byte
abbrev pub timed_by : List ℕ → Option (Timed ℕ) → List (Timed (List ℕ))
timed_by c none = []
timed_by c (some b) = stamped b c ∷ []

-- commands with the time and reply buffer of the piece that brings the last byte of each; bs are the bytes from the first command on
abbrev pub timed : List (List ℕ) → (bs : List (Timed ℕ)) → List (Timed (List ℕ))
timed [] bs = []
timed (c ∷ cs) bs = timed_by c (get_elem? bs (length c - 1)) ++ timed cs (drop (length c) bs)

-- byte strings joined
abbrev pub flat : List (List ℕ) → List ℕ
flat [] = []
flat (s ∷ ss) = s ++ flat ss

-- each is a whole command
abbrev pub Wholes : List (List ℕ) → Type 0
Wholes [] = Unit {0}
Wholes (c ∷ cs) = Whole c × Wholes cs

-- whole commands in any pieces, nothing held before: the outcomes and the table are those of calling the commands one by one, each at the
-- time and with the reply buffer of the piece that brings its last byte, and nothing is held at the end
abbrev pub Streamed : Store → Feeder → Type 0
Streamed s f =
    (cs : List (List ℕ)) → Wholes cs → (ps : List (Timed (List ℕ))) → flat (map (λ p. p.content) ps) ≡ flat cs → (table : List ℕ)
    → drive f table [] ps ≡ one_by_one s table (timed cs (bytes_of ps))

-- ---- any bytes

-- the bytes of a stream one at a time: a command is carried out at its last byte, and number 4 is given at the first byte after which no
-- whole command can follow
abbrev pub by_byte : Store → (table held : List ℕ) → List (Timed ℕ) → Driven
by_byte s table held [] = unanswered table held
by_byte s table held (b ∷ bs) =
    let new = held ++ (b.content ∷ []) in
    let o = s table b.now new b.reply in
    let done = preceded (o ∷ []) (by_byte s o.table [] bs) in
    let onward = by_byte s table new bs in
    let refusal = preceded (untouched 4 table b.reply ∷ []) (by_byte s table [] bs) in
    cond (whole new) done (cond (viable new) onward refusal)

-- where the pieces end does not matter, whatever bytes they have
abbrev pub Seamless : Store → Feeder → Type 0
Seamless s f =
    (ps : List (Timed (List ℕ))) (table held : List ℕ) → Proper held
    → drive f table held ps ≡ by_byte s table held (bytes_of ps)
