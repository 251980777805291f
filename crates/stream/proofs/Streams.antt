-- Where the pieces of a stream end does not matter, and whole commands one after another have the outcomes of calls one by one.
use mathlib.Core.Path.{◌≡◌, refl, sym, ap, ◌∙◌, subst}
use mathlib.Core.Bool.{Bool, true, false, cond}
use mathlib.Core.List.{List, [], ◌∷◌, ◌++◌, map, map-append, append_assoc}
use mathlib.Core.Option.{some}
use Prim.Native.Nat.{ℕ, zero, suc, ◌-◌, ◌<◌}
use native.Mathlib.Omega.{arith}
use lib.ListN.{length, drop, get_elem?, length-drop}
use lib.Seq.{drop-length}
use Rattle.model.specs.Bytes.{text}
use Rattle.model.specs.Call.{Outcome, Store, untouched}
use Rattle.stream.specs.Frame.{viable}
use Rattle.stream.specs.Feed.{Whole, Proper, whole, Fed, more, complete, refused, further, take_bytes, feed, Right, Given, Feeder, result_of, feeding, Serves}
use Rattle.stream.specs.Stream.{Timed, stamped, Driven, unanswered, preceded, unless_left, outcome_in, offer, drive}
use Rattle.stream.specs.Stream.{one_by_one, bytes_of, timed, flat, Wholes, Streamed, by_byte, Seamless}
use Rattle.stream.specs.WrongFeeders.{takes_past}
use Rattle.stream.proofs.Rows.{walking}
use Rattle.stream.proofs.Viable.{can-viable, is_whole, whole-can, can-front, front-unfinished, whole_is}
use Rattle.stream.proofs.Feeding.{proper-holdable, holdable-proper, feed-right}
use Rattle.stream.proofs.Pieces.{nil-proper, nil-unfinished, serves-unique}

-- ---- two commands in three pieces

abbrev first_command : List ℕ
first_command = text "*1\r\n$0\r\n\r\n"

abbrev second_command : List ℕ
second_command = text "*1\r\n$1\r\nx\r\n"

-- bytes with a time and a reply buffer of one byte
abbrev timed_at : ℕ → List ℕ → Timed (List ℕ)
timed_at n s = record { content = s; now = n; reply = n ∷ [] }

-- the second piece has the end of the first command and the beginning of the second
abbrev pieces : List (Timed (List ℕ))
pieces = timed_at 1 (text "*1\r\n$") ∷ timed_at 2 (text "0\r\n\r\n*1\r") ∷ timed_at 3 (text "\n$1\r\nx\r\n") ∷ []

pieces-premises : Wholes (first_command ∷ second_command ∷ []) × (flat (map (λ p. p.content) pieces) ≡ flat (first_command ∷ second_command ∷ []))
unfolding walking
pieces-premises = ((record { words = [] ∷ []; reads = refl }, (record { words = text "x" ∷ []; reads = refl }, tt)), refl)

pieces-timed : timed (first_command ∷ second_command ∷ []) (bytes_of pieces) ≡ timed_at 2 first_command ∷ timed_at 3 second_command ∷ []
pieces-timed = refl

pieces-driven : (s : Store) (table : List ℕ)
    → let o = s table 2 first_command (2 ∷ []) in
    let p = s o.table 3 second_command (3 ∷ []) in
    drive (feeding s) table [] pieces ≡ record { outcomes = o ∷ p ∷ []; table = p.table; held = [] }
unfolding walking
pieces-driven s table = refl

-- a byte that begins no command, then a whole command
refusal-driven : (s : Store) (table : List ℕ)
    → let o = s table 2 first_command (2 ∷ []) in
    drive (feeding s) table [] (timed_at 1 (text "x*1\r\n$") ∷ timed_at 2 (text "0\r\n\r\n") ∷ [])
    ≡ record { outcomes = untouched 4 table (1 ∷ []) ∷ o ∷ []; table = o.table; held = [] }
unfolding walking
refusal-driven s table = refl

-- a feeder that takes the bytes past a whole command loses the next
takes_past-loses : (s : Store) → Streamed s (takes_past s) → ⊥
unfolding walking
takes_past-loses s h =
    let e : ◌≡◌ {A = ℕ} 1 2 =
    ap (λ (d : Driven). length d.outcomes) (h (first_command ∷ second_command ∷ []) pieces-premises.0 (timed_at 1 (first_command ++ second_command) ∷ []) refl []) in
    omega arith

-- ---- any stream

module _ (s : Store) where
  -- ---- bytes one at a time

  -- an outcome, then those of the bytes after it
  abbrev outcome_then : Outcome → List (Timed ℕ) → Driven
  outcome_then o bs = preceded (o ∷ []) (by_byte s o.table [] bs)

  -- the outcome that a piece came to, then those of the rest of it
  abbrev on_fed : (p : Timed (List ℕ)) (table piece : List ℕ) → Fed → Driven
  on_fed p table piece (more held) = unanswered table held
  on_fed p table piece (complete n c) = outcome_then (s table p.now c p.reply) (map (stamped p) (drop n piece))
  on_fed p table piece (refused n) = outcome_then (untouched 4 table p.reply) (map (stamped p) (drop n piece))

  on_fed-further : (p : Timed (List ℕ)) (table : List ℕ) (c : ℕ) (piece : List ℕ) (x : Fed) → on_fed p table (c ∷ piece) (further x) ≡ on_fed p table piece x
  on_fed-further p table c piece (more held) = refl
  on_fed-further p table c piece (complete n d) = refl
  on_fed-further p table c piece (refused n) = refl

  by_byte-take_bytes : (p : Timed (List ℕ)) (table held piece : List ℕ) → by_byte s table held (map (stamped p) piece) ≡ on_fed p table piece (take_bytes held piece)
  by_byte-take_bytes p table held [] = refl
  by_byte-take_bytes p table held (c ∷ piece) = go (whole new) (viable new) (by_byte-take_bytes p table new piece)
    where
      new : List ℕ
      new = held ++ (c ∷ [])

      go : (w v : Bool) → by_byte s table new (map (stamped p) piece) ≡ on_fed p table piece (take_bytes new piece)
          → cond w (outcome_then (s table p.now new p.reply) (map (stamped p) piece))
          (cond v (by_byte s table new (map (stamped p) piece)) (outcome_then (untouched 4 table p.reply) (map (stamped p) piece)))
          ≡ on_fed p table (c ∷ piece) (cond w (complete 1 new) (cond v (further (take_bytes new piece)) (refused 1)))
      go true v h = refl
      go false true h = h ∙ sym (on_fed-further p table c piece (take_bytes new piece))
      go false false h = refl

  by_byte-feed : (p : Timed (List ℕ)) (table held piece : List ℕ) → Proper held → by_byte s table held (map (stamped p) piece) ≡ on_fed p table piece (feed held piece)
  unfolding feed
  by_byte-feed p table held piece h = rw (proper-holdable held h) (by_byte-take_bytes p table held piece)

  -- ---- one piece

  -- the caller gets all of a piece's outcomes
  offer-by_byte : (p : Timed (List ℕ)) (n : ℕ) (table held left : List ℕ) → Proper held → length left < n
      → offer (feeding s) p n table held left ≡ by_byte s table held (map (stamped p) left)
  offer-by_byte p zero table held left h l = absurd (omega arith)
  offer-by_byte p (suc n) table held left h l =
      go (feed held left) (feed-right held left) (λ t rest k. offer-by_byte p n t [] rest nil-proper k) ∙ sym (by_byte-feed p table held left h)
    where
      given : Given
      given = record { piece = left; table = table; now = p.now; reply = p.reply }

      -- after an outcome the rest is offered, if there is any
      rest-offered : (o : Outcome) (rest : List ℕ) → offer (feeding s) p n o.table [] rest ≡ by_byte s o.table [] (map (stamped p) rest)
          → preceded (o ∷ []) (unless_left rest (unanswered o.table []) (offer (feeding s) p n o.table [] rest)) ≡ outcome_then o (map (stamped p) rest)
      rest-offered o [] e = refl
      rest-offered o (c ∷ rest) e = ap (preceded (o ∷ [])) e

      go : (x : Fed) → Right held left x → ((t rest : List ℕ) → length rest < n → offer (feeding s) p n t [] rest ≡ by_byte s t [] (map (stamped p) rest))
          → preceded (outcome_in (result_of s given x).number (result_of s given x))
          (unless_left (drop (result_of s given x).taken left) (unanswered (result_of s given x).table (result_of s given x).held)
          (offer (feeding s) p n (result_of s given x).table (result_of s given x).held (drop (result_of s given x).taken left)))
          ≡ on_fed p table left x
      go (more new) r again = rw (drop-length left)
      go (complete m c) r again =
          let o = s table p.now c p.reply in
          rest-offered o (drop m left) (again o.table (drop m left) (omega (arith, r.least, r.most, length-drop m left)))
      go (refused zero) r again = absurd (r h)
      go (refused (suc m)) r again =
          rest-offered (untouched 4 table p.reply) (drop (suc m) left) (again table (drop (suc m) left) (omega (arith, r.within, length-drop (suc m) left)))

  -- ---- all pieces

  by_byte-append : (table held : List ℕ) (cs bs : List (Timed ℕ))
      → by_byte s table held (cs ++ bs)
      ≡ preceded (by_byte s table held cs).outcomes (by_byte s (by_byte s table held cs).table (by_byte s table held cs).held bs)
  by_byte-append table held [] bs = refl
  by_byte-append table held (b ∷ cs) bs =
      go (whole new) (viable new) (by_byte-append o.table [] cs bs) (by_byte-append table new cs bs) (by_byte-append table [] cs bs)
    where
      new : List ℕ
      new = held ++ (b.content ∷ [])

      o : Outcome
      o = s table b.now new b.reply

      refusal : Outcome
      refusal = untouched 4 table b.reply

      then : Driven → Driven
      then d = preceded d.outcomes (by_byte s d.table d.held bs)

      go : (w v : Bool) → by_byte s o.table [] (cs ++ bs) ≡ then (by_byte s o.table [] cs) → by_byte s table new (cs ++ bs) ≡ then (by_byte s table new cs)
          → by_byte s table [] (cs ++ bs) ≡ then (by_byte s table [] cs)
          → cond w (outcome_then o (cs ++ bs)) (cond v (by_byte s table new (cs ++ bs)) (outcome_then refusal (cs ++ bs)))
          ≡ then (cond w (outcome_then o cs) (cond v (by_byte s table new cs) (outcome_then refusal cs)))
      go true v e f g = ap (preceded (o ∷ [])) e
      go false true e f g = f
      go false false e f g = ap (preceded (refusal ∷ [])) g

  -- what is held after any bytes is a proper beginning
  by_byte-proper : (table held : List ℕ) (bs : List (Timed ℕ)) → Proper held → Proper (by_byte s table held bs).held
  by_byte-proper table held [] h = h
  by_byte-proper table held (b ∷ bs) h =
      go (whole new) refl (viable new) refl (by_byte-proper o.table [] bs nil-proper) (by_byte-proper table new bs) (by_byte-proper table [] bs nil-proper)
    where
      new : List ℕ
      new = held ++ (b.content ∷ [])

      o : Outcome
      o = s table b.now new b.reply

      go : (w : Bool) → whole new ≡ w → (v : Bool) → viable new ≡ v → Proper (by_byte s o.table [] bs).held → (Proper new → Proper (by_byte s table new bs).held)
          → Proper (by_byte s table [] bs).held
          → Proper (cond w (outcome_then o bs) (cond v (by_byte s table new bs) (outcome_then (untouched 4 table b.reply) bs))).held
      go true e v f i j k = i
      go false e true f i j k = j (holdable-proper new (rw (e, f)))
      go false e false f i j k = k

  pub feeding-seamless : Seamless s (feeding s)
  feeding-seamless [] table held h = refl
  feeding-seamless (p ∷ ps) table held h =
      let d = by_byte s table held (map (stamped p) p.content) in
      ap (λ (y : Driven). preceded y.outcomes (drive (feeding s) y.table y.held ps))
      (offer-by_byte p (suc (length p.content)) table held p.content h (omega arith))
      ∙ (ap (preceded d.outcomes) (feeding-seamless ps d.table d.held (by_byte-proper table held (map (stamped p) p.content) h))
      ∙ sym (by_byte-append table held (map (stamped p) p.content) (bytes_of ps)))

  -- ---- whole commands

  not-whole : (c : List ℕ) → (Whole c → ⊥) → whole c ≡ false
  not-whole c h = go (whole c) refl
    where
      go : (b : Bool) → whole c ≡ b → b ≡ false
      go true e = absurd (h (whole_is c e))
      go false e = refl

  -- bs begins with the bytes c ∷ r, which make the command held ++ (c ∷ r) whole, and goes on with t
  record LastByte (table held : List ℕ) (c : ℕ) (r t : List ℕ) (bs : List (Timed ℕ)) : Type 0 where
    last : Timed ℕ
    place : get_elem? bs (length r) ≡ some last
    outcome : by_byte s table held bs ≡ outcome_then (s table last.now (held ++ (c ∷ r)) last.reply) (drop (suc (length r)) bs)
    rest : map (λ b. b.content) (drop (suc (length r)) bs) ≡ t

  by_byte-whole : (table held : List ℕ) (c : ℕ) (r t : List ℕ) (bs : List (Timed ℕ)) → map (λ b. b.content) bs ≡ c ∷ (r ++ t) → Whole (held ++ (c ∷ r))
      → LastByte table held c r t bs
  by_byte-whole table held c r t [] e w = let z : ◌≡◌ {A = ℕ} 0 1 = cc in absurd (omega arith)
  by_byte-whole table held c [] t (b ∷ bs) e w =
      let x : b.content ≡ c = cc in
      let v : Whole (held ++ (b.content ∷ [])) = subst (λ (z : ℕ). Whole (held ++ (z ∷ []))) (sym x) w in
      record {
        last = b;
        place = refl;
        outcome = rw (is_whole (held ++ (b.content ∷ [])) v) (ap (λ (z : ℕ). outcome_then (s table b.now (held ++ (z ∷ [])) b.reply) bs) x);
        rest = cc;
      }
  by_byte-whole table held c (d ∷ r) t (b ∷ bs) e w = go (by_byte-whole table new d r t bs (cc) u)
    where
      new : List ℕ
      new = held ++ (b.content ∷ [])

      joins : new ++ (d ∷ r) ≡ held ++ (c ∷ d ∷ r)
      joins = let x : b.content ≡ c = cc in append_assoc held (b.content ∷ []) (d ∷ r) ∙ ap (λ (z : ℕ). held ++ (z ∷ d ∷ r)) x

      u : Whole (new ++ (d ∷ r))
      u = subst Whole (sym joins) w

      go : LastByte table new d r t bs → LastByte table held c (d ∷ r) t (b ∷ bs)
      go k = record {
        last = k.last;
        place = k.place;
        outcome =
            rw (not-whole new (front-unfinished new d r u), can-viable new (can-front new (d ∷ r) (whole-can (new ++ (d ∷ r)) u)))
            (k.outcome ∙ ap (λ (z : List ℕ). outcome_then (s table k.last.now z k.last.reply) (drop (suc (length r)) bs)) joins);
        rest = k.rest;
      }

  by_byte-wholes : (cs : List (List ℕ)) → Wholes cs → (table : List ℕ) (bs : List (Timed ℕ)) → map (λ b. b.content) bs ≡ flat cs
      → by_byte s table [] bs ≡ one_by_one s table (timed cs bs)
  by_byte-wholes [] w table [] e = refl
  by_byte-wholes [] w table (b ∷ bs) e = let z : ◌≡◌ {A = ℕ} 0 1 = cc in absurd (omega arith)
  by_byte-wholes ([] ∷ cs) w table bs e = absurd (nil-unfinished w.0)
  by_byte-wholes ((d ∷ r) ∷ cs) w table bs e = go (by_byte-whole table [] d r (flat cs) bs e w.0) (λ t. by_byte-wholes cs w.1 t (drop (suc (length r)) bs))
    where
      go : LastByte table [] d r (flat cs) bs
          → ((t : List ℕ) → map (λ b. b.content) (drop (suc (length r)) bs) ≡ flat cs
          → by_byte s t [] (drop (suc (length r)) bs) ≡ one_by_one s t (timed cs (drop (suc (length r)) bs)))
          → by_byte s table [] bs ≡ one_by_one s table (timed ((d ∷ r) ∷ cs) bs)
      go k again =
          let o = s table k.last.now (d ∷ r) k.last.reply in
          let n : suc (length r) - 1 ≡ length r = omega arith in
          rw (n, k.place) (k.outcome ∙ ap (preceded (o ∷ [])) (again o.table k.rest))

  stamped-contents : (p : Timed (List ℕ)) (xs : List ℕ) → map (λ b. b.content) (map (stamped p) xs) ≡ xs
  stamped-contents p [] = refl
  stamped-contents p (x ∷ xs) = ap (λ (y : List ℕ). x ∷ y) (stamped-contents p xs)

  bytes_of-contents : (ps : List (Timed (List ℕ))) → map (λ b. b.content) (bytes_of ps) ≡ flat (map (λ p. p.content) ps)
  bytes_of-contents [] = refl
  bytes_of-contents (p ∷ ps) =
      map-append (λ b. b.content) (map (stamped p) p.content) (bytes_of ps)
      ∙ λ i. stamped-contents p p.content i ++ bytes_of-contents ps i

  -- every command of a stream has a piece that brings its last byte: none is left out of the calls one by one
  timed-contents : (cs : List (List ℕ)) → Wholes cs → (bs : List (Timed ℕ)) → map (λ b. b.content) bs ≡ flat cs → map (λ k. k.content) (timed cs bs) ≡ cs
  timed-contents [] w bs e = refl
  timed-contents ([] ∷ cs) w bs e = absurd (nil-unfinished w.0)
  timed-contents ((d ∷ r) ∷ cs) w bs e = go (by_byte-whole [] [] d r (flat cs) bs e w.0) (timed-contents cs w.1 (drop (suc (length r)) bs))
    where
      go : LastByte [] [] d r (flat cs) bs
          → (map (λ b. b.content) (drop (suc (length r)) bs) ≡ flat cs → map (λ k. k.content) (timed cs (drop (suc (length r)) bs)) ≡ cs)
          → map (λ k. k.content) (timed ((d ∷ r) ∷ cs) bs) ≡ (d ∷ r) ∷ cs
      go k again =
          let n : suc (length r) - 1 ≡ length r = omega arith in
          rw (n, k.place) (ap (λ (y : List (List ℕ)). (d ∷ r) ∷ y) (again k.rest))

  pub timed-commands : (cs : List (List ℕ)) → Wholes cs → (ps : List (Timed (List ℕ))) → flat (map (λ p. p.content) ps) ≡ flat cs
      → map (λ k. k.content) (timed cs (bytes_of ps)) ≡ cs
  timed-commands cs w ps e = timed-contents cs w (bytes_of ps) (bytes_of-contents ps ∙ e)

  pub feeding-streamed : Streamed s (feeding s)
  feeding-streamed cs w ps e table =
      feeding-seamless ps table [] nil-proper ∙ by_byte-wholes cs w table (bytes_of ps) (bytes_of-contents ps ∙ e)

  -- ---- any feeder that meets the request of one call

  serves-feeding : (f : Feeder) → Serves s f → feeding s ≡ f
  serves-feeding f h i held g = sym (serves-unique s f h held g) i

  pub serves-seamless : (f : Feeder) → Serves s f → Seamless s f
  serves-seamless f h = subst (Seamless s) (serves-feeding f h) feeding-seamless

  pub serves-streamed : (f : Feeder) → Serves s f → Streamed s f
  serves-streamed f h = subst (Streamed s) (serves-feeding f h) feeding-streamed
