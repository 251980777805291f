-- Calls in a row: a command cut anywhere is carried out as if it were not cut, and what is held is always a proper beginning.
use mathlib.Core.Path.{◌≡◌, refl, sym, ap, ◌∙◌, subst}
use mathlib.Core.List.{List, [], ◌∷◌, ◌++◌, append_assoc, append-nil}
use mathlib.Core.Option.{none, some}
use Prim.Native.Nat.{ℕ, zero, suc, ◌+◌, ◌≤◌}
use native.Mathlib.Omega.{arith}
use lib.ListN.{length, take, length-append}
use lib.Seq.{take-append_seam, take-append-add}
use Rattle.model.specs.Resp.{read_line, decode}
use Rattle.model.specs.Call.{Store, untouched}
use Rattle.model.proofs.Basics.{none-some}
use Rattle.stream.specs.Feed.{Whole, Can, Proper, Fed, more, complete, refused, feed, Right, Given, Result, Feeder, waits, ends, result_of, feeding, Serves, results, joined, waiting, Cut, Undivided}
use Rattle.stream.proofs.Viable.{nil-viable, viable-can, whole-can, can-front, whole-last, front-unfinished, proper-short}
use Rattle.stream.proofs.Feeding.{feed-right, feed-is, dies-refused}

-- ---- one call

-- the meaning of a call is what the request asks of it, and no other feeder is
pub feeding-serves : (s : Store) → Serves s (feeding s)
feeding-serves s held g x r = ap (result_of s g) (feed-is held g.piece x r)

pub serves-unique : (s : Store) (f : Feeder) → Serves s f → (held : List ℕ) (g : Given) → f held g ≡ feeding s held g
serves-unique s f h held g = h held g (feed held g.piece) (feed-right held g.piece)

-- a piece of a command that is whole later is waited after
feed-waits : (held piece : List ℕ) → Proper held → Proper (held ++ piece) → feed held piece ≡ more (held ++ piece)
feed-waits held piece p q = feed-is held piece (more (held ++ piece)) (record { from = p; bytes = refl; proper = q })

-- a front of a proper beginning is one
proper-front : (s t : List ℕ) → Proper (s ++ t) → Proper s
proper-front s [] p = subst Proper (append-nil s) p
proper-front s (c ∷ t) p = record { can = can-front s (c ∷ t) p.can; unfinished = λ w. whole-last s c t w p.can }

-- a front of a whole command is one
begun : (s t : List ℕ) → (t ≡ [] → ⊥) → Whole (s ++ t) → Proper s
begun s [] ne w = absurd (ne refl)
begun s (c ∷ t) ne w = record { can = can-front s (c ∷ t) (whole-can (s ++ (c ∷ t)) w); unfinished = front-unfinished s c t w }

-- the bytes p make the command whole; those past it are not taken
pub feed-completes : (held p extra : List ℕ) → (p ≡ [] → ⊥) → Whole (held ++ p) → feed held (p ++ extra) ≡ complete (length p) (held ++ p)
feed-completes held [] extra ne w = absurd (ne refl)
feed-completes held (c ∷ p) extra ne w =
    feed-is held ((c ∷ p) ++ extra) (complete (length (c ∷ p)) (held ++ (c ∷ p)))
    (record {
      from = begun held (c ∷ p) ne w;
      least = omega arith;
      most = omega (arith, length-append p extra);
      bytes = ap (λ (y : List ℕ). held ++ y) (sym (take-append_seam (c ∷ p) extra));
      whole = w;
    })

-- ---- what is held

pub nil-unfinished : Whole [] → ⊥
unfolding decode read_line
nil-unfinished w = none-some w.words w.reads

-- nothing is a proper beginning
pub nil-proper : Proper []
nil-proper = record { can = viable-can [] nil-viable; unfinished = nil-unfinished }

-- every proper beginning can come to be held: from nothing, by one call
pub proper-held : (s : List ℕ) → Proper s → feed [] s ≡ more s
proper-held s p = feed-waits [] s nil-proper p

-- and nothing else comes to be held, whatever was held before
pub held-proper : (s : Store) (held : List ℕ) (g : Given) → Proper (feeding s held g).held
held-proper s held g = go (feed held g.piece) (feed-right held g.piece)
  where
    go : (x : Fed) → Right held g.piece x → Proper (result_of s g x).held
    go (more new) r = r.proper
    go (complete n c) r = nil-proper
    go (refused n) r = nil-proper

pub held-short : (s : Store) (held : List ℕ) (g : Given) → length (feeding s held g).held ≤ 511
held-short s held g = let h = proper-short (feeding s held g).held (held-proper s held g) in omega arith

-- after any number nothing is held
pub number-empties : (s : Store) (held : List ℕ) (g : Given) (n : ℕ) → (feeding s held g).number ≡ some n → (feeding s held g).held ≡ []
number-empties s held g n e = go (feed held g.piece) e
  where
    go : (x : Fed) → (result_of s g x).number ≡ some n → (result_of s g x).held ≡ []
    go (more new) e = none-some n e
    go (complete m c) e = refl
    go (refused m) e = refl

-- after "more" all bytes are taken and held, and neither reply buffer nor table has changed
pub more-waits : (s : Store) (held : List ℕ) (g : Given) → (feeding s held g).number ≡ none → feeding s held g ≡ waits (held ++ g.piece) g
more-waits s held g e = go (feed held g.piece) (feed-right held g.piece) e
  where
    go : (x : Fed) → Right held g.piece x → (result_of s g x).number ≡ none → result_of s g x ≡ waits (held ++ g.piece) g
    go (more new) r e = ap (λ (y : List ℕ). waits y g) r.bytes
    go (complete m c) r e = none-some (s g.table g.now c g.reply).number (sym e)
    go (refused m) r e = none-some 4 (sym e)

-- ---- what is taken

pub taken-most : (s : Store) (held : List ℕ) (g : Given) → (feeding s held g).taken ≤ length g.piece
taken-most s held g = go (feed held g.piece) (feed-right held g.piece)
  where
    go : (x : Fed) → Right held g.piece x → (result_of s g x).taken ≤ length g.piece
    go (more new) r = omega arith
    go (complete n c) r = r.most
    go (refused zero) r = omega arith
    go (refused (suc n)) r = r.within

-- a piece with a byte loses one, so that a caller who offers the rest again comes to its end
pub taken-least : (s : Store) (held : List ℕ) (g : Given) → Proper held → 1 ≤ length g.piece → 1 ≤ (feeding s held g).taken
taken-least s held g p h = go (feed held g.piece) (feed-right held g.piece)
  where
    go : (x : Fed) → Right held g.piece x → 1 ≤ (result_of s g x).taken
    go (more new) r = h
    go (complete n c) r = r.least
    go (refused zero) r = absurd (r p)
    go (refused (suc n)) r = omega arith

-- ---- calls in a row

-- while the command is a proper beginning, every call waits
results-waiting : (s : Store) (held : List ℕ) (gs rest : List Given) → Proper (held ++ joined gs)
    → results (feeding s) held (gs ++ rest) ≡ waiting held gs ++ results (feeding s) (held ++ joined gs) rest
results-waiting s held [] rest p = ap (λ (y : List ℕ). results (feeding s) y rest) (sym (append-nil held))
results-waiting s held (g ∷ gs) rest p =
    let assoc = append_assoc held g.piece (joined gs) in
    let q : Proper ((held ++ g.piece) ++ joined gs) = subst Proper (sym assoc) p in
    let now : Proper (held ++ g.piece) = proper-front (held ++ g.piece) (joined gs) q in
    let one : feeding s held g ≡ waits (held ++ g.piece) g = ap (result_of s g) (feed-waits held g.piece (proper-front held g.piece now) now) in
    ap (λ (r : Result). r ∷ results (feeding s) r.held (gs ++ rest)) one
    ∙ ap (λ (y : List Result). waits (held ++ g.piece) g ∷ y)
    (results-waiting s (held ++ g.piece) gs rest q ∙ ap (λ (y : List ℕ). waiting (held ++ g.piece) gs ++ results (feeding s) y rest) assoc)

-- calls without a byte
results-idle : (s : Store) (gs : List Given) → joined gs ≡ [] → results (feeding s) [] gs ≡ waiting [] gs
results-idle s gs e =
    ap (results (feeding s) []) (sym (append-nil gs)) ∙ (results-waiting s [] gs [] (subst Proper (sym e) nil-proper) ∙ append-nil (waiting [] gs))

module _ (s : Store) (c : List ℕ) (w : Whole c) where
  -- the call that brings the last byte, bytes past the command in its piece or not
  pub results-complete : (before : List Given) (last : Given) (p extra : List ℕ) → joined before ++ p ≡ c → (p ≡ [] → ⊥) → last.piece ≡ p ++ extra → (after : List Given)
      → results (feeding s) [] (before ++ (last ∷ after))
      ≡ waiting [] before ++ (ends (length p) (s last.table last.now c last.reply) ∷ results (feeding s) [] after)
  results-complete before last p extra e ne piece after =
      let v : Whole (joined before ++ p) = subst Whole (sym e) w in
      let one : feed (joined before) last.piece ≡ complete (length p) c =
      ap (feed (joined before)) piece ∙ (feed-completes (joined before) p extra ne v ∙ ap (complete (length p)) e) in
      results-waiting s [] before (last ∷ after) (begun (joined before) p ne v)
      ∙ ap (λ (x : Fed). waiting [] before ++ (result_of s last x ∷ results (feeding s) (result_of s last x).held after)) one

-- the call that brings the first byte c after which no whole command can follow
pub results-refuse : (s : Store) (before : List Given) (last : Given) (p : List ℕ) (c : ℕ) (extra : List ℕ)
    → Proper (joined before ++ p) → (Can (joined before ++ (p ++ (c ∷ []))) → ⊥) → last.piece ≡ p ++ (c ∷ extra) → (after : List Given)
    → results (feeding s) [] (before ++ (last ∷ after))
    ≡ waiting [] before ++ (ends (suc (length p)) (untouched 4 last.table last.reply) ∷ results (feeding s) [] after)
results-refuse s before last p c extra h dead piece after =
    let from : Proper (joined before) = proper-front (joined before) p h in
    let one : feed (joined before) last.piece ≡ refused (suc (length p)) =
    ap (feed (joined before)) piece
    ∙ dies-refused (joined before) (p ++ (c ∷ extra)) (length p)
    (record {
      from = from;
      within = omega (arith, length-append p (c ∷ extra));
      proper = subst Proper (ap (λ (y : List ℕ). joined before ++ y) (sym (take-append_seam p (c ∷ extra)))) h;
      dead = λ k. dead (subst Can (ap (λ (y : List ℕ). joined before ++ y) taken) k);
    }) in
    results-waiting s [] before (last ∷ after) from
    ∙ ap (λ (x : Fed). waiting [] before ++ (result_of s last x ∷ results (feeding s) (result_of s last x).held after)) one
  where
    taken : take (suc (length p)) (p ++ (c ∷ extra)) ≡ p ++ (c ∷ [])
    taken = let e : suc (length p) ≡ length p + 1 = omega arith in ap (λ (n : ℕ). take n (p ++ (c ∷ extra))) e ∙ take-append-add p (c ∷ extra) 1

-- ---- one command, cut anywhere

cut : (gs : List Given) (c : List ℕ) → joined gs ≡ c → (c ≡ [] → ⊥) → Cut gs c
cut [] c e ne = absurd (ne (sym e))
cut (g ∷ gs) c e ne = go (joined gs) refl (cut gs (joined gs) refl)
  where
    go : (r : List ℕ) → joined gs ≡ r → ((joined gs ≡ [] → ⊥) → Cut gs (joined gs)) → Cut (g ∷ gs) c
    go [] q again =
        let bytes : g.piece ≡ c = sym (append-nil g.piece) ∙ (ap (λ (y : List ℕ). g.piece ++ y) (sym q) ∙ e) in
        record { before = []; last = g; after = gs; calls = refl; bytes = bytes; some_byte = λ z. ne (sym bytes ∙ z); no_byte = q }
    go (x ∷ r) q again =
        let k = again (λ z. let u : ◌≡◌ {A = List ℕ} (x ∷ r) [] = sym q ∙ z in let v : ◌≡◌ {A = ℕ} 0 1 = cc in omega arith) in
        record {
          before = g ∷ k.before;
          last = k.last;
          after = k.after;
          calls = ap (λ (y : List Given). g ∷ y) k.calls;
          bytes = append_assoc g.piece (joined k.before) k.last.piece ∙ (ap (λ (y : List ℕ). g.piece ++ y) k.bytes ∙ e);
          some_byte = k.some_byte;
          no_byte = k.no_byte;
        }

pub feeding-undivided : (s : Store) → Undivided s (feeding s)
feeding-undivided s c w gs e =
    let k = cut gs c e (λ z. nil-unfinished (subst Whole z w)) in (
      k,
      ap (results (feeding s) []) k.calls
          ∙ (results-complete s c w k.before k.last k.last.piece [] k.bytes k.some_byte (sym (append-nil k.last.piece)) k.after
          ∙ ap (λ (y : List Result). waiting [] k.before ++ (ends (length k.last.piece) (s k.last.table k.last.now c k.last.reply) ∷ y))
          (results-idle s k.after k.no_byte)),
    )

-- ---- any feeder that meets the request of one call meets that of a list of calls

results_same : (s : Store) (f : Feeder) → Serves s f → (held : List ℕ) (gs : List Given) → results f held gs ≡ results (feeding s) held gs
results_same s f h held [] = refl
results_same s f h held (g ∷ gs) =
    ap (λ (r : Result). r ∷ results f r.held gs) (serves-unique s f h held g)
    ∙ ap (λ (y : List Result). feeding s held g ∷ y) (results_same s f h (feeding s held g).held gs)

pub serves-undivided : (s : Store) (f : Feeder) → Serves s f → Undivided s f
serves-undivided s f h c w gs e =
    let k = feeding-undivided s c w gs e in
    (k.0, results_same s f h [] gs ∙ k.1)
