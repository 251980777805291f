-- The state machine tells `viable` and `whole` of the bytes that it went over, and feeds as `feed` does.
use mathlib.Core.Path.{◌≡◌, refl, sym, ap, ◌∙◌, subst}
use mathlib.Core.Bool.{Bool, true, false, cond}
use mathlib.Core.List.{List, [], ◌∷◌, ◌++◌, append_assoc, append-nil}
use mathlib.Core.Option.{Option, none, some}
use Prim.Native.Nat.{ℕ, zero, suc, ◌+◌, ◌≤◌}
use native.Mathlib.Omega.{arith}
use lib.ListN.{length, take, length-append}
use borrow.Author.Tests.{leb-true, le-leb}
use Rattle.model.specs.Optional.{◌>>=◌}
use Rattle.model.specs.Resp.{command_limit}
use Rattle.model.proofs.Basics.{never, some-eq}
use Rattle.stream.specs.Frame.{Place, start, first, digit, line_end, body, body_end, words, end, next, walk, need, fits, can_from, viable}
use Rattle.stream.specs.Feed.{Proper, whole, holdable, Fed, more, complete, refused, further, take_bytes, feed, Right}
use Rattle.stream.specs.Machine.{State, begin, at, step, is_end, Scan, going, ended, dead, behind, by_step, scan, fed_by, after_held, feed_by_scan}
use Rattle.stream.proofs.Walk.{walk-append, walk-whole, whole-walk}
use Rattle.stream.proofs.Viable.{whole_is, is_whole, dead-unfinished}
use Rattle.stream.proofs.Feeding.{holdable-proper, proper-holdable, feed-right}
use Rattle.stream.proofs.Pieces.{nil-proper, proper-held}

-- the state after the bytes s
pub record After (s : List ℕ) (st : State) : Type 0 where
  pub place : walk start s ≡ some st.place
  pub used : st.used ≡ length s
  pub fit : st.used + need st.place ≤ command_limit

-- what an attempted state says of the bytes s
abbrev pub Told : List ℕ → Option State → Type 0
Told s none = viable s ≡ false
Told s (some st) = After s st

-- a byte more
pub step-told : (s : List ℕ) (st : State) (c : ℕ) → After s st → Told (s ++ (c ∷ [])) (step st c)
unfolding viable step
step-told s st c a = go (next st.place c) (walk-append start s (c ∷ []) ∙ ap (λ (o : Option Place). o >>= (λ q. walk q (c ∷ []))) a.place)
  where
    long : length (s ++ (c ∷ [])) ≡ suc st.used
    long = omega (arith, length-append s (c ∷ []), a.used)

    told : (p : Place) → walk start (s ++ (c ∷ [])) ≡ some p → (b : Bool) → fits (suc st.used) p ≡ b
        → Told (s ++ (c ∷ [])) (cond b (some (at p (suc st.used))) none)
    told p w true e = record { place = w; used = sym long; fit = leb-true (suc st.used + need p) command_limit e }
    told p w false e = rw (w, long) e

    go : (o : Option Place) → walk start (s ++ (c ∷ [])) ≡ o >>= (λ q. some q)
        → Told (s ++ (c ∷ [])) (o >>= λ p. cond (fits (suc st.used) p) (some (at p (suc st.used))) none)
    go none w = ap (can_from (length (s ++ (c ∷ [])))) w
    go (some p) w = told p w (fits (suc st.used) p) refl

pub begin-after : After [] begin
begin-after = record { place = refl; used = refl; fit = omega arith }

-- ---- what a state tells

pub after-viable : (s : List ℕ) (st : State) → After s st → viable s ≡ true
unfolding viable
after-viable s st a = rw a.place (le-leb (length s + need st.place) command_limit (omega (arith, a.used, a.fit)))

is_end-end : (p : Place) → is_end p ≡ true → p ≡ end
is_end-end start e = never false e refl
is_end-end (first h) e = never false e refl
is_end-end (digit h n) e = never false e refl
is_end-end (line_end h n) e = never false e refl
is_end-end (body n later) e = never false e refl
is_end-end (body_end later) e = never false e refl
is_end-end (words zero) e = refl
is_end-end (words (suc n)) e = never false e refl

pub after-whole : (s : List ℕ) (st : State) → After s st → whole s ≡ is_end st.place
after-whole s st a = go (is_end st.place) refl (whole s) refl
  where
    go : (b : Bool) → is_end st.place ≡ b → (w : Bool) → whole s ≡ w → whole s ≡ b
    go true e w f = is_whole s (whole-walk s (a.place ∙ ap some (is_end-end st.place e)) (omega (arith, a.used, a.fit)))
    go false e true f =
        let z : st.place ≡ end = some-eq (sym a.place ∙ walk-whole s (whole_is s f)) in
        never (is_end st.place) (ap is_end z) e
    go false e false f = f

-- ---- the bytes of a piece

fed_by-behind : (held : List ℕ) (c : ℕ) (piece : List ℕ) (x : Scan) → fed_by held (c ∷ piece) (behind 1 x) ≡ further (fed_by (held ++ (c ∷ [])) piece x)
fed_by-behind held c piece (going st) = ap more (sym (append_assoc held (c ∷ []) piece))
fed_by-behind held c piece (ended n) = let e : 1 + n ≡ suc n = omega arith in rw e (ap (complete (suc n)) (sym (append_assoc held (c ∷ []) (take n piece))))
fed_by-behind held c piece (dead n) = let e : 1 + n ≡ suc n = omega arith in rw e

pub scan-take_bytes : (held : List ℕ) (st : State) (piece : List ℕ) → After held st → fed_by held piece (scan st piece) ≡ take_bytes held piece
scan-take_bytes held st [] a = ap more (append-nil held)
scan-take_bytes held st (c ∷ piece) a = go (step st c) (step-told held st c a) (λ q. scan-take_bytes (held ++ (c ∷ [])) q piece)
  where
    by_end : (b : Bool) (x : Scan) (y : Fed) → fed_by (held ++ (c ∷ [])) piece x ≡ y
        → fed_by held (c ∷ piece) (cond b (ended 1) (behind 1 x)) ≡ cond b (complete 1 (held ++ (c ∷ []))) (further y)
    by_end true x y e = refl
    by_end false x y e = fed_by-behind held c piece x ∙ ap further e

    go : (o : Option State) → Told (held ++ (c ∷ [])) o
        → ((q : State) → After (held ++ (c ∷ [])) q → fed_by (held ++ (c ∷ [])) piece (scan q piece) ≡ take_bytes (held ++ (c ∷ [])) piece)
        → fed_by held (c ∷ piece) (by_step o (λ q. scan q piece))
        ≡ cond (whole (held ++ (c ∷ []))) (complete 1 (held ++ (c ∷ []))) (cond (viable (held ++ (c ∷ []))) (further (take_bytes (held ++ (c ∷ [])) piece)) (refused 1))
    go none d again = rw (d, dead-unfinished (held ++ (c ∷ [])) d)
    go (some q) b again =
        rw (after-viable (held ++ (c ∷ [])) q b, after-whole (held ++ (c ∷ [])) q b)
        (by_end (is_end q.place) (scan q piece) (take_bytes (held ++ (c ∷ [])) piece) (again q b))

-- a state that bytes leave is the state after them
pub scan-after : (s : List ℕ) (st : State) (t : List ℕ) (q : State) → After s st → scan st t ≡ going q → After (s ++ t) q
scan-after s st [] q a e = let z : st ≡ q = cc in subst (λ (y : List ℕ). After y q) (sym (append-nil s)) (subst (After s) z a)
scan-after s st (c ∷ t) q a e = go (step st c) (step-told s st c a) e (λ r. scan-after (s ++ (c ∷ [])) r t q)
  where
    go : (o : Option State) → Told (s ++ (c ∷ [])) o → by_step o (λ r. scan r t) ≡ going q
        → ((r : State) → After (s ++ (c ∷ [])) r → scan r t ≡ going q → After ((s ++ (c ∷ [])) ++ t) q) → After (s ++ (c ∷ t)) q
    go none d e again = let z : ◌≡◌ {A = ℕ} 0 1 = cc in absurd (omega arith)
    go (some r) b e again = onward (is_end r.place) (scan r t) refl e
      where
        onward : (n : Bool) (x : Scan) → scan r t ≡ x → cond n (ended 1) (behind 1 x) ≡ going q → After (s ++ (c ∷ t)) q
        onward true x f e = let z : ◌≡◌ {A = ℕ} 0 1 = cc in absurd (omega arith)
        onward false (going p) f e = subst (λ (y : List ℕ). After y q) (append_assoc s (c ∷ []) t) (again r b (f ∙ e))
        onward false (ended n) f e = let z : ◌≡◌ {A = ℕ} 0 1 = cc in absurd (omega arith)
        onward false (dead n) f e = let z : ◌≡◌ {A = ℕ} 0 1 = cc in absurd (omega arith)

-- ---- the machine feeds as `feed` does

-- bytes that are scanned from nothing
from_nothing : (s : List ℕ) → fed_by [] s (scan begin s) ≡ feed [] s
unfolding feed
from_nothing s = rw (proper-holdable [] nil-proper) (scan-take_bytes [] begin s begin-after)

-- what leaves a state is a proper beginning, and nothing else is
going-proper : (held : List ℕ) (st : State) → scan begin held ≡ going st → Proper held
going-proper held st e = (subst (Right [] held) (sym (from_nothing held) ∙ ap (fed_by [] held) e) (feed-right [] held)).proper

proper-going : (held : List ℕ) → Proper held → fed_by [] held (scan begin held) ≡ more held
proper-going held p = from_nothing held ∙ proper-held held p

pub feed_by_scan-feed : (held piece : List ℕ) → feed_by_scan held piece ≡ feed held piece
unfolding feed
feed_by_scan-feed held piece = go (scan begin held) refl
  where
    improper : (x : Fed) → (more held ≡ x → ⊥) → fed_by [] held (scan begin held) ≡ x → refused 0 ≡ cond (holdable held) (take_bytes held piece) (refused 0)
    improper x ne e = by (holdable held) refl
      where
        by : (b : Bool) → holdable held ≡ b → refused 0 ≡ cond b (take_bytes held piece) (refused 0)
        by true h = absurd (ne (sym (proper-going held (holdable-proper held h)) ∙ e))
        by false h = refl

    go : (x : Scan) → scan begin held ≡ x → after_held held piece x ≡ cond (holdable held) (take_bytes held piece) (refused 0)
    go (going st) e = rw (proper-holdable held (going-proper held st e)) (scan-take_bytes held st piece (scan-after [] begin held st begin-after e))
    go (ended n) e = improper (complete n (take n held)) (λ z. let y : ◌≡◌ {A = ℕ} 0 1 = cc in omega arith) (ap (fed_by [] held) e)
    go (dead n) e = improper (refused n) (λ z. let y : ◌≡◌ {A = ℕ} 0 1 = cc in omega arith) (ap (fed_by [] held) e)
