-- `viable` tells exactly the bytes after which a whole command can follow; `whole` the whole commands; and how the two lie to each other.
use mathlib.Core.Path.{◌≡◌, refl, sym, ap, ◌∙◌, subst}
use mathlib.Core.Bool.{Bool, true, false, cond, ◌&&◌, not}
use mathlib.Core.List.{List, [], ◌∷◌, ◌++◌, append_assoc, append-nil}
use mathlib.Core.Option.{Option, none, some}
use Prim.Native.Nat.{ℕ, zero, suc, ◌+◌, ◌-◌, ◌*◌, ◌≤◌, ◌<◌}
use native.Mathlib.Omega.{arith}
use lib.ListN.{length, length-append}
use lib.Dec.{leb, eqb}
use borrow.Author.Tests.{leb-true, le-leb}
use Rattle.model.specs.Optional.{◌>>=◌, is_some}
use Rattle.model.specs.Number.{is_digit}
use Rattle.model.specs.Resp.{array_mark, bulk_mark, command_limit, word_limit, decode}
use Rattle.model.proofs.Basics.{never, and_left, and_right, some-eq, none-some, came}
use Rattle.stream.specs.Frame.{Header, array, bulk, Place, start, first, digit, line_end, body, body_end, words, end, allowed, after, to, next, walk, least, need_after, need, can_from, viable}
use Rattle.stream.specs.Feed.{Whole, Can, Proper, whole}
use Rattle.stream.proofs.Walk.{walk-append, walk-whole, whole-short, whole-walk}

-- ---- no whole command needs fewer bytes

pub stepped : {X : Type 0} (b : Bool) (p q : Place) → to b p ≡ some q → (b ≡ true → p ≡ q → X) → X
stepped true p q e k = k refl (some-eq e)
stepped false p q e k = none-some q e

need_after-least : (h : Header) (n : ℕ) → allowed h n ≡ true → need_after h (least h) ≤ need_after h n
need_after-least array n e = let lo : 1 ≤ n = leb-true 1 n (and_left (leb 1 n) (leb n word_limit) e) in omega arith
need_after-least (bulk later) n e = omega arith

need_after-grows : (h : Header) (n m : ℕ) → n ≤ m → need_after h n ≤ need_after h m
need_after-grows array n m l = omega arith
need_after-grows (bulk later) n m l = omega arith

pub need-after : (h : Header) (n : ℕ) → need (after h n) ≡ need_after h n
need-after array n = refl
need-after (bulk later) n = refl

-- a byte takes at most one from the need
pub need-next : (p : Place) (c : ℕ) (q : Place) → next p c ≡ some q → need p ≤ suc (need q)
need-next start c q e = stepped (eqb c array_mark) (first array) q e λ b z. let n = ap need z in omega arith
need-next (first h) c q e =
    stepped (is_digit c && allowed h (c - 48)) (digit h (c - 48)) q e λ b z.
    let n = ap need z in
    omega (arith, need_after-least h (c - 48) (and_right (is_digit c) (allowed h (c - 48)) b))
need-next (digit h n) c q e = go (eqb c 13) e
  where
    go : (b : Bool) → cond b (some (line_end h n)) (to (is_digit c && (not (eqb n 0) && allowed h (10 * n + (c - 48)))) (digit h (10 * n + (c - 48)))) ≡ some q
        → 2 + need_after h n ≤ suc (need q)
    go true e = let m = ap need (some-eq e) in omega arith
    go false e =
        stepped (is_digit c && (not (eqb n 0) && allowed h (10 * n + (c - 48)))) (digit h (10 * n + (c - 48))) q e λ b z.
        let m = ap need z in
        omega (arith, need_after-grows h n (10 * n + (c - 48)) (omega arith))
need-next (line_end h n) c q e = stepped (eqb c 10) (after h n) q e λ b z. let m = ap need z in omega (arith, need-after h n)
need-next (body zero later) c q e = stepped (eqb c 13) (body_end later) q e λ b z. let m = ap need z in omega arith
need-next (body (suc n) later) c q e = let m = ap need (some-eq e) in omega arith
need-next (body_end later) c q e = stepped (eqb c 10) (words later) q e λ b z. let m = ap need z in omega arith
need-next (words zero) c q e = none-some q e
need-next (words (suc n)) c q e = stepped (eqb c bulk_mark) (first (bulk n)) q e λ b z. let m = ap need z in omega arith

need-walk : (p : Place) (s : List ℕ) (q : Place) → walk p s ≡ some q → need p ≤ length s + need q
need-walk p [] q e = let n = ap need (some-eq e) in omega arith
need-walk p (c ∷ s) q e = came (next p c) (λ q. walk q s) e λ r f e. omega (arith, need-next p c r f, need-walk r s q e)

-- ---- and some whole command needs no more

shortest_words : ℕ → List ℕ
shortest_words zero = []
shortest_words (suc n) = bulk_mark ∷ 48 ∷ 13 ∷ 10 ∷ 13 ∷ 10 ∷ shortest_words n

shortest_body : ℕ → ℕ → List ℕ
shortest_body zero later = 13 ∷ 10 ∷ shortest_words later
shortest_body (suc n) later = 0 ∷ shortest_body n later

shortest_after : Header → ℕ → List ℕ
shortest_after array n = shortest_words n
shortest_after (bulk later) n = shortest_body n later

-- the shortest bytes that make a command whole from a place
shortest : Place → List ℕ
shortest start = array_mark ∷ 49 ∷ 13 ∷ 10 ∷ shortest_words 1
shortest (first h) = (48 + least h) ∷ 13 ∷ 10 ∷ shortest_after h (least h)
shortest (digit h n) = 13 ∷ 10 ∷ shortest_after h n
shortest (line_end h n) = 10 ∷ shortest_after h n
shortest (body n later) = shortest_body n later
shortest (body_end later) = 10 ∷ shortest_words later
shortest (words n) = shortest_words n

words-shortest : (n : ℕ) → (walk (words n) (shortest_words n) ≡ some end) × (length (shortest_words n) ≡ 6 * n)
unfolding shortest_words
words-shortest zero = (refl, refl)
words-shortest (suc n) = let h = words-shortest n in (h.0, omega (arith, h.1))

body-shortest : (n later : ℕ) → (walk (body n later) (shortest_body n later) ≡ some end) × (length (shortest_body n later) ≡ n + 2 + 6 * later)
unfolding shortest_body
body-shortest zero later = let h = words-shortest later in (h.0, omega (arith, h.1))
body-shortest (suc n) later = let h = body-shortest n later in (h.0, omega (arith, h.1))

after-shortest : (h : Header) (n : ℕ) → (walk (after h n) (shortest_after h n) ≡ some end) × (length (shortest_after h n) ≡ need_after h n)
unfolding shortest_after
after-shortest array n = words-shortest n
after-shortest (bulk later) n = body-shortest n later

walk-shortest : (p : Place) → (walk p (shortest p) ≡ some end) × (length (shortest p) ≡ need p)
unfolding shortest
walk-shortest start = let h = words-shortest 1 in (h.0, omega (arith, h.1))
walk-shortest (first array) = let h = after-shortest array 1 in (h.0, omega (arith, h.1))
walk-shortest (first (bulk later)) = let h = after-shortest (bulk later) 0 in (h.0, omega (arith, h.1))
walk-shortest (digit h n) = let k = after-shortest h n in (k.0, omega (arith, k.1))
walk-shortest (line_end h n) = let k = after-shortest h n in (k.0, omega (arith, k.1))
walk-shortest (body n later) = body-shortest n later
walk-shortest (body_end later) = let h = words-shortest later in (h.0, omega (arith, h.1))
walk-shortest (words n) = words-shortest n

-- ---- `viable` decides `Can`

pub viable-can : (s : List ℕ) → viable s ≡ true → Can s
unfolding viable
viable-can s e = go (walk start s) refl e
  where
    go : (o : Option Place) → walk start s ≡ o → can_from (length s) o ≡ true → Can s
    go none w e = never false e refl
    go (some p) w e =
        let h = walk-shortest p in
        let room : length s + need p ≤ command_limit = leb-true (length s + need p) command_limit e in
        record {
          rest = shortest p;
          whole = whole-walk (s ++ shortest p) (walk-append start s (shortest p) ∙ (ap (λ (o : Option Place). o >>= (λ q. walk q (shortest p))) w ∙ h.0)) (omega (arith, length-append s (shortest p), h.1));
        }

pub can-viable : (s : List ℕ) → Can s → viable s ≡ true
unfolding viable
can-viable s c =
    came (walk start s) (λ q. walk q c.rest) (sym (walk-append start s c.rest) ∙ walk-whole (s ++ c.rest) c.whole) λ q f e.
    rw f
    (le-leb (length s + need q) command_limit (omega (arith, need-walk q c.rest end e, whole-short (s ++ c.rest) c.whole, length-append s c.rest)))

-- ---- `whole` decides `Whole`

pub whole_is : (s : List ℕ) → whole s ≡ true → Whole s
unfolding whole
whole_is s e = go (decode s) refl e
  where
    go : (o : Option (List (List ℕ))) → decode s ≡ o → is_some o ≡ true → Whole s
    go none r e = never false e refl
    go (some ws) r e = record { words = ws; reads = r }

pub is_whole : (s : List ℕ) → Whole s → whole s ≡ true
unfolding whole
is_whole s w = rw w.reads

-- ---- beginnings

-- nothing is a beginning
pub nil-viable : viable [] ≡ true
unfolding viable
nil-viable = refl

-- a whole command is viable
pub whole-can : (s : List ℕ) → Whole s → Can s
whole-can s w = record { rest = []; whole = subst Whole (sym (append-nil s)) w }

-- a beginning of a beginning is one
pub can-front : (s t : List ℕ) → Can (s ++ t) → Can s
can-front s t c = record { rest = t ++ c.rest; whole = subst Whole (append_assoc s t c.rest) c.whole }

-- nothing can follow a whole command: no longer bytes are a beginning
pub whole-last : (s : List ℕ) (c : ℕ) (t : List ℕ) → Whole s → Can (s ++ (c ∷ t)) → ⊥
whole-last s c t w k =
    let e : walk start (s ++ (c ∷ (t ++ k.rest))) ≡ some end = ap (walk start) (sym (append_assoc s (c ∷ t) k.rest)) ∙ walk-whole ((s ++ (c ∷ t)) ++ k.rest) k.whole in
    let f : walk start (s ++ (c ∷ (t ++ k.rest))) ≡ none = walk-append start s (c ∷ (t ++ k.rest)) ∙ ap (λ (o : Option Place). o >>= (λ q. walk q (c ∷ (t ++ k.rest)))) (walk-whole s w) in
    none-some end (sym f ∙ e)

-- a proper beginning of a whole command is no whole command
pub front-unfinished : (s : List ℕ) (c : ℕ) (t : List ℕ) → Whole (s ++ (c ∷ t)) → Whole s → ⊥
front-unfinished s c t v w = whole-last s c t w (whole-can (s ++ (c ∷ t)) v)

-- a proper beginning has at most 511 bytes
pub proper-short : (s : List ℕ) → Proper s → length s < command_limit
proper-short s p = go p.can.rest p.can.whole
  where
    go : (r : List ℕ) → Whole (s ++ r) → length s < command_limit
    go [] w = absurd (p.unfinished (subst Whole (append-nil s) w))
    go (c ∷ r) w = omega (arith, whole-short (s ++ (c ∷ r)) w, length-append s (c ∷ r))

-- the same of the tests

pub dead-front : (s t : List ℕ) → viable s ≡ false → viable (s ++ t) ≡ false
dead-front s t e = go (viable (s ++ t)) refl
  where
    go : (b : Bool) → viable (s ++ t) ≡ b → b ≡ false
    go true f = never (viable s) (can-viable s (can-front s t (viable-can (s ++ t) f))) e
    go false f = refl

pub dead-unfinished : (s : List ℕ) → viable s ≡ false → whole s ≡ false
dead-unfinished s e = go (whole s) refl
  where
    go : (b : Bool) → whole s ≡ b → b ≡ false
    go true f = never (viable s) (can-viable s (whole-can s (whole_is s f))) e
    go false f = refl
