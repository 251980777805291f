-- The model's places by a byte: how far the need can rise, and what is beyond the limit.
use Prim.Native.Nat.{ℕ, zero, suc, ◌+◌, ◌-◌, ◌*◌, ◌≤◌}
use native.Mathlib.Omega.{arith}
use mathlib.Core.Path.{◌≡◌, refl, ap, subst}
use mathlib.Core.Bool.{Bool, true, false, cond, ◌&&◌, not}
use mathlib.Core.Option.{some}
use lib.Dec.{leb, ltb, eqb}
use borrow.Author.Tests.{le-leb, leb-true, leb-false, lt-ltb, le-ltb}
use Rattle.model.specs.Number.{is_digit}
use Rattle.model.specs.Resp.{command_limit, array_mark, bulk_mark}
use Rattle.model.proofs.Basics.{and_left, some-eq, none-some}
use Rattle.model.proofs.Numbers.{digit-range}
use Rattle.stream.specs.Frame.{Header, array, bulk, Place, start, first, digit, line_end, body, body_end, words, allowed, after, to, next, least, need_after, need, fits}
use Rattle.stream.proofs.Viable.{stepped, need-after}
use Rattle.assembler.specs.Places.{beyond}

-- ---- the need

-- one digit more
longer-need : (h : Header) (n d : ℕ) → d ≤ 9 → 2 + need_after h (10 * n + d) ≤ 10 * (2 + need_after h n) + 54
longer-need array n d k = omega arith
longer-need (bulk later) n d k = omega arith

first-need : (h : Header) (d : ℕ) → d ≤ 9 → 2 + need_after h d ≤ 10 * (3 + need_after h (least h)) + 54
first-need array d k = omega arith
first-need (bulk later) d k = omega arith

-- a byte makes the need at most ten times as large
pub need-most : (p : Place) (c : ℕ) (q : Place) → next p c ≡ some q → need q ≤ 10 * need p + 54
need-most start c q e = stepped (eqb c array_mark) (first array) q e λ b z. let n = ap need z in omega arith
need-most (first h) c q e =
    stepped (is_digit c && allowed h (c - 48)) (digit h (c - 48)) q e λ b z.
    let n = ap need z in
    let d = digit-range c (and_left (is_digit c) (allowed h (c - 48)) b) in
    omega (arith, first-need h (c - 48) (omega arith))
need-most (digit h n) c q e = go (eqb c 13) e
  where
    go : (b : Bool) → cond b (some (line_end h n)) (to (is_digit c && (not (eqb n 0) && allowed h (10 * n + (c - 48)))) (digit h (10 * n + (c - 48)))) ≡ some q
        → need q ≤ 10 * (2 + need_after h n) + 54
    go true e = let m = ap need (some-eq e) in omega arith
    go false e =
        stepped (is_digit c && (not (eqb n 0) && allowed h (10 * n + (c - 48)))) (digit h (10 * n + (c - 48))) q e λ b z.
        let m = ap need z in
        let d = digit-range c (and_left (is_digit c) (not (eqb n 0) && allowed h (10 * n + (c - 48))) b) in
        omega (arith, longer-need h n (c - 48) (omega arith))
need-most (line_end h n) c q e = stepped (eqb c 10) (after h n) q e λ b z. let m = ap need z in omega (arith, need-after h n)
need-most (body zero later) c q e = stepped (eqb c 13) (body_end later) q e λ b z. let m = ap need z in omega arith
need-most (body (suc n) later) c q e = let m = ap need (some-eq e) in omega arith
need-most (body_end later) c q e = stepped (eqb c 10) (words later) q e λ b z. let m = ap need z in omega arith
need-most (words zero) c q e = none-some q e
need-most (words (suc n)) c q e = stepped (eqb c bulk_mark) (first (bulk n)) q e λ b z. let m = ap need z in omega arith

-- ---- what is beyond the limit

module _ (used : ℕ) where
  -- a need that a byte has lowered stays within the limit
  within : (p q : Place) → suc (need q) ≤ need p → used + need p ≤ command_limit → fits (suc used) q ≡ true
  within p q l h = le-leb (suc used + need q) command_limit (omega arith)

  digit-fits : (h : Header) (n : ℕ) → fits (suc used) (digit h n) ≡ not (beyond (digit h n) (suc used))
  digit-fits h n = go (leb (suc used + (2 + need_after h n)) command_limit) refl
    where
      go : (b : Bool) → leb (suc used + (2 + need_after h n)) command_limit ≡ b → b ≡ not (ltb command_limit (suc used + (2 + need_after h n)))
      go true e = rw (le-ltb command_limit (suc used + (2 + need_after h n)) (leb-true (suc used + (2 + need_after h n)) command_limit e))
      go false e = rw (lt-ltb command_limit (suc used + (2 + need_after h n)) (leb-false (suc used + (2 + need_after h n)) command_limit e))

  -- after a byte the limit need be asked of digits alone
  pub fits-beyond : (p : Place) (c : ℕ) (q : Place) → next p c ≡ some q → used + need p ≤ command_limit → fits (suc used) q ≡ not (beyond q (suc used))
  fits-beyond p c q e h = go p e h
    where
      to-be : (r : Place) → fits (suc used) r ≡ not (beyond r (suc used)) → r ≡ q → fits (suc used) q ≡ not (beyond q (suc used))
      to-be r f z = subst (λ (p : Place). fits (suc used) p ≡ not (beyond p (suc used))) z f

      go : (p : Place) → next p c ≡ some q → used + need p ≤ command_limit → fits (suc used) q ≡ not (beyond q (suc used))
      go start e h = stepped (eqb c array_mark) (first array) q e λ b. to-be (first array) (within start (first array) (omega arith) h)
      go (first h) e k = stepped (is_digit c && allowed h (c - 48)) (digit h (c - 48)) q e λ b. to-be (digit h (c - 48)) (digit-fits h (c - 48))
      go (digit h n) e k = by (eqb c 13) e
        where
          by : (b : Bool) → cond b (some (line_end h n)) (to (is_digit c && (not (eqb n 0) && allowed h (10 * n + (c - 48)))) (digit h (10 * n + (c - 48)))) ≡ some q
              → fits (suc used) q ≡ not (beyond q (suc used))
          by true e = to-be (line_end h n) (within (digit h n) (line_end h n) (omega arith) k) (some-eq e)
          by false e =
              stepped (is_digit c && (not (eqb n 0) && allowed h (10 * n + (c - 48)))) (digit h (10 * n + (c - 48))) q e λ b.
              to-be (digit h (10 * n + (c - 48))) (digit-fits h (10 * n + (c - 48)))
      go (line_end array n) e k = stepped (eqb c 10) (words n) q e λ b. to-be (words n) (within (line_end array n) (words n) (omega arith) k)
      go (line_end (bulk later) n) e k = stepped (eqb c 10) (body n later) q e λ b. to-be (body n later) (within (line_end (bulk later) n) (body n later) (omega arith) k)
      go (body zero later) e k = stepped (eqb c 13) (body_end later) q e λ b. to-be (body_end later) (within (body 0 later) (body_end later) (omega arith) k)
      go (body (suc n) later) e k = to-be (body n later) (within (body (suc n) later) (body n later) (omega arith) k) (some-eq e)
      go (body_end later) e k = stepped (eqb c 10) (words later) q e λ b. to-be (words later) (within (body_end later) (words later) (omega arith) k)
      go (words zero) e k = none-some q e
      go (words (suc n)) e k = stepped (eqb c bulk_mark) (first (bulk n)) q e λ b. to-be (first (bulk n)) (within (words (suc n)) (first (bulk n)) (omega arith) k)
