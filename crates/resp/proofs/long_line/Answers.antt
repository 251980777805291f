-- A second digit is read and a third if there is one, and then the line ends or is none.
use Rattle.std.proofs.Common.{◌≡◌, ◌∙◌, ◌+◌, ◌≤◌, List, ℕ, Some, length, sym, refl, drop, get_or, arith}
use mathlib.Core.Option.{some}
use Rattle.model.specs.Resp.{skip}
use Rattle.resp.specs.Words.{digit_at}
use Rattle.resp.proofs.Places.{skip-same}
use Rattle.resp.proofs.Digits.{digit-of}
use Rattle.resp.proofs.Lines.{line-over}
use Rattle.resp.proofs.Starts.{Upto, start_none, upto-ended, upto-cut, start-cut, start-zero, upto-two, three-over, upto-three}
use Rattle.resp.proofs.long_line.Goals.{in-Some+else-value-gt512, in_default}
use Rattle.resp.proofs.long_line.Goals as goal

-- any mark stands at the place
marked : (s : List ℕ) (at : ℕ) → at + 4 ≤ length s → skip (get_or s at 0) (drop at s) ≡ some (drop (at + 1) s)
marked s at h = skip-same s at _ (omega arith) refl

small : (s : List ℕ) (at : ℕ) {d : ℕ} → Some d ≡ digit_at s at → d ≤ 9
small s at e = (digit-of s at e).small

pub returns-in_err-first : goal.returns-in_err-first
returns-in_err-first c = c.from_residual.ensures ∙ sym (start_none _ _ _ (marked _ _ c.requires.0) c.in_err-first.ensures)

pub returns-then-first-eq0 : goal.returns-then-first-eq0
returns-then-first-eq0 c = sym (start-zero _ _ _ (marked _ _ c.requires.0) c.in_ok-first.ensures c.requires.1 c.if-first-eq0.true)

pub returns-in_err-second : goal.returns-in_err-second
returns-in_err-second c = c.from_residual-in_err-second.ensures ∙ sym (start-cut _ _ _ (marked _ _ c.requires.0) c.in_ok-first.ensures c.requires.1 c.in_err-second.ensures)

pub overflow_mul-value : goal.overflow_mul-value
overflow_mul-value c = record { fits = omega (arith, small _ _ c.in_ok-first.ensures) }

pub overflow_add-value : goal.overflow_add-value
overflow_add-value c = record { fits = omega (arith, small _ _ c.in_ok-first.ensures, small _ _ c.in_ok-second.ensures) }

pub overflow_mul-value-in-Some : goal.overflow_mul-value-in-Some
overflow_mul-value-in-Some c = record { fits = omega (arith, small _ _ c.in_ok-first.ensures, small _ _ c.in_ok-second.ensures) }

pub overflow_add-value-in-Some : goal.overflow_add-value-in-Some
overflow_add-value-in-Some c = record { fits = omega (arith, small _ _ c.in_ok-first.ensures, small _ _ c.in_ok-second.ensures, small _ _ c.in-Some.ensures) }

pub returns-then-value-gt512 : goal.returns-then-value-gt512
returns-then-value-gt512 c =
    sym (line-over _ _ _ (marked _ _ c.requires.0)
    (three-over _ _ c.in_ok-first.ensures c.in_ok-second.ensures (omega arith) c.in-Some.ensures c.if-value-gt512.true))

pub returns-then-ends_line : goal.returns-then-ends_line
returns-then-ends_line c =
    let u : Upto c.args.s.now c.args.at c.match-digit_at.value c.match-digit_at.next =
    elim c.match-digit_at.branch [
      | in-Some+else-value-gt512 w ↦
          rw (w.value-is, w.next-is)
          (upto-three _ _ c.in_ok-first.ensures c.in_ok-second.ensures (omega arith) w.in-Some.ensures w.if-value-gt512.false)
      | in_default w ↦ rw (w.value-is, w.next-is) (upto-two _ _ c.in_ok-first.ensures c.in_ok-second.ensures (omega arith) w.in_default.ensures)
    ] in
    sym (upto-ended _ _ _ (marked _ _ c.requires.0) u (sym c.if-ends_line.ensures))

pub returns : goal.returns
returns c =
    let u : Upto c.args.s.now c.args.at c.match-digit_at.value c.match-digit_at.next =
    elim c.match-digit_at.branch [
      | in-Some+else-value-gt512 w ↦
          rw (w.value-is, w.next-is)
          (upto-three _ _ c.in_ok-first.ensures c.in_ok-second.ensures (omega arith) w.in-Some.ensures w.if-value-gt512.false)
      | in_default w ↦ rw (w.value-is, w.next-is) (upto-two _ _ c.in_ok-first.ensures c.in_ok-second.ensures (omega arith) w.in_default.ensures)
    ] in
    sym (upto-cut _ _ _ (marked _ _ c.requires.0) u (sym c.if-ends_line.ensures))
