-- Four bytes must be left, the mark, a digit, and CR LF or more digits.
use Rattle.std.proofs.Common.{◌≡◌, ◌∙◌, ◌+◌, ◌-◌, ◌≤◌, sym, ap, List, ℕ, length, drop, get_or, arith}
use mathlib.Core.Option.{some}
use Rattle.model.specs.Resp.{skip}
use Rattle.resp.specs.Words.{line_from}
use Rattle.resp.proofs.Places.{skip-other, skip-same}
use Rattle.resp.proofs.Lines.{line-short, line-unmarked}
use Rattle.resp.proofs.Starts.{start_none, start-ended}
use Rattle.resp.proofs.read_line.Goals as goal

-- the mark stands at the place
marked : (s : List ℕ) (at mark : ℕ) → 4 ≤ length s → at ≤ length s - 4 → get_or s at 0 ≡ mark → skip mark (drop at s) ≡ some (drop (at + 1) s)
marked s at mark least h e = skip-same s at mark (omega arith) e

pub returns-then-s-lt4 : goal.returns-then-s-lt4
returns-then-s-lt4 c = sym (line-short c.args.mark c.args.s.now c.args.at (omega arith))

pub returns-then-s-at : goal.returns-then-s-at
returns-then-s-at c = sym (line-short c.args.mark c.args.s.now c.args.at (omega arith))

pub returns-then-s-at-2 : goal.returns-then-s-at-2
returns-then-s-at-2 c = sym (line-unmarked _ _ _ (skip-other c.args.s.now c.args.at c.args.mark (omega arith) c.if-s-at-2.true))

pub long_line-requires : goal.long_line-requires
long_line-requires c = (omega arith, sym c.if-not-is_crlf.ensures)

pub returns-then-not-is_crlf : goal.returns-then-not-is_crlf
returns-then-not-is_crlf c = c.long_line.ensures ∙ ap (λ (x : ℕ). line_from x c.args.s.now c.args.at) c.if-s-at-2.false

pub returns-in_err-value : goal.returns-in_err-value
returns-in_err-value c =
    c.from_residual.ensures ∙ sym (start_none _ _ _ (marked _ _ _ c.if-s-lt4.false c.if-s-at.false c.if-s-at-2.false) c.in_err-value.ensures)

pub returns : goal.returns
returns c =
    sym (start-ended _ _ _ (marked _ _ _ c.if-s-lt4.false c.if-s-at.false c.if-s-at-2.false) c.in_ok-value.ensures (sym c.if-not-is_crlf.ensures))
