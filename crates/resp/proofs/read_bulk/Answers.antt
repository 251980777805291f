-- A line says the length, and CR LF after that many bytes ends the word.
use Rattle.std.proofs.Common.{◌≡◌, ◌∙◌, ◌+◌, List, ℕ, Some, sym, arith}
use Rattle.model.specs.Resp.{bulk_mark}
use Rattle.resp.specs.declared.Line.{Line}
use Rattle.resp.specs.Words.{line_from}
use Rattle.resp.proofs.Places.{ends-line}
use Rattle.resp.proofs.Lines.{LineAt, line_at}
use Rattle.resp.proofs.Bulks.{word_over, word_cut, word-whole}
use Rattle.resp.proofs.read_bulk.Goals as goal

-- the line that says the length
sized : {s : List ℕ} {at : ℕ} {l : Line} → Some l ≡ line_from bulk_mark s at → LineAt bulk_mark s at l.value l.next
sized e = line_at bulk_mark _ _ (sym e)

pub returns-in_err-line : goal.returns-in_err-line
returns-in_err-line c = c.from_residual.ensures ∙ sym (word_over _ _ c.requires (sym c.in_err-line.ensures))

pub overflow_add-end : goal.overflow_add-end
overflow_add-end c = let l = sized c.in_ok-line.ensures in record { fits = omega (arith, l.small, l.within, c.requires) }

pub overflow_add-result : goal.overflow_add-result
overflow_add-result c = record { fits = omega (arith, (ends-line c.args.s.now (c.in_ok-line.line.next + c.in_ok-line.line.value) (sym c.if-ends_line.ensures)).within, c.requires) }

pub returns-then-ends_line : goal.returns-then-ends_line
returns-then-ends_line c = sym (word-whole _ _ (sized c.in_ok-line.ensures) (sym c.if-ends_line.ensures))

pub returns : goal.returns
returns c = sym (word_cut _ _ (sized c.in_ok-line.ensures) (sym c.if-ends_line.ensures))
