-- The length, the first line, its number's range and the words are tested in the model's order.
use Rattle.std.proofs.Common.{◌≡◌, ◌∙◌, List, ℕ, Some, sym}
use Rattle.model.specs.Resp.{array_mark}
use Rattle.resp.specs.declared.Line.{Line}
use Rattle.resp.specs.Words.{line_from}
use Rattle.resp.proofs.Lines.{LineAt, line_at}
use Rattle.resp.proofs.Commands.{decode-long, decode-over, decode-none, decode-many, decode-cut, decode-whole}
use Rattle.resp.proofs.Spans.{first-words, first-place, counted-not, counted-whole}
use Rattle.resp.proofs.count_words.Goals as goal

-- the first line
first : {s : List ℕ} {l : Line} → Some l ≡ line_from array_mark s 0 → LineAt array_mark s 0 l.value l.next
first e = line_at array_mark _ 0 (sym e)

pub returns-then-s-gt512 : goal.returns-then-s-gt512
returns-then-s-gt512 c = counted-not _ _ (decode-long _ c.if-s-gt512.true)

pub returns-in_err-value : goal.returns-in_err-value
returns-in_err-value c = rw c.from_residual.ensures (counted-not _ _ (decode-over _ c.if-s-gt512.false (sym c.in_err-value.ensures)))

pub returns-then-value-lt1 : goal.returns-then-value-lt1
returns-then-value-lt1 c = counted-not _ _ (decode-none _ c.if-s-gt512.false (first c.in_ok-value.ensures) c.if-value-lt1.true)

pub returns-then-value-gt16 : goal.returns-then-value-gt16
returns-then-value-gt16 c = counted-not _ _ (decode-many _ c.if-s-gt512.false (first c.in_ok-value.ensures) c.if-value-lt1.false c.if-value-gt16.true)

pub read_words-requires : goal.read_words-requires
read_words-requires c = (
  record {
    short = c.if-s-gt512.false;
    few = c.if-value-gt16.false;
    words = λ ws d. first-words _ ws d (first c.in_ok-value.ensures);
    first = λ ws d. first-place _ ws d (first c.in_ok-value.ensures);
  },
  c.requires,
)

pub returns-then-read_words : goal.returns-then-read_words
returns-then-read_words c =
    let d =
    decode-whole _ c.if-s-gt512.false (first c.in_ok-value.ensures) c.if-value-lt1.false c.if-value-gt16.false
    (sym c.read_words.ensures.whole ∙ c.if-read_words.true) in
    counted-whole _ _ d.1 d.2 (c.read_words.ensures.known c.if-read_words.true _ d.1)

pub returns : goal.returns
returns c =
    counted-not _ _
    (decode-cut _ c.if-s-gt512.false (first c.in_ok-value.ensures) c.if-value-lt1.false c.if-value-gt16.false
    (sym c.read_words.ensures.whole ∙ c.if-read_words.false))
