-- Each turn notes the word at the reader's place, or finds that none stands there.
use Rattle.std.proofs.Common.{refl, ℕ, List, ap, ◌∙◌}
use Rattle.resp.specs.Words.{word_from}
use Rattle.resp.proofs.Spans.{filled-first, filled-last, may-note, noted-word, noted-none}
use Rattle.resp.proofs.read_words.Goals as goal

pub loop-i-init : goal.loop-i-init
loop-i-init c = record { command = refl; filled = filled-first c.requires.0 c.requires.1 }

pub returns-in_default : goal.returns-in_default
returns-in_default c =
    let e = c.in_default.ensures ∙ ap (λ (s : List ℕ). word_from s c.loop-i.reader.at) c.loop-i.invariant.command in
    noted-none c.requires.0 c.loop-i.invariant.filled c.loop-i-test.true e

pub note-requires : goal.note-requires
note-requires c =
    let e = c.in-Some.ensures ∙ ap (λ (s : List ℕ). word_from s c.loop-i.reader.at) c.loop-i.invariant.command in
    may-note c.requires.0 c.loop-i.invariant.filled c.loop-i-test.true e

pub loop-i-preserved : goal.loop-i-preserved
loop-i-preserved c =
    let e = c.in-Some.ensures ∙ ap (λ (s : List ℕ). word_from s c.loop-i.reader.at) c.loop-i.invariant.command in
    record {
      command = c.loop-i.invariant.command;
      filled = noted-word c.requires.0 c.loop-i.invariant.filled c.loop-i-test.true e c.note.ensures;
    }

pub returns : goal.returns
returns c = filled-last c.loop-i.invariant.filled c.loop-i-test.false c.is_end.ensures
