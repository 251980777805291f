-- The loop keeps that the words before word i are noted, and that the reader holds the command at the place of word i.
use Rattle.std.proofs.Common.{◌≡◌}
use Rattle.resp.proofs.Spans.{Filled}
use Rattle.resp.proofs.read_words.Given as goal

abbrev pub invariant-loop-i : goal.invariant-loop-i
invariant-loop-i l = record { command : l.reader.command.now ≡ l.s; filled : Filled l.s l.at l.n l.places l.reader.at l.i }
