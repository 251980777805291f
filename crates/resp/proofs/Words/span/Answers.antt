-- Both of a word's places are in the array.
use Rattle.std.proofs.Common.{refl}
use Rattle.resp.proofs.Spans.{span-of}
use Rattle.resp.proofs.Words.span.Goals as goal

pub returns-clause-word : goal.returns-clause-word
returns-clause-word c h = span-of c.args.self.now.split refl _ h
