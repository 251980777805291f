-- A command has at most 16 words.
use Rattle.std.proofs.Common.{arith}
use Rattle.resp.proofs.Spans.{word-limit}
use Rattle.resp.proofs.Words.len.Goals as goal

pub returns-clause-few : goal.returns-clause-few
returns-clause-few c = omega (arith, word-limit c.args.self.now.split, c.args.self.now.counted)
