-- A word's span holds that word.
use Rattle.std.proofs.Common.{◌<◌, length, refl, arith}
use Rattle.resp.specs.Spans.{words_of}
use Rattle.resp.proofs.Spans.{few-of, within-of, word-of}
use Rattle.resp.proofs.Words.word.Goals as goal

pub span-w-requires : goal.span-w-requires
span-w-requires c = few-of c.args.self.now.split refl c.args.i (omega (arith, c.args.self.now.counted))

pub slice_bounds-result-end : goal.slice_bounds-result-end
slice_bounds-result-end c =
    let h : c.args.i < length (words_of c.args.self.now.bytes.now) = omega (arith, c.args.self.now.counted) in
    omega (arith, within-of c.args.self.now.split refl c.args.i h (c.span-w.ensures.word h))

pub returns-then-i-self : goal.returns-then-i-self
returns-then-i-self c =
    let h : c.args.i < length (words_of c.args.self.now.bytes.now) = omega (arith, c.args.self.now.counted) in
    word-of c.args.self.now.split refl c.args.i h (c.span-w.ensures.word h)
