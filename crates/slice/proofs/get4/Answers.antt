use Rattle.std.proofs.Common.{◌≡◌, ◌-◌, ◌∙◌, ap, length, take, drop, length-drop, arith}
use lib.Seq.{take_all}
use Rattle.model.specs.Bytes.{part}
use Rattle.slice.proofs.LittleEndian.{from-bytes_4}
use Rattle.slice.proofs.get4.Goals as goal

pub returns : goal.returns
returns c =
    let rest = drop c.args.at c.args.s.now in
    let first = rw c.unwrap.ensures at c.first_chunk.ensures.cases in
    let chunk : c.unwrap.result.now ≡ part c.args.at 4 c.args.s.now = first.same ∙ ap (take 4) (take_all (length c.args.s.now - c.args.at) rest (omega (arith, length-drop c.args.at c.args.s.now))) in
    c.from_le_bytes.ensures ∙ from-bytes_4 c.args.at c.args.s.now _ c.requires chunk
