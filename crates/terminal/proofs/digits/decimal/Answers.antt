-- A number of 64 bits has at most 20 digits.
use Rattle.std.proofs.Common.{◌≤◌, length, ap, arith}
use Rattle.model.specs.Number.{nat_text}
use Rattle.model.proofs.Numbers.{length-nat_text}
use Rattle.slice.proofs.Writing.{wrote-front}
use Rattle.terminal.proofs.digits.decimal.Goals as goal

pub write_natural-requires : goal.write_natural-requires
write_natural-requires c = let few : length (nat_text c.args.n) ≤ 20 = length-nat_text 19 c.args.n (omega arith) in omega arith

pub returns : goal.returns
returns c =
    let w = c.write_natural.ensures in
    let few : length (nat_text c.args.n) ≤ 20 = length-nat_text 19 c.args.n (omega arith) in
    let front = wrote-front _ _ _ _ w in
    record { wrote = w; prefix_len = (omega (arith, w.place), omega (arith, w.place, ap length front)); text = front }
