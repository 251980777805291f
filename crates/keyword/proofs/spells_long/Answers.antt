-- A shorter word is another word, and others spell the keyword where both of their parts do.
use mathlib.Core.Path.{◌≡◌, sym, ◌∙◌}
use mathlib.Core.List.{◌++◌}
use Prim.Native.Nat.{◌+◌, ◌-◌}
use native.Mathlib.Omega.{arith}
use lib.ListN.{length, length-append}
use borrow.Author.Tests.{lt-leb}
use Rattle.model.specs.Bytes.{little_endian}
use Rattle.model.proofs.Records.{length-little_endian}
use Rattle.keyword.proofs.Codes.{other_length, same_parts}
use Rattle.keyword.proofs.spells_long.Goals as goal

pub returns-then-w-ge8 : goal.returns-then-w-ge8
returns-then-w-ge8 c =
    let a = c.args in
    let w = a.w.now in
    let v = little_endian 8 a.first in
    record {
      told = rw (c.spells.ensures.told, c.spells-then-w-ge8.ensures.told)
          (same_parts 8 (length w - 8) w v (little_endian a.n a.rest) (length-little_endian 8 a.first) (omega arith) (omega arith));
    }

pub returns-else-w-ge8 : goal.returns-else-w-ge8
returns-else-w-ge8 c =
    let a = c.args in
    let v = little_endian 8 a.first in
    let t = little_endian a.n a.rest in
    let long : length (v ++ t) ≡ 8 + length t = omega (arith, length-append v t, length-little_endian 8 a.first) in
    record { told = lt-leb 8 (length a.w.now) (omega arith) ∙ sym (other_length a.w.now (v ++ t) (λ e. omega arith)) }
