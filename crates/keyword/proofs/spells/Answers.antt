-- A word of another length is another word, and one of that length has the number exactly where it spells the keyword.
use mathlib.Core.Path.{sym, ◌∙◌}
use native.Mathlib.Omega.{arith}
use borrow.Author.Tests.{ne_eqb}
use lib.ListN.{length}
use Rattle.model.specs.Bytes.{little_endian}
use Rattle.model.proofs.Records.{length-little_endian}
use Rattle.keyword.proofs.Codes.{other_length, code_same}
use Rattle.keyword.proofs.spells.Goals as goal

pub returns-then-w-n : goal.returns-then-w-n
returns-then-w-n c =
    let a = c.args in
    record {
      told = rw c.code_of.ensures (code_same a.w.now a.n a.number (λ i. (c.type_inv.w i).fits) (omega arith) c.requires.1);
    }

pub returns-else-w-n : goal.returns-else-w-n
returns-else-w-n c =
    let a = c.args in
    let other = length-little_endian a.n a.number in
    record {
      told = ne_eqb (length a.w.now) a.n (λ e. omega arith) ∙ sym (other_length a.w.now (little_endian a.n a.number) (λ e. omega arith));
    }
