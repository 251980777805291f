-- `integrity::is_good` meets its contract: the arrays have room for the slots of any table.
use native.Mathlib.Omega.{arith}
use borrow.Author.Rules.{rules}
use Rattle.record.specs.Forms.{form_of}
use Rattle.integrity.proofs.Arrays.{fresh}
use Rattle.integrity.proofs.is_good.Statement.{statement}
use Rattle.integrity.proofs.is_good.Tie as tie

pub is_good_spec : {M : Type 1} → statement M
is_good_spec =
    tie.close
    (tie.spec
    (λ c. search rules) (λ c. search rules)
    (λ c κs. let a = c.args in fresh (form_of a.form) a.table.now 2048 256 (omega arith) (λ h. h))
    (λ c. c.check.ensures.answer))
