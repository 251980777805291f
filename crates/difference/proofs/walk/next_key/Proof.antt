-- `difference::next_key` meets its contract: an index is at its end, or the keys at both places are compared.
use native.Mathlib.Omega.{arith}
use mathlib.Core.Path.{sym, ap, ◌∙◌}
use borrow.Author.Rules.{rules}
use Rattle.model.specs.Table.{Record}
use Rattle.order.specs.Compared.{compared}
use Rattle.difference.specs.Walk.{next_of}
use Rattle.difference.proofs.Stepping.{records-next, first_ended, second_ended}
use Rattle.difference.proofs.walk.next_key.Statement.{statement}
use Rattle.difference.proofs.walk.next_key.Tie as tie

returns : tie.Need-returns-then-first-walk
returns c =
    let a = c.args in
    sym (first_ended a.before.now a.first.now a.after.now a.second.now a.walk.first a.walk.second c.if-first-walk.true)

returns-2 : tie.Need-returns-then-second-walk
returns-2 c =
    let a = c.args in
    sym (second_ended a.before.now a.first.now a.after.now a.second.now a.walk.first a.walk.second (omega (arith, c.if-first-walk.false)) c.if-second-walk.true)

returns-3 : tie.Need-returns
returns-3 c =
    let a = c.args in
    let n = records-next a.before.now a.first.now a.walk.first (omega (arith, c.if-first-walk.false)) in
    let o = records-next a.after.now a.second.now a.walk.second (omega (arith, c.if-second-walk.false)) in
    let key-is = c.key.ensures ∙ ap (λ (r : Record). r.key) c.record_at.ensures.is in
    let key2-is = c.key-2.ensures ∙ ap (λ (r : Record). r.key) c.record_at-2.ensures.is in
    c.compare.ensures ∙ (λ x. compared (key-is x) (key2-is x)) ∙ sym (λ x. next_of (n x) (o x))

pub next_key_spec : {M : Type 1} → statement M
next_key_spec =
    tie.close
    (tie.spec
    returns
    returns-2
    (λ c κs. search rules)
    (λ c κs. search rules)
    (λ c κs. search rules)
    (λ c κs. search rules)
    (λ c κs. search rules)
    returns-3)
