use Rattle.std.proofs.Common.{◌≡◌, ◌+◌, ◌-◌, ◌/◌, List, ℕ, Ordering, sym, ap, ◌∙◌, subst, arith}
use Rattle.record.specs.Forms.{form_of}
use Rattle.model.specs.Table.{Record}
use Rattle.order.specs.Compared.{compared}
use Rattle.order.specs.Places.{key_at_place}
use Rattle.order.proofs.Compared.{Stated, compared-stated}
use Rattle.order.proofs.Halving.{lower-half, upper-half}
use Rattle.order.proofs.search.find_place.Goals as goal
use Rattle.order.proofs.search.find_place.Goals.{After-key}

-- what a comparison tells, of the key that was compared
said : (k x m : List ℕ) {o : Ordering} → o ≡ compared k x → x ≡ m → Stated k m o
said k x m {o} e q = subst (λ (y : List ℕ). Stated k y o) q (subst (Stated k x) (sym e) (compared-stated k x))

-- the key in the middle
middle : (c : After-key) → c.key.result.now ≡ key_at_place (form_of c.args.form) c.args.table.now c.args.list.now (c.loop-low.low + (c.loop-low.high - c.loop-low.low) / 2)
middle c = c.key.ensures ∙ ap (λ (x : Record). x.key) c.record_at-r.ensures.is

pub loop-low-preserved-in-Less : goal.loop-low-preserved-in-Less
loop-low-preserved-in-Less c =
    lower-half c.requires.ascends c.loop-low.invariant (omega arith) (omega arith) (said c.args.key.now c.key.result.now _ c.in-Less.ensures (middle (goal.at.loop-low-preserved-in-Less c).After-key))

pub returns-in-Equal : goal.returns-in-Equal
returns-in-Equal c =
    (omega (arith, c.loop-low.invariant.within), sym (said c.args.key.now c.key.result.now _ c.in-Equal.ensures (middle (goal.at.returns-in-Equal c).After-key)))

pub loop-low-preserved : goal.loop-low-preserved
loop-low-preserved c =
    upper-half c.requires.ascends c.loop-low.invariant (omega arith) (omega arith) (said c.args.key.now c.key.result.now _ c.in-Greater.ensures (middle (goal.at.loop-low-preserved c).After-key))
