use Rattle.std.proofs.Common.{rules, ◌≡◌, ◌+◌, sym, ap, length, Err, refl, arith}
use Rattle.model.specs.Checked.{ok}
use Rattle.model.specs.Table.{Record}
use Rattle.model.specs.Execute.{joined, version_after}
use Rattle.command.specs.Command.{model_change, model_end}
use Rattle.live.specs.Under.{stored_in}
use Rattle.put.specs.Put.{value_in}
use Rattle.put.proofs.Putting.{put-highest, put-long, put-at, puts-refused}
use Rattle.put.proofs.Joining.{slot-live, length-live, puts-joined}
use Rattle.put.proofs.join_value.Goals as goal
use Rattle.put.proofs.join_value.Goals.{After-value-old}

pub returns-in_err-version : goal.returns-in_err-version
returns-in_err-version c =
    let e : c.from_residual.result ≡ Err c.in_err-version.field-0.0 = search rules in
    puts-refused _ _ _ _ (put-highest _ _ _ _ _ _ (rw c.in-Live.is (sym c.in_err-version.ensures))) e

-- the length of the joined value
whole : (c : After-value-old) → length (joined (model_end c.args.join.end) c.args.value.now (value_in c.args.table.now c.args.target)) ≡ length c.value-old.result.now + length c.args.value.now
whole c =
    let e = length-live c.args.table.now c.args.target _ _ c.in-Live.is (model_end c.args.join.end) c.args.value.now in
    omega (arith, e, ap length c.value-old.ensures, ap (λ (r : Record). length r.value) c.record_at.ensures.is)

pub returns-then-limit-old : goal.returns-then-limit-old
returns-then-limit-old c =
    let w = whole (goal.at.returns-then-limit-old c).After-value-old in
    let v : version_after (model_change c.args.join.terms.change) (stored_in c.args.target.found) ≡ ok c.in_ok-version.version = rw c.in-Live.is (sym c.in_ok-version.ensures) in
    puts-refused _ _ _ _ (put-long _ c.args.target _ _ _ _ v (omega (arith, w))) refl

pub returns : goal.returns
returns c =
    let w = whole (goal.at.returns c).After-value-old in
    let t = c.args.table.now in
    let g = c.args.target in
    puts-joined t g _ _ c.in-Live.is _ _ c.requires.under _ (model_end c.args.join.end) _ _
    (put-at t g _ _ _ _ (rw c.in-Live.is (sym c.in_ok-version.ensures)) (omega (arith, w)) (slot-live t g _ _ c.in-Live.is))
    _ c.attributes_after-attributes.ensures _ c.at_front.ensures c.join.ensures
