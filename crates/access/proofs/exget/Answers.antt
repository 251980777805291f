use Rattle.std.proofs.Common.{◌≡◌, ap, ◌∙◌}
use Rattle.model.specs.Table.{Record}
use Rattle.table.specs.Slots.{record_in}
use Rattle.live.specs.Under.{shape_of}
use Rattle.live.proofs.Cases.{not-live, live_here_lem}
use Rattle.access.proofs.Doing.{nil-in, get_in, replied-get, does-answer}
use Rattle.access.proofs.Acting.{exget-absent, live_here, exget-live}
use Rattle.access.proofs.exget.Goals as goal
use Rattle.access.proofs.exget.Goals.{After-value-value}

-- the value that is shown is the live record's
value-is : (c : After-value-value) → c.value-value.result.now ≡ (record_in (shape_of c.args.target) c.args.table.now c.in-Live.slot).value
value-is c = c.value-value.ensures ∙ ap (λ (r : Record). r.value) c.record_at.ensures.is

pub nil-requires : goal.nil-requires
nil-requires c = nil-in c.requires.1

pub returns-in_default : goal.returns-in_default
returns-in_default c = does-answer _ c.args.table.now _ _ _ _ (exget-absent c.args.table.now c.args.target _ _ (not-live _ c.in_default.not-Live) _) c.nil.ensures

pub get-requires : goal.get-requires
get-requires c =
    let h = live_here_lem (shape_of c.args.target) c.args.table.now _ _ c.in-Live.is c.requires.0.at in
    (get_in c.requires.1 c.args.with_flags _ _ h.range (value-is (goal.at.get-requires c).After-value-value), h.range.version-to)

pub returns : goal.returns
returns c =
    does-answer _ c.args.table.now _ _ _ _ (exget-live c.args.table.now c.args.target _ _ _ _ c.in-Live.is _)
    (replied-get (live_here c.args.table.now c.args.target _ c.in-Live.attributes) _ (value-is (goal.at.returns c).After-value-value) c.args.with_flags c.get.ensures)
