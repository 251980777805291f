-- A refused part shows nothing, and what a part shows stands in the table.
use Rattle.std.proofs.Common.{◌≡◌, ◌∙◌, ◌-◌, refl, sym}
use Rattle.model.specs.Bytes.{part}
use Rattle.model.specs.Table.{form128}
use Rattle.model.specs.CurrentValue.{current_value}
use Rattle.separation.proofs.Reading.{shown-refused}
use Rattle.current.proofs.Inside.{inside}
use Rattle.partition.specs.Parts.{model_view}
use Rattle.shared.proofs.Places.{shown-shifted, shows-at, shows-table, hidden}
use Rattle.shared.proofs.current_value.Goals as goal

pub returns-in_default : goal.returns-in_default
returns-in_default c =
    shows-at (shown-refused form128 (model_view c.args.view) c.args.table.now c.in_default.ensures c.args.time c.args.command.now)
    (record { bytes = refl; place = refl; shown = refl })

pub returns-then-shown : goal.returns-then-shown
returns-then-shown c =
    let p = c.in-Ok.part in
    shows-at (shown-shifted (model_view c.args.view) c.args.table.now c.in-Ok.ensures c.args.time c.args.command.now)
    (shows-table p.start (p.end - p.start) refl refl c.args.time _ (inside _ c.args.time c.args.command.now) c.if-shown.true c.current_value-value.ensures)

pub returns : goal.returns
returns c =
    let p = c.in-Ok.part in
    let s = current_value form128 (part p.start (p.end - p.start) c.args.table.now) c.args.time c.args.command.now in
    shows-at
    (shown-shifted (model_view c.args.view) c.args.table.now c.in-Ok.ensures c.args.time c.args.command.now
    ∙ hidden p.start s (sym c.current_value-value.ensures.shown ∙ c.if-shown.false))
    (record { bytes = refl; place = refl; shown = c.if-shown.false })
