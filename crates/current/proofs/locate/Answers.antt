-- A refusal by the gate or of the parse shows nothing, and a parsed command what its action shows of what stands under its key.
use Rattle.std.proofs.Common.{◌∙◌}
use Rattle.entry.specs.declared.Query.{Query}
use Rattle.current.proofs.Gate.{not-ready, ready-fields, ready-at, ready-shown}
use Rattle.current.proofs.locate.Goals as goal

pub returns-in_default : goal.returns-in_default
returns-in_default c =
    let q : Query = record { time = c.args.time; room = c.room-room.result } in
    not-ready q c.args.table.now c.args.command.now c.room-room.ensures c.in_default.field-0 c.in_default.ensures

pub returns-in_default-task : goal.returns-in_default-task
returns-in_default-task c =
    let q : Query = record { time = c.args.time; room = c.room-room.result } in
    ready-fields q c.args.table.now c.args.command.now c.room-room.ensures c.in-Ok.ready c.in-Ok.ensures c.in_default-task.is

pub shown_by-requires-clause-action_at : goal.shown_by-requires-clause-action_at
shown_by-requires-clause-action_at c =
    let q : Query = record { time = c.args.time; room = c.room-room.result } in
    ready-at q c.args.table.now c.args.command.now c.room-room.ensures c.in-Ok.ready c.in-Ok.ensures c.in-Action.is

pub returns : goal.returns
returns c =
    let q : Query = record { time = c.args.time; room = c.room-room.result } in
    c.shown_by.ensures ∙ ready-shown q c.args.table.now c.args.command.now c.room-room.ensures c.in-Ok.ready c.in-Ok.ensures c.in-Action.is
