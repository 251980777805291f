use Rattle.std.proofs.Common.{refl, ap, ◌∙◌, ◌≡◌}
use borrow.Author.Tests.{ne_eqb}
use Rattle.model.specs.Table.{Record}
use Rattle.model.specs.Execute.{swapping}
use Rattle.command.specs.Command.{model_expire}
use Rattle.table.specs.Slots.{record_in}
use Rattle.live.specs.Under.{shape_of}
use Rattle.live.proofs.Cases.{not-live, live_here_lem}
use Rattle.access.proofs.Doing.{minus_one-in, stale-in, replied-stale, does-answer}
use Rattle.access.proofs.Acting.{live_here, excas-absent, excas-live}
use Rattle.write.proofs.Writing.{finish-in, does-as, write_new, excas-own}
use Rattle.write.proofs.excas.Goals as goal
use Rattle.write.proofs.excas.Goals.{After-value-old}

pub minus_one-requires : goal.minus_one-requires
minus_one-requires c = minus_one-in c.requires.ready.room

pub returns-in_default : goal.returns-in_default
returns-in_default c =
    does-answer _ c.args.table.now _ _ _ _ (excas-absent c.args.table.now c.args.target _ _ (not-live _ c.in_default.not-Live) _) c.minus_one.ensures

-- the value that is shown is the live record's
value-is : (c : After-value-old) → c.value-old.result.now ≡ (record_in (shape_of c.args.target) c.args.table.now c.in-Live.slot).value
value-is c = c.value-old.ensures ∙ ap (λ (r : Record). r.value) c.record_at.ensures.is

pub stale-requires : goal.stale-requires
stale-requires c =
    let h = live_here_lem (shape_of c.args.target) c.args.table.now _ _ c.in-Live.is c.requires.ready.under.sound.at in
    (stale-in c.requires.ready.room _ _ h.range (value-is (goal.at.stale-requires c).After-value-old), h.range.version-to)

pub returns-then-swap-attributes : goal.returns-then-swap-attributes
returns-then-swap-attributes c =
    does-answer _ c.args.table.now _ _ _ _ (excas-live c.args.table.now c.args.target _ _ _ _ c.in-Live.is c.args.swap ∙ rw (ne_eqb _ _ c.if-swap-attributes.true))
    (replied-stale (live_here c.args.table.now c.args.target _ c.in-Live.attributes) _ (value-is (goal.at.returns-then-swap-attributes c).After-value-old) c.stale.ensures)

pub finish-requires : goal.finish-requires
finish-requires c = finish-in c.requires.ready (swapping (model_expire c.args.swap.expire)) _ _ tt c.store_value-stored.ensures

pub returns : goal.returns
returns c =
    does-as (excas-own c.args.table.now c.args.target _ _ _ _ c.in-Live.is c.args.swap c.if-swap-attributes.false ∙ write_new c.args.table.now c.args.target _ _ _ _ _ refl)
    (c.finish.ensures.does _ c.args.table.now _ _ c.store_value-stored.ensures)
