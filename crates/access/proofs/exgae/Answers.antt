use Rattle.std.proofs.Common.{◌∙◌, ap, []}
use Rattle.model.specs.Execute.{expiry_after}
use Rattle.command.specs.Command.{model_expire}
use Rattle.live.specs.declared.Lookup.{Lookup}
use Rattle.live.specs.Under.{stored_in}
use Rattle.live.proofs.Cases.{not-live}
use Rattle.access.proofs.Doing.{nil-in, does-answer, does-after}
use Rattle.access.proofs.Acting.{exget-live, exgae-absent, exgae-live, touched}
use Rattle.access.proofs.exgae.Goals as goal

pub nil-requires : goal.nil-requires
nil-requires c = nil-in c.requires.1

pub returns-in_default : goal.returns-in_default
returns-in_default c = does-answer _ c.args.table.now _ _ _ _ (exgae-absent c.args.table.now c.args.target _ _ (not-live _ c.in_default.not-Live) _) c.nil.ensures

pub returns : goal.returns
returns c =
    let h = c.in-Live.is in
    does-after _ c.args.table.now _ _ _ _ (exgae-live c.args.table.now c.args.target _ _ _ _ h _)
    (c.set_attributes.ensures ∙ touched c.args.table.now c.args.target [] [] _ _ h c.args.expire _
    (c.expiry_after-expiry.ensures ∙ ap (λ (l : Lookup). expiry_after (model_expire c.args.expire) (stored_in l)) h))
    (exget-live c.args.table.now c.args.target _ _ _ _ h _) c.exget-shown.ensures
