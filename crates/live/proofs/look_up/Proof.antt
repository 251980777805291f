-- `live::look_up` meets its contract, by the slot found and whether its record is live.
use borrow.Author.Rules.{rules}
use mathlib.Core.Path.{◌≡◌, sym, ap, ◌∙◌}
use mathlib.Core.Option.{some}
use Rattle.model.specs.Search.{live}
use Rattle.outcome.specs.Outcome.{to_model}
use Rattle.record.specs.Forms.{form_of}
use Rattle.record.specs.Attributes.{attributes_of}
use Rattle.table.specs.Slots.{slots_of, key_slot}
use Rattle.table.proofs.Finding.{found_at}
use Rattle.live.proofs.Looking.{is-absent, is_live, is-expired}
use Rattle.live.proofs.look_up.Statement.{statement}
use Rattle.live.proofs.look_up.Tie as tie

abbrev start : tie.In-Some → tie.Start
start c = c.before.before.before.before.before.before

-- the slot that was found
at : (c : tie.In-Some) → some c.in-Some.slot ≡ key_slot (start c).args.key.now (slots_of (form_of (start c).args.form) (start c).args.table.now)
at c = ap to_model (sym c.in-Some.is) ∙ c.find.ensures

returns : tie.Need-returns-in_default
returns c =
    is-absent _ c.args.table.now c.requires.0 c.args.time c.args.key.now (ap to_model (sym c.in_default.is) ∙ c.find.ensures)

record-at-requires : tie.Need-record_at-r-requires
record-at-requires c κs =
    let s = start c in
    (s.requires.0, (found_at _ s.args.table.now s.args.key.now _ (at c)).in_use)

returns-2 : tie.Need-returns-then-is_live
returns-2 c =
    let s = start c.before.before.before.before in
    is_live _ s.args.table.now s.requires.0 s.args.time s.args.key.now _ (at c.before.before.before.before) _
    (c.attributes_of-attributes.ensures ∙ ap attributes_of c.record_at-r.ensures.is)
    (ap (live s.args.time) (sym c.record_at-r.ensures.is) ∙ (sym c.is_live.ensures ∙ c.if-is_live.true))

returns-3 : tie.Need-returns
returns-3 c =
    let s = start c.before.before.before.before in
    is-expired _ s.args.table.now s.requires.0 s.args.time s.args.key.now _ (at c.before.before.before.before)
    (ap (live s.args.time) (sym c.record_at-r.ensures.is) ∙ (sym c.is_live.ensures ∙ c.if-is_live.false))

pub look_up_spec : {M : Type 1} → statement M
look_up_spec =
    tie.close
    (tie.spec
    (λ c κs. search rules)
    (λ c. search rules)
    (λ c. search rules)
    returns
    record-at-requires
    (λ c κs. search rules)
    (λ c κs. search rules)
    returns-2
    returns-3)
