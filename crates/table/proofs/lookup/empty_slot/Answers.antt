use Rattle.std.proofs.Common.{◌≡◌, sym, ap, ◌∙◌, length, arith}
use mathlib.Core.Bool.{not}
use lib.ListN.{get_or}
use borrow.Author.Tests.{not-true, not-false}
use Rattle.model.specs.Table.{Slot, empty, is_empty, record_at}
use Rattle.record.specs.Forms.{form_of}
use Rattle.record.specs.Record.{is_used}
use Rattle.record.proofs.Reading.{slot-first}
use Rattle.table.specs.Slots.{slots_of}
use Rattle.table.proofs.Records.{count-is}
use Rattle.table.proofs.Search.{lowest_start, search-here, search-next, search-end}
use Rattle.table.proofs.Parts.{slot_is, slot-readable}
use Rattle.table.proofs.lookup.empty_slot.Goals as goal
use Rattle.table.proofs.lookup.empty_slot.Goals.{After-in_use}

pub loop-i-init : goal.loop-i-init
loop-i-init c =
    let f = form_of c.args.form in
    let t = c.args.table.now in
    record { within = omega arith; all = c.count-n.ensures ∙ count-is f t c.requires; left = lowest_start is_empty (slots_of f t) }

-- what the call said of the slot
told : (c : After-in_use) → c.in_use.result ≡ not (is_empty (get_or (slots_of (form_of c.args.form) c.args.table.now) c.loop-i.i empty))
told c =
    let f = form_of c.args.form in
    let t = c.args.table.now in
    let i = c.loop-i.i in
    c.in_use.ensures ∙ ap is_used c.slot.ensures ∙ sym (slot-first f (record_at f i t) (slot-readable f t c.requires i (omega arith)))
    ∙ ap (λ (x : Slot). not (is_empty x)) (slot_is f t c.requires i (omega arith))

pub returns-then-not-in_use : goal.returns-then-not-in_use
returns-then-not-in_use c =
    search-here c.loop-i.invariant c.loop-i-test.true (not-false _ (sym (told (goal.at.returns-then-not-in_use c).After-in_use) ∙ c.if-not-in_use.true))

pub loop-i-preserved : goal.loop-i-preserved
loop-i-preserved c =
    search-next c.loop-i.invariant c.loop-i-test.true (not-true _ (sym (told (goal.at.loop-i-preserved c).After-in_use) ∙ c.if-not-in_use.false))

pub returns : goal.returns
returns c = search-end c.loop-i.invariant (omega arith)
