use Rattle.std.proofs.Common.{◌≡◌, sym, ap, ◌∙◌, length, List, ℕ, arith}
use mathlib.Core.Bool.{not}
use lib.ListN.{get_or}
use Rattle.model.specs.Table.{empty, fields}
use Rattle.model.specs.Search.{is_expired, live}
use Rattle.record.specs.Forms.{form_of}
use Rattle.table.specs.Slots.{slots_of}
use Rattle.table.proofs.Records.{count-is}
use Rattle.table.proofs.Search.{lowest_start, search-here, search-next, search-end}
use Rattle.table.proofs.Parts.{slot-expired}
use Rattle.table.proofs.lookup.expired_slot.Goals as goal
use Rattle.table.proofs.lookup.expired_slot.Goals.{After-is_live}

pub loop-i-init : goal.loop-i-init
loop-i-init c =
    let f = form_of c.args.form in
    let t = c.args.table.now in
    record { within = omega arith; all = c.count-n.ensures ∙ count-is f t c.requires; left = lowest_start (is_expired c.args.time) (slots_of f t) }

-- what the call said of the slot
told : (c : After-is_live) → not c.is_live.result ≡ is_expired c.args.time (get_or (slots_of (form_of c.args.form) c.args.table.now) c.loop-i.i empty)
told c =
    let said = c.is_live.ensures ∙ ap (λ (x : List ℕ). live c.args.time (fields x)) c.slot.ensures in
    ap not said ∙ slot-expired (form_of c.args.form) c.args.table.now c.requires c.loop-i.i (omega arith) c.args.time

pub returns-then-not-is_live : goal.returns-then-not-is_live
returns-then-not-is_live c =
    search-here c.loop-i.invariant c.loop-i-test.true (sym (told (goal.at.returns-then-not-is_live c).After-is_live) ∙ ap not c.if-not-is_live.true)

pub loop-i-preserved : goal.loop-i-preserved
loop-i-preserved c =
    search-next c.loop-i.invariant c.loop-i-test.true (sym (told (goal.at.loop-i-preserved c).After-is_live) ∙ ap not c.if-not-is_live.false)

pub returns : goal.returns
returns c = search-end c.loop-i.invariant (omega arith)
