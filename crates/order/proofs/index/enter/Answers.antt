use Rattle.std.proofs.Common.{◌≡◌, ℕ, List, length, refl, sym, ap, ◌∙◌, subst, add-one, arith}
use mathlib.Core.Option.{some}
use lib.ListN.{get_elem?}
use Rattle.model.specs.Table.{used, record_at, fields}
use Rattle.record.specs.Forms.{form_of}
use Rattle.record.specs.Record.{InUse, is_used}
use Rattle.record.proofs.Forms.{lawful-form}
use Rattle.record.proofs.Reading.{used-in-use}
use Rattle.table.specs.Slots.{slots_of}
use Rattle.table.proofs.Records.{inside-table, slots-limit}
use Rattle.table.proofs.Parts.{slot-readable}
use Rattle.order.specs.Places.{Between}
use Rattle.order.proofs.Listing.{lists-as, ascends, fewer, skips, not_there, enters, slot-empty, slot-full}
use Rattle.order.proofs.index.enter.Goals as goal
use Rattle.order.proofs.index.enter.Goals.{After-in_use, After-find_place}

pub slot-r-requires : goal.slot-r-requires
slot-r-requires c = inside-table (form_of c.args.form) c.args.table.now c.requires.good.reads c.args.slot c.requires.slot_in_bounds.0

pub in_use-requires : goal.in_use-requires
in_use-requires c = omega (arith, ap length c.slot-r.ensures ∙ (slot-readable (form_of c.args.form) c.args.table.now c.requires.good.reads c.args.slot c.requires.slot_in_bounds.0).size)

-- the bytes of the slot, in use or not
told : (c : After-in_use) → c.in_use.result ≡ is_used (record_at (form_of c.args.form) c.args.slot c.args.table.now)
told c = c.in_use.ensures ∙ ap is_used c.slot-r.ensures

pub returns-then-not-in_use : goal.returns-then-not-in_use
returns-then-not-in_use c =
    skips c.requires.good.keys (lists-as (add-one c.args.slot) refl c.requires.lists)
    (slot-empty (form_of c.args.form) c.args.table.now c.requires.good.reads c.args.slot c.requires.slot_in_bounds.0 (sym (told (goal.at.returns-then-not-in_use c).After-in_use) ∙ c.if-not-in_use.true))

pub key-requires : goal.key-requires
key-requires c =
    let f = form_of c.args.form in
    let b = record_at f c.args.slot c.args.table.now in
    subst InUse (sym c.slot-r.ensures) (record {
      form = f;
      lawful = lawful-form c.args.form;
      is = used-in-use f b (slot-readable f c.args.table.now c.requires.good.reads c.args.slot c.requires.slot_in_bounds.0) (sym (told (goal.at.key-requires c).After-in_use) ∙ c.if-not-in_use.false);
    })

pub find_place-requires-clause-ascends : goal.find_place-requires-clause-ascends
find_place-requires-clause-ascends c = ascends c.requires.good.keys (lists-as (add-one c.args.slot) refl c.requires.lists)

-- the slot is in use
here : (c : After-find_place) → get_elem? (slots_of (form_of c.args.form) c.args.table.now) c.args.slot ≡ some (used (fields (record_at (form_of c.args.form) c.args.slot c.args.table.now)))
here c =
    slot-full (form_of c.args.form) c.args.table.now c.requires.good.reads c.args.slot c.requires.slot_in_bounds.0
    (sym (c.in_use.ensures ∙ ap is_used c.slot-r.ensures) ∙ c.if-not-in_use.false)

-- its key is the one that is searched for
key-is : (c : After-find_place) → c.key.result.now ≡ (fields (record_at (form_of c.args.form) c.args.slot c.args.table.now)).key
key-is c = c.key.ensures ∙ ap (λ (b : List ℕ). (fields b).key) c.slot-r.ensures

-- the place for the key
between : (c : After-find_place) (p : ℕ) → Between (form_of c.args.form) c.args.table.now c.args.list.now c.args.n c.key.result.now p
    → Between (form_of c.args.form) c.args.table.now c.args.list.now c.args.n (fields (record_at (form_of c.args.form) c.args.slot c.args.table.now)).key p
between c p = subst (λ (k : List ℕ). Between (form_of c.args.form) c.args.table.now c.args.list.now c.args.n k p) (key-is c)

pub overflow_cast-slot : goal.overflow_cast-slot
overflow_cast-slot c = omega (arith, c.requires.slot_in_bounds.0, slots-limit (form_of c.args.form) c.args.table.now c.requires.good.reads)

pub put_in-requires : goal.put_in-requires
put_in-requires c =
    let l = lists-as (add-one c.args.slot) refl c.requires.lists in
    (c.in-Err.ensures.within, omega (arith, fewer c.requires.good.keys l c.requires.slot_in_bounds.0, c.requires.slot_in_bounds.1))

pub returns-in-Ok : goal.returns-in-Ok
returns-in-Ok c =
    let f = (goal.at.returns-in-Ok c).After-find_place in
    absurd (not_there c.requires.good.keys (lists-as (add-one c.args.slot) refl c.requires.lists) _ (here f) _ c.in-Ok.ensures.0 (c.in-Ok.ensures.1 ∙ key-is f))

pub returns-in-Err : goal.returns-in-Err
returns-in-Err c =
    let l = lists-as (add-one c.args.slot) refl c.requires.lists in
    let f = (goal.at.returns-in-Err c).After-find_place in
    enters c.requires.good.keys l _ (here f) _ (between f _ c.in-Err.ensures) (omega (arith, fewer c.requires.good.keys l c.requires.slot_in_bounds.0, c.requires.slot_in_bounds.1)) c.put_in.ensures
