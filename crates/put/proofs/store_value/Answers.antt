use Rattle.std.proofs.Common.{rules, ◌≡◌, sym, Err}
use Rattle.put.proofs.Putting.{put-highest, put_full, put-at, puts-refused, puts-stored, slot-within}
use Rattle.put.proofs.store_value.Goals as goal

pub returns-in_err-version : goal.returns-in_err-version
returns-in_err-version c =
    let e : c.from_residual.result ≡ Err c.in_err-version.field-0.0 = search rules in
    puts-refused _ _ _ _ (put-highest _ _ _ _ _ _ (sym c.in_err-version.ensures)) e

pub returns-in_err-slot : goal.returns-in_err-slot
returns-in_err-slot c =
    let e : c.from_residual-in_err-slot.result ≡ Err c.in_err-slot.field-0.0 = search rules in
    puts-refused _ _ _ _ (put_full _ _ _ _ _ _ (sym c.in_ok-version.ensures) c.requires.key_len_bound.1 (sym c.in_err-slot.ensures)) e

pub store-requires-clause-slot_in_bounds : goal.store-requires-clause-slot_in_bounds
store-requires-clause-slot_in_bounds c = slot-within _ c.args.target _ c.requires.sound.at (sym c.in_ok-slot.ensures)

pub returns : goal.returns
returns c =
    puts-stored _ _ c.args.target _ _ _ _ _ _ _ c.attributes_after-attributes.ensures
    (put-at _ c.args.target _ _ _ _ (sym c.in_ok-version.ensures) c.requires.key_len_bound.1 (sym c.in_ok-slot.ensures)) c.store.ensures
