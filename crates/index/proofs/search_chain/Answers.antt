use Rattle.std.proofs.Common.{◌≡◌, sym, ap, ◌∙◌, subst, arith}
use Rattle.record.specs.Forms.{form_of}
use Rattle.record.specs.Record.{IsSlot, has_key}
use Rattle.index.specs.Index.{key_is}
use Rattle.index.proofs.Entries.{some-entry, no-entry}
use Rattle.index.proofs.Chains.{chain-end, chain-named, chain-slot, chain-inside, chain-here, chain_next, chain-less, chain-on}
use Rattle.index.proofs.search_chain.Goals as goal
use Rattle.index.proofs.search_chain.Goals.{After-has_key}

pub slot-requires : goal.slot-requires
slot-requires c = chain-inside c.loop-at.invariant.0 c.loop-at-test.true

pub has_key-requires : goal.has_key-requires
has_key-requires c = subst IsSlot (sym c.slot.ensures) (chain-slot c.loop-at.invariant.0 c.loop-at-test.true)

-- what the call said of the slot
told : (c : After-has_key) → c.has_key.result ≡ key_is (form_of c.args.form) c.args.table.now c.args.key.now c.loop-at.at
told c = c.has_key.ensures ∙ ap (has_key c.args.key.now) c.slot.ensures

pub returns-then-has_key : goal.returns-then-has_key
returns-then-has_key c =
    let here = chain-here c.loop-at.invariant.0 c.loop-at-test.true (sym (told (goal.at.returns-then-has_key c).After-has_key) ∙ c.if-has_key.true) in
    some-entry _ c.loop-at.at (c.loop-at.invariant.1 ∙ sym here) c.loop-at-test.true

pub bounds-next-at : goal.bounds-next-at
bounds-next-at c = omega (arith, c.loop-at.invariant.0.room, (chain-named c.loop-at.invariant.0 c.loop-at-test.true).high)

pub loop-at-smaller : goal.loop-at-smaller
loop-at-smaller c = chain-less c.loop-at.invariant.0 c.loop-at-test.true

pub loop-at-preserved : goal.loop-at-preserved
loop-at-preserved c =
    let inv = c.loop-at.invariant in
    (chain_next inv.0 c.loop-at-test.true, inv.1 ∙ chain-on inv.0 c.loop-at-test.true (sym (told (goal.at.loop-at-preserved c).After-has_key) ∙ c.if-has_key.false))

pub returns : goal.returns
returns c = no-entry _ (c.loop-at.invariant.1 ∙ sym (chain-end c.loop-at.invariant.0 (omega arith)))
