-- `reads` meets its contract: each slot is tested as a table of its own.
use Rattle.std.proofs.Common.{◌≡◌, ℕ, ◌+◌, ◌-◌, ◌<◌, Bool, List, sym, ap, subst, ◌∙◌, arith}
use Rattle.model.specs.Optional.{is_some}
use Rattle.model.specs.Table.{form128, record_at, read_slot}
use Rattle.index.specs.Index.{count_of}
use Rattle.index.proofs.Chains.{inside-count}
use Rattle.table.proofs.Parts.{length-slot}
use Rattle.integrity.specs.Check.{faultless}
use Rattle.integrity.proofs.Passing.{ReadFrom, read_more, wrong-length, unread, read_all}
use Rattle.partition.proofs.Parts.{record-alone}
use Rattle.partition.proofs.reads.Goals as goal

-- what the test of slot i says
told : (t : List ℕ) (i : ℕ) (s : List ℕ) (b : Bool) → i < count_of form128 t → s ≡ record_at form128 i t → b ≡ faultless form128 s
    → b ≡ is_some (read_slot form128 (record_at form128 i t))
told t i s b h e p = p ∙ (ap (faultless form128) e ∙ record-alone (record_at form128 i t) (length-slot form128 t i (inside-count form128 t i h)))

pub returns-then-not-has_size : goal.returns-then-not-has_size
returns-then-not-has_size c = sym (wrong-length form128 c.args.table.now (sym c.has_size.ensures ∙ c.if-not-has_size.true))

pub loop-i-init : goal.loop-i-init
loop-i-init c = (omega (arith, c.count-i.ensures), λ j low high. absurd (omega (arith, c.count-i.ensures)))

pub returns-then-not-passes : goal.returns-then-not-passes
returns-then-not-passes c =
    let t = c.args.table.now in
    let h : c.loop-i.i - 1 < count_of form128 t = omega (arith, c.loop-i.invariant.0, c.loop-i-test.true) in
    sym (unread form128 t (c.loop-i.i - 1) h (sym (told t (c.loop-i.i - 1) _ _ h c.slot.ensures c.passes.ensures) ∙ c.if-not-passes.true))

pub loop-i-preserved : goal.loop-i-preserved
loop-i-preserved c =
    let t = c.args.table.now in
    let i = c.loop-i.i - 1 in
    let h : i < count_of form128 t = omega (arith, c.loop-i.invariant.0, c.loop-i-test.true) in
    let above : c.loop-i.i ≡ i + 1 = omega (arith, c.loop-i-test.true) in (
      omega (arith, c.loop-i.invariant.0),
      read_more form128 t i (sym (told t i _ _ h c.slot.ensures c.passes.ensures) ∙ c.if-not-passes.false) (subst (ReadFrom form128 t) above c.loop-i.invariant.1),
    )

pub returns : goal.returns
returns c =
    let none : c.loop-i.i ≡ 0 = omega (arith, c.loop-i-test.false) in
    sym (read_all form128 c.args.table.now (sym c.has_size.ensures ∙ c.if-not-has_size.false) (subst (ReadFrom form128 c.args.table.now) none c.loop-i.invariant.1))
