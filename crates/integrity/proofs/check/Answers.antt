use Rattle.std.proofs.Common.{◌≡◌, ℕ, ◌+◌, ◌-◌, ◌%◌, ◌<◌, zero, suc, refl, List, length, eqb, true, false, Option, Some, Result, Ok, sym, ap, subst, ◌∙◌, arith}
use Rattle.std.specs.Option as code
use borrow.Author.Tests.{eq-eqb, ne_eqb, le-leb, lt-leb}
use Rattle.model.specs.Bytes.{all}
use Rattle.model.specs.Optional.{is_some}
use Rattle.model.specs.Table.{Form, record_size, record_at, fields, read_slot, size_rules}
use Rattle.slice.proofs.Equal.{never}
use Rattle.outcome.specs.declared.Refusal.{Refusal}
use Rattle.record.specs.Forms.{form_of, Lawful}
use Rattle.record.specs.Record.{InUse, is_used}
use Rattle.record.proofs.Forms.{lawful-form}
use Rattle.index.specs.Index.{entry_from, count_of, key_is, key_entry, entry_slot, Chain}
use Rattle.integrity.specs.Check.{faultless, Checks, Tests}
use Rattle.integrity.proofs.Sizes.{whole, not-whole}
use Rattle.integrity.proofs.Passing.{Passed, passed_none, wrong_size, not-read, in_use, equal-keys, passed-alone, passed-used, chain, twin-is, passed-all}
use Rattle.integrity.proofs.check.Goals as goal
use Rattle.integrity.proofs.check.Goals.{Else-n-size, After-enter, After-key}

-- ---- the length

-- whole records, as many as the model counts
whole-told : (c : Else-n-size) → eqb (length c.args.table.now % record_size (form_of c.args.form)) 0 ≡ true
whole-told c = eq-eqb _ _ (whole (form_of c.args.form) (length c.args.table.now) _ _ c.count-n.ensures c.size.ensures c.if-n-size.false)

count-told : (c : Else-n-size) → count_of (form_of c.args.form) c.args.table.now ≡ c.count-n.result
count-told c = sym c.count-n.ensures

-- an answer that refuses the table
refused : (f : Form) (t : List ℕ) {heads next : List ℕ} → faultless f t ≡ false → Checks f t heads next false
refused f t e = record { answer = sym e; index = λ z. never true refl (sym z) }

pub returns-then-n-size : goal.returns-then-n-size
returns-then-n-size c =
    let f = form_of c.args.form in
    let t = c.args.table.now in
    refused f t (wrong_size f t (rw (ne_eqb _ _ (not-whole f (length t) _ _ c.count-n.ensures c.size.ensures c.if-n-size.true))))

pub returns-then-n-lt1 : goal.returns-then-n-lt1
returns-then-n-lt1 c =
    let e = (goal.at.returns-then-n-lt1 c).Else-n-size in
    refused (form_of c.args.form) c.args.table.now (wrong_size (form_of c.args.form) c.args.table.now (rw (whole-told e, count-told e, lt-leb 1 c.count-n.result (omega arith))))

pub returns-then-n-gt-TABLE_LIMIT : goal.returns-then-n-gt-TABLE_LIMIT
returns-then-n-gt-TABLE_LIMIT c =
    let e = (goal.at.returns-then-n-gt-TABLE_LIMIT c).Else-n-size in
    let n = c.count-n.result in
    refused (form_of c.args.form) c.args.table.now (wrong_size (form_of c.args.form) c.args.table.now (rw (whole-told e, count-told e, le-leb 1 n (omega arith), lt-leb n 256 (omega arith))))

pub loop-i-init : goal.loop-i-init
loop-i-init c =
    let n = count-told (goal.at.loop-i-init c).Else-n-size in
    subst (Passed (form_of c.args.form) c.args.table.now _ _) n (passed_none (form_of c.args.form) c.args.table.now c.requires (omega (arith, n)))

-- ---- a turn

module _ (e : After-enter) where
  abbrev f : Form
  f = form_of e.args.form

  abbrev t : List ℕ
  t = e.args.table.now

  abbrev i : ℕ
  i = e.loop-i.i - 1

  -- the slot is one of the table's
  within : i < count_of f t
  within = omega (arith, e.count-n.ensures)

  -- what the test says of the slot
  told : {x : Result (Option ℕ) Refusal} → e.enter.result ≡ x → Tests f i (record_at f i t) e.loop-i.heads e.loop-i.next e.enter.new.heads e.enter.new.next x
  told q =
      subst (Tests f i (record_at f i t) e.loop-i.heads e.loop-i.next e.enter.new.heads e.enter.new.next) q
      (subst (λ (b : List ℕ). Tests f i b e.loop-i.heads e.loop-i.next e.enter.new.heads e.enter.new.next e.enter.result) e.slot-r.ensures e.enter.ensures)

  passed : Passed f t e.loop-i.heads e.loop-i.next (i + 1)
  passed = let above : e.loop-i.i ≡ i + 1 = omega arith in subst (Passed f t e.loop-i.heads e.loop-i.next) above e.loop-i.invariant

  -- the slot is in use, and its bucket's chain began with `first`
  module _ {first : ℕ} (q : e.enter.result ≡ Ok (Some first)) where
    abbrev read : is_some (read_slot f (record_at f i t)) ≡ true
    read = (told q).0

    abbrev used : is_used (record_at f i t) ≡ true
    used = (told q).1

    abbrev lawful : Lawful f
    lawful = lawful-form e.args.form

    record-in-use : InUse (record_at f i t)
    record-in-use = record { form = f; lawful = lawful; is = in_use f t i within lawful read passed used }

    chain-told : Chain f t e.enter.new.next first (fields (record_at f i t)).key
    chain-told = chain f t i within lawful read passed used ((told q).2.used used)

    twin-told : entry_from (key_is f t (fields (record_at f i t)).key) (count_of f t) (i + 1) ≡ key_entry f t (fields (record_at f i t)).key first
    twin-told = twin-is f t i within lawful read passed used ((told q).2.used used)

    -- its key is that of another slot, or of none
    twin-refused : 0 < entry_from (key_is f t (fields (record_at f i t)).key) (count_of f t) (i + 1) → faultless f t ≡ false
    twin-refused = equal-keys f t i within lawful read passed used

    twin-passed : entry_from (key_is f t (fields (record_at f i t)).key) (count_of f t) (i + 1) ≡ 0 → Passed f t e.enter.new.heads e.enter.new.next i
    twin-passed = passed-used f t i within lawful read passed used ((told q).2.used used)

pub loop-i-preserved-in-Ok-None : goal.loop-i-preserved-in-Ok-None
loop-i-preserved-in-Ok-None c =
    let e = (goal.at.loop-i-preserved-in-Ok-None c).After-enter in
    let a = told e (c.in-Ok-None.is ∙ ap Ok c.in-Ok-None.field-0-is) in
    passed-alone _ _ _ (within e) (lawful-form c.args.form) a.0 (passed e) a.2

pub key-requires : goal.key-requires
key-requires c =
    let e = (goal.at.key-requires c).After-enter in
    subst InUse (sym c.slot-r.ensures) (record-in-use e (c.in-Ok-Some.is ∙ ap Ok c.in-Ok-Some.field-0-is))

-- the key that is sought
key-told : (c : After-key) → c.key.result.now ≡ (fields (record_at (form_of c.args.form) (c.loop-i.i - 1) c.args.table.now)).key
key-told c = c.key.ensures ∙ ap (λ (b : List ℕ). (fields b).key) c.slot-r.ensures

pub search_chain-requires : goal.search_chain-requires
search_chain-requires c =
    let e = (goal.at.search_chain-requires c).After-enter in
    subst (Chain (f e) (t e) c.enter.new.next c.in-Ok-Some.first) (sym (key-told (goal.at.search_chain-requires c).After-key)) (chain-told e (c.in-Ok-Some.is ∙ ap Ok c.in-Ok-Some.field-0-is))

-- an entry names a slot, or none
some-told : (n : ℕ) → true ≡ code.is_some (entry_slot n) → 0 < n
some-told zero h = never true refl h
some-told (suc n) h = omega arith

none-told : (n : ℕ) → false ≡ code.is_some (entry_slot n) → n ≡ 0
none-told zero h = refl
none-told (suc n) h = never true refl (sym h)

pub returns-then-is_some : goal.returns-then-is_some
returns-then-is_some c =
    let e = (goal.at.returns-then-is_some c).After-enter in
    let q = c.in-Ok-Some.is ∙ ap Ok c.in-Ok-Some.field-0-is in
    let sought = ap (λ (k : List ℕ). key_entry (f e) (t e) k c.in-Ok-Some.first) (key-told (goal.at.returns-then-is_some c).After-key) in
    refused (f e) (t e) (twin-refused e q (omega (arith, twin-told e q, sought, some-told _ (c.if-is_some.ensures ∙ ap code.is_some c.search_chain.ensures))))

pub loop-i-preserved : goal.loop-i-preserved
loop-i-preserved c =
    let e = (goal.at.loop-i-preserved c).After-enter in
    let q = c.in-Ok-Some.is ∙ ap Ok c.in-Ok-Some.field-0-is in
    let sought = ap (λ (k : List ℕ). key_entry (f e) (t e) k c.in-Ok-Some.first) (key-told (goal.at.loop-i-preserved c).After-key) in
    twin-passed e q (twin-told e q ∙ sym sought ∙ none-told _ (c.if-is_some.ensures ∙ ap code.is_some c.search_chain.ensures))

pub returns-in-Err : goal.returns-in-Err
returns-in-Err c =
    let e = (goal.at.returns-in-Err c).After-enter in
    refused (f e) (t e) (not-read _ _ _ (within e) (told e c.in-Err.is).0)

pub returns : goal.returns
returns c =
    let s = (goal.at.returns c).Else-n-size in
    let f = form_of c.args.form in
    let t = c.args.table.now in
    let n = c.count-n.result in
    let none : c.loop-i.i ≡ 0 = omega arith in
    let sizes : all (size_rules f t) ≡ true = rw (whole-told s, count-told s, le-leb 1 n (omega arith), le-leb n 256 (omega arith)) in
    let p = subst (Passed f t c.loop-i.heads c.loop-i.next) none c.loop-i.invariant in
    record { answer = sym (passed-all _ _ sizes p); index = λ _. p.index }
