use Rattle.std.proofs.Common.{◌≡◌, ℕ, ◌∙◌, sym, ap, subst, arith, true, false, refl, replicate, Option, Some, None, List}
use Rattle.model.specs.Bytes.{same}
use Rattle.model.specs.Optional.{is_some}
use Rattle.model.specs.Table.{read_slot}
use Rattle.slice.proofs.Equal.{never}
use Rattle.record.specs.Forms.{form_of}
use Rattle.record.specs.Record.{is_used}
use Rattle.record.proofs.Reading.{read-unused, read-used}
use Rattle.index.specs.Index.{Enters}
use Rattle.integrity.specs.Check.{UsedAfter}
use Rattle.integrity.proofs.enter.Goals as goal
use Rattle.integrity.proofs.enter.Goals.{After-is_zero, After-is_record}

unused : (c : After-is_zero) → is_used c.args.r.now ≡ false
unused c = sym c.in_use.ensures ∙ c.if-not-in_use.true

used : (c : After-is_record) → is_used c.args.r.now ≡ true
used c = sym c.in_use.ensures ∙ c.if-not-in_use.false

-- bytes that are not in use are an empty record if they are zeros
zeros-told : (c : After-is_zero) → c.is_zero.result ≡ is_some (read_slot (form_of c.args.form) c.args.r.now)
zeros-told c =
    let r = c.args.r.now in
    c.is_zero.ensures ∙ ap (λ (n : ℕ). same r (replicate n 0)) c.requires.0 ∙ sym (read-unused (form_of c.args.form) r (unused c))

-- those in use, by their test
record-told : (c : After-is_record) → c.is_record.result ≡ is_some (read_slot (form_of c.args.form) c.args.r.now)
record-told c = c.is_record.ensures ∙ sym (read-used (form_of c.args.form) c.args.r.now (used c))

used-after : (r : List ℕ) (o : Option ℕ) → is_used r ≡ true → UsedAfter r o
used-after r None u = tt
used-after r (Some first) u = u

-- an entry told by another value
entered-as : {i : ℕ} {k h n h' n' : List ℕ} {x y : ℕ} → Enters i k h n x h' n' → x ≡ y → Enters i k h n y h' n'
entered-as {i} {k} {h} {n} {h'} {n'} e q = subst (λ (z : ℕ). Enters i k h n z h' n') q e

pub returns-then-is_zero : goal.returns-then-is_zero
returns-then-is_zero c =
    let z = (goal.at.returns-then-is_zero c).After-is_zero in
    (sym (zeros-told z) ∙ c.if-is_zero.true, tt, record { used = λ u. never _ u (unused z); unused = λ _. (refl, refl) })

pub returns-then-not-in_use : goal.returns-then-not-in_use
returns-then-not-in_use c = (sym (zeros-told (goal.at.returns-then-not-in_use c).After-is_zero) ∙ c.if-is_zero.false, refl)

pub returns-then-not-is_record : goal.returns-then-not-is_record
returns-then-not-is_record c = (sym (record-told (goal.at.returns-then-not-is_record c).After-is_record) ∙ c.if-not-is_record.true, refl)

pub returns : goal.returns
returns c =
    let e = (goal.at.returns c).After-is_record in
    (sym (record-told e) ∙ c.if-not-is_record.false, used-after c.args.r.now _ (used e), record { used = λ _. entered-as c.enter.ensures.entered (grind (arith, c.enter.ensures.some)); unused = λ n. never _ (used e) n })
