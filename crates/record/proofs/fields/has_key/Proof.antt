-- `record::has_key` meets its contract. Byte 0 may refuse; else the comparison of the two keys decides.
use mathlib.Core.Path.{◌≡◌, sym, ap, ◌∙◌}
use mathlib.Core.Bool.{true}
use Rattle.model.specs.Bytes.{same}
use Rattle.record.specs.Record.{is_used}
use Rattle.record.proofs.Reading.{used-in-use}
use borrow.Author.Rules.{rules}
use Rattle.record.proofs.fields.has_key.Statement.{statement}
use Rattle.record.proofs.fields.has_key.Tie as tie

is-used : (c : tie.Else-not-in_use) → is_used c.args.r.now ≡ true
is-used c = sym c.in_use.ensures ∙ c.if-not-in_use.false

key-requires : tie.Need-key-requires
key-requires c κs =
    let s = c.before.before.before.before in
    let u = s.requires in
    record { form = u.form; lawful = u.lawful; is = used-in-use u.form s.args.r.now u.is (is-used c) }

returns-2 : tie.Need-returns
returns-2 c =
    let s = c.before.before.before.before.before.before in
    c.same.ensures ∙ ap (same s.args.key.now) c.key.ensures ∙ rw (is-used c.before.before)

pub has_key_spec : {M : Type 1} → statement M
has_key_spec =
    tie.close
    (tie.spec
    (λ c κs. search rules)
    (λ c. rw (sym c.in_use.ensures ∙ c.if-not-in_use.true))
    key-requires (λ c κs. search rules) returns-2)
