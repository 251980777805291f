-- `record::is_record` meets its contract. Bytes 0 to 23 alone may refuse; else the lengths are in range and the zeros after key and value decide.
use mathlib.Core.Path.{◌≡◌, sym, ◌∙◌}
use mathlib.Core.Bool.{◌&&◌}
use Rattle.model.specs.Table.{is_record}
use Rattle.slice.proofs.Written.{length_part}
use Rattle.slice.proofs.Zeros.{or-is-zero}
use Rattle.record.specs.Forms.{form_of}
use Rattle.record.proofs.Forms.{lawful-form}
use Rattle.record.proofs.Checking.{HeadIs, key_padded, value_padded, is_head-true, is_record-head, is_record-padded}
use native.Mathlib.Omega.{arith}
use borrow.Author.Rules.{rules}
use Rattle.record.proofs.valid.is_record.Statement.{statement}
use Rattle.record.proofs.valid.is_record.Tie as tie

passed : (c : tie.Else-not-is_head) → HeadIs (form_of c.args.form) c.args.r.now
passed c = is_head-true _ _ (sym c.is_head.ensures ∙ c.if-not-is_head.false)

-- the two tests that are left
left : (c : tie.Else-not-is_head)
    → let s = c.before.before.before in
    is_record (form_of s.args.form) s.args.r.now ≡ key_padded s.args.r.now && value_padded s.args.r.now
left c =
    let s = c.before.before.before in
    is_record-padded (form_of s.args.form) s.args.r.now s.requires (λ i. (c.shared_slice_known-1.given i).fits) (passed c)

returns : tie.Need-returns-then-not-is_head
returns c = let s = c.before.before.before in sym (is_record-head (form_of s.args.form) s.args.r.now (sym c.is_head.ensures ∙ c.if-not-is_head.true))

bits-after-key-requires : tie.Need-bits_after_key-after_key-requires
bits-after-key-requires c κs =
    let e = c.before.before in
    let h = passed e in
    let s = e.before.before.before in
    (h.key-from, h.key-to, length_part 24 24 s.args.r.now (omega (arith, s.requires)))

bits-after-value-requires : tie.Need-bits_after_value-after_value-requires
bits-after-value-requires c κs =
    let e = c.before.before.before.before in
    ((passed e).value-to, e.requires)

returns-2 : tie.Need-returns
returns-2 c =
    let k = c.before.before in
    let e = k.before.before.before in
    or-is-zero k.bits_after_key-after_key.result c.bits_after_value-after_value.result ∙ rw (k.bits_after_key-after_key.ensures, c.bits_after_value-after_value.ensures) (sym (left e))

pub is_record_spec : {M : Type 1} → statement M
is_record_spec =
    tie.close
    (tie.spec
    (λ c κs. search rules) returns (λ c. search rules) (λ c. search rules) (λ c. search rules) (λ c. search rules)
    (λ c. let h = passed c.before.before in omega arith)
    bits-after-key-requires
    (λ c. search rules)
    (λ c. let e = c.before.before.before.before in omega (arith, (passed e).value-to, (lawful-form e.args.form).most))
    bits-after-value-requires returns-2)
