-- `record::readable` meets its contract. By byte 0 the bytes can only be an empty record, or only one in use.
use Prim.Native.Nat.{ℕ}
use mathlib.Core.Path.{sym, ap, ◌∙◌}
use lib.ListN.{replicate}
use Rattle.model.specs.Bytes.{same}
use Rattle.record.specs.Forms.{form_of}
use Rattle.record.proofs.Reading.{readable-zero, readable-other}
use borrow.Author.Rules.{rules}
use Rattle.record.proofs.valid.readable.Statement.{statement}
use Rattle.record.proofs.valid.readable.Tie as tie

returns : tie.Need-returns-then-r-eq0
returns c =
    let s = c.before.before.before.before in
    let b = s.args.r.now in
    c.is_zero.ensures ∙ ap (λ (n : ℕ). same b (replicate n 0)) s.requires ∙ sym (readable-zero (form_of s.args.form) b c.if-r-eq0.true)

returns-2 : tie.Need-returns
returns-2 c = let s = c.before.before.before.before in c.is_record.ensures ∙ sym (readable-other (form_of s.args.form) s.args.r.now c.if-r-eq0.false)

pub readable_spec : {M : Type 1} → statement M
readable_spec =
    tie.close
    (tie.spec
    (λ c. search rules) (λ c κs. search rules) returns (λ c κs. search rules) returns-2)
