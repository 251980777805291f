-- `record::write_value` meets its contract: in the arm of each form, the part from the value on comes back filled.
use Prim.Native.Nat.{◌-◌, ◌≤◌}
use native.Mathlib.Omega.{arith}
use mathlib.Core.Path.{◌≡◌, sym, ap, ◌∙◌, subst}
use lib.ListN.{length, length-take, length-drop}
use borrow.Author.Rules.{rules}
use Rattle.model.specs.Bytes.{padded, written}
use Rattle.model.specs.Table.{record_size}
use Rattle.slice.proofs.Written.{fill-back}
use Rattle.record.specs.Forms.{form_of}
use Rattle.record.specs.declared.Form.{Form}
use Rattle.record.specs.declared.Form.TheVariants.{Of128, Of192}
use Rattle.record.proofs.writes.write_value.Statement.{statement}
use Rattle.record.proofs.writes.write_value.Tie as tie

module _ (s : tie.Start) (f : Form) (told : s.args.form ≡ f) where
  -- the lengths of the bytes and of the value
  lengths : (length s.args.r.now ≡ record_size (form_of f)) × (length s.args.value.now ≤ (form_of f).value_limit)
  lengths = subst (λ (g : Form). (length s.args.r.now ≡ record_size (form_of g)) × (length s.args.value.now ≤ (form_of g).value_limit)) told s.requires

  rest : written 48 (padded (record_size (form_of f) - 48) s.args.value.now) s.args.r.now
      ≡ written 48 (padded (record_size (form_of s.args.form) - 48) s.args.value.now) s.args.r.now
  rest = ap (λ (g : Form). written 48 (padded (record_size (form_of g) - 48) s.args.value.now) s.args.r.now) (sym told)

of128 : (c : tie.In-Of128) → (length c.args.r.now ≡ 128) × (length c.args.value.now ≤ 64)
of128 c = lengths c.before.before.before Of128 c.in-Of128.is

of192 : (c : tie.In-Of192) → (length c.args.r.now ≡ 192) × (length c.args.value.now ≤ 128)
of192 c = lengths c.before.before.before Of192 c.in-Of192.is

returns : tie.Need-returns-in-Of128
returns c =
    let g = c.before.before in
    let t = g.before.before in
    let s = t.before.before.before in
    let f = of128 t in
    fill-back 48 80 s.args.r.now s.args.value.now g.fill.new.buf (omega arith) (omega arith) g.fill.ensures ∙ rest s Of128 t.in-Of128.is

returns-2 : tie.Need-returns-in-Of192
returns-2 c =
    let g = c.before.before in
    let t = g.before.before in
    let s = t.before.before.before in
    let f = of192 t in
    fill-back 48 144 s.args.r.now s.args.value.now g.fill-in-Of192.new.buf (omega arith) (omega arith) g.fill-in-Of192.ensures ∙ rest s Of192 t.in-Of192.is

pub write_value_spec : {M : Type 1} → statement M
write_value_spec =
    tie.close
    (tie.spec
    (λ c. search rules) (λ c. search rules)
    (λ c. let f = of128 c in omega arith)
    (λ c. let f = of128 c in omega arith)
    (λ c κs. let f = of128 c.before in simp (length-take, length-drop) (omega arith))
    (λ c. search rules) (λ c. search rules)
    (λ c. let f = of192 c in omega arith)
    (λ c. let f = of192 c in omega arith)
    (λ c κs. let f = of192 c.before in simp (length-take, length-drop) (omega arith))
    (λ c. search rules) returns (λ c. search rules) returns-2)
