-- `put::store_number` meets its contract: the part of the local array that is handed on is the number's text.
use borrow.Author.Rules.{rules}
use mathlib.Core.Path.{◌≡◌, ap, ◌∙◌, subst}
use mathlib.Core.List.{List}
use mathlib.Core.Option.{none}
use Prim.Native.Nat.{ℕ, suc, ◌≤◌}
use native.Mathlib.Omega.{arith}
use lib.ListN.{length, take}
use lib.IntN.{ℤ, pos, negsuc}
use mir.Syntax.{w64}
use mir.Val.{SFits}
use Rattle.model.specs.Number.{int_text}
use Rattle.model.proofs.Numbers.{length-nat_text}
use Rattle.slice.proofs.Writing.{wrote-front}
use Rattle.number.proofs.Integers.{back_is}
use Rattle.record.specs.declared.Form.{Form}
use Rattle.record.specs.declared.Form.TheVariants.{Of128, Of192}
use Rattle.record.specs.Forms.{form_of}
use Rattle.command.specs.Command.{model_terms}
use Rattle.live.specs.Under.{shape_of}
use Rattle.put.specs.Put.{put_in, Puts}
use Rattle.put.proofs.store_number.Statement.{statement}
use Rattle.put.proofs.store_number.Tie as tie

length-int_text : (z : ℤ) → SFits w64 z → length (int_text z) ≤ 20
length-int_text (pos n) f = omega (arith, length-nat_text 18 n (omega (arith, f.sfits)))
length-int_text (negsuc n) f = omega (arith, length-nat_text 18 (suc n) (omega (arith, f.sfits)))

abbrev start : tie.After-write_signed-len → tie.Start
start c = c.before.before.before.before

text-is : (c : tie.After-write_signed-len) → take c.write_signed-len.result c.write_signed-len.new.buf ≡ int_text (start c).args.z
text-is c = wrote-front _ _ _ _ c.write_signed-len.ensures ∙ ap int_text (back_is (start c).ranges.z)

length-is : (c : tie.After-write_signed-len) → c.write_signed-len.result ≡ length (int_text (start c).args.z)
length-is c = let e = ap (λ (z : ℤ). length (int_text z)) (back_is (start c).ranges.z) in omega (arith, c.write_signed-len.ensures.place)

fits : (c : tie.After-write_signed-len) → length (int_text (start c).args.z) ≤ 20
fits c = length-int_text (start c).args.z (start c).ranges.z

-- a value of every form has room for the text of a number
least : (f : Form) → 20 ≤ (form_of f).value_limit
least Of128 = omega arith
least Of192 = omega arith

write-signed-requires : tie.Need-write_signed-len-requires
write-signed-requires c κs =
    simp (back_is c.ranges.z) (omega (arith, length-int_text c.args.z c.ranges.z))

array-share-prefix-text : tie.Need-slice_bounds-text-end
array-share-prefix-text c =
    let w = c.before.before in
    omega (arith, length-is w, fits w, w.write_signed-len.auto.buf)

slice-aggregate-store-value : tie.Need-slice_bounds-store_value-end
slice-aggregate-store-value c =
    let w = c.before.before.before in
    omega (arith, length-is w, ap length (text-is w))

store-value-requires : tie.Need-store_value-requires
store-value-requires c κs =
    let w = c.before.before.before in
    ((start w).requires.0, ((start w).requires.1, omega (arith, fits w, ap length (text-is w), least (start w).args.target.form)))

returns : tie.Need-returns
returns c =
    let w = c.before.before.before.before.before.before in
    let s = start w in
    subst (λ (b : List ℕ). Puts (shape_of s.args.target) s.args.table.now c.store_value.new.table c.store_value.result (put_in s.args.table.now s.args.target s.args.key.now (model_terms s.args.terms) none b)) (text-is w) c.store_value.ensures

pub store_number_spec : {M : Type 1} → statement M
store_number_spec =
    tie.close
    (tie.spec
    (λ c. search rules)
    write-signed-requires
    array-share-prefix-text
    slice-aggregate-store-value
    store-value-requires
    (λ c. search rules)
    returns)
