-- `record::put_attributes` meets its contract: the three numbers are written side by side.
use mathlib.Core.Path.{◌≡◌, ap, ◌∙◌}
use mathlib.Core.List.{List, ◌++◌}
use Prim.Native.Nat.{ℕ, ◌≤◌}
use lib.ListN.{length}
use Rattle.model.specs.Bytes.{written, little_endian}
use Rattle.slice.proofs.Written.{written-written}
use Rattle.record.specs.declared.Attributes.{Attributes}
use Rattle.record.specs.Attributes.{attribute_bytes}
use native.Mathlib.Omega.{arith}
use borrow.Author.Rules.{rules}
use Rattle.record.proofs.writes.put_attributes.Statement.{statement}
use Rattle.record.proofs.writes.put_attributes.Tie as tie

in-turn : (b : List ℕ) (a : Attributes) → 4 ≤ length b
    → written 16 (little_endian 8 a.expiry) (written 8 (little_endian 8 a.version) (written 4 (little_endian 4 a.flags) b)) ≡ written 4 (attribute_bytes a) b
unfolding attribute_bytes little_endian
in-turn b a h =
    ap (written 16 (little_endian 8 a.expiry)) (written-written 4 (little_endian 4 a.flags) b h (little_endian 8 a.version))
    ∙ written-written 4 (little_endian 4 a.flags ++ little_endian 8 a.version) b h (little_endian 8 a.expiry)

returns : tie.Need-returns
returns c =
    let third = c.before.before in
    let second = third.before.before.before.before in
    let first = second.before.before.before.before in
    let a = first.args in
    third.put8-2.ensures
    ∙ ap (written 16 (little_endian 8 a.attributes.expiry))
    (second.put8.ensures ∙ ap (written 8 (little_endian 8 a.attributes.version)) first.put4.ensures)
    ∙ in-turn a.r.now a.attributes (omega (arith, first.requires))

pub put_attributes_spec : {M : Type 1} → statement M
put_attributes_spec =
    tie.close
    (tie.spec
    (λ c κs. search rules) (λ c κs. search rules) (λ c κs. search rules) (λ c. search rules) returns)
