-- `record::write_head` meets its contract: bytes 0 to 3 and the attributes are written side by side.
use mathlib.Core.Path.{◌≡◌, refl, ap, ◌∙◌}
use mathlib.Core.List.{List, [], ◌∷◌}
use Prim.Native.Nat.{ℕ, ◌≤◌}
use lib.ListN.{length, set, length-set}
use Rattle.model.specs.Bytes.{written}
use Rattle.slice.proofs.Written.{written-sets, written_next}
use Rattle.record.specs.declared.Attributes.{Attributes}
use Rattle.record.specs.Attributes.{attribute_bytes}
use Rattle.record.specs.Record.{head}
use native.Mathlib.Omega.{arith}
use borrow.Author.Rules.{rules}
use Rattle.record.proofs.writes.write_head.Statement.{statement}
use Rattle.record.proofs.writes.write_head.Tie as tie

in-turn : (b : List ℕ) (m k v : ℕ) (a : Attributes) → 4 ≤ length b
    → written 4 (attribute_bytes a) (set (set (set (set b 0 1) 1 k) 2 v) 3 m) ≡ written 0 (head m k v a) b
unfolding head
in-turn b m k v a h =
    let s : List ℕ = 1 ∷ k ∷ v ∷ m ∷ [] in
    ap (written 4 (attribute_bytes a)) (written-sets 0 s b h) ∙ written_next s (attribute_bytes a) b 4 refl

returns : tie.Need-returns
returns c =
    let a = c.args in
    c.put_attributes.ensures ∙ in-turn a.r.now a.mark a.key a.value a.attributes (omega arith)

pub write_head_spec : {M : Type 1} → statement M
write_head_spec =
    tie.close
    (tie.spec
    (λ c. search rules)
    (λ c. simp length-set (omega arith))
    (λ c. simp length-set (omega arith))
    (λ c. simp length-set (omega arith))
    (λ c κs. search rules)
    (λ c. simp length-set at c.put_attributes.auto.r)
    returns)
