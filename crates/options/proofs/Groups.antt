-- Options by group: whether a group has an option, and what one more option does to the groups.
use Prim.Native.Nat.{ℕ}
use native.Mathlib.Omega.{arith}
use mathlib.Core.Path.{◌≡◌, refl, sym, ap, ◌∙◌}
use mathlib.Core.Bool.{Bool, true, false, cond}
use mathlib.Core.List.{List, [], ◌∷◌}
use mathlib.Core.Option.{some}
use lib.Dec.{eqb}
use lib.ListN.{get_or, set, length-set, replicate, get_or-replicate}
use lib.Seq.{get_or-set_same, get_or-set_other}
use borrow.Author.Tests.{eqb-true, eqb-false}
use Rattle.std.specs.Prelude.{Option, Some, None, is_some}
use Rattle.model.specs.Command.{Kind, kind_no}
use Rattle.model.specs.Options as model
use Rattle.model.specs.Options.{pick, has}
use Rattle.model.specs.Optional as optional
use Rattle.command.proofs.Bits.{kind-small}
use Rattle.options.specs.Options.{option_of, model_given, group_at, group_of, Tied}
use Rattle.options.specs.declared.Given.{Given}
use Rattle.options.specs.declared.Options.{Options}

-- no group has an option, as none is picked from an empty list
pub tied_none : (ws : List (List ℕ)) → Tied ws [] (record { groups = replicate 10 None })
tied_none ws = record { ten = refl; picks = λ k. sym (ap (model_given ws) (get_or-replicate 10 (kind_no k) None None (kind-small k))) }

-- whether a group has an option
pub has-group : {ws : List (List ℕ)} {gs : List model.Given} {o : Options} → Tied ws gs o → (k : Kind) → is_some (group_at o k) ≡ has k gs
has-group {ws} {gs} {o} t k = sym (ap optional.is_some (t.picks k) ∙ go (group_at o k))
  where
    go : (g : Option Given) → optional.is_some (model_given ws g) ≡ is_some g
    go None = refl
    go (Some g) = refl

-- one more option stands in its group, and the other groups are as they were
pub tied-put : {ws : List (List ℕ)} {gs : List model.Given} {o : Options} → Tied ws gs o → (g : Given)
    → Tied ws (option_of ws g ∷ gs) (record { groups = set o.groups (kind_no (group_of g)) (Some g) })
tied-put {ws} {gs} {o} t g = record {
  ten = length-set o.groups (kind_no (group_of g)) (Some g) ∙ t.ten;
  picks = λ k. go k (eqb (kind_no k) (kind_no (group_of g))) refl;
}
  where
    go : (k : Kind) (b : Bool) → eqb (kind_no k) (kind_no (group_of g)) ≡ b
        → cond b (some (option_of ws g)) (pick k gs) ≡ model_given ws (get_or (set o.groups (kind_no (group_of g)) (Some g)) (kind_no k) None)
    go k true e =
        sym (ap (model_given ws) (ap (λ (i : ℕ). get_or (set o.groups (kind_no (group_of g)) (Some g)) i None) (eqb-true (kind_no k) (kind_no (group_of g)) e)
        ∙ get_or-set_same o.groups (kind_no (group_of g)) (Some g) None (omega (arith, t.ten, kind-small (group_of g)))))
    go k false e = t.picks k ∙ sym (ap (model_given ws) (get_or-set_other o.groups (kind_no (group_of g)) (kind_no k) (Some g) None (eqb-false (kind_no k) (kind_no (group_of g)) e)))
