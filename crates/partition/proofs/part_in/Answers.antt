-- `part_in` meets its contract: with a good boundary and a good other part, what is left of the first tests is that the part is good.
use Rattle.std.proofs.Common.{◌≡◌, ℕ, List, take, drop, refl, sym, ap, ◌∙◌, subst, arith}
use Rattle.std.specs.Prelude.{Result}
use Rattle.model.specs.Table.{form128}
use Rattle.model.specs.Partition.{owner, installer}
use Rattle.outcome.specs.declared.Refusal.{Refusal}
use Rattle.partition.specs.declared.Party.{Party}
use Rattle.partition.specs.declared.Party.TheVariants as party
use Rattle.partition.specs.declared.Part.{Part}
use Rattle.partition.specs.Parts.{view_by, FindsBy}
use Rattle.partition.proofs.Parts.{place-within, found-beside, to_end}
use Rattle.partition.proofs.part_in.Goals as goal

-- what is found for the party that calls
found : (q p : Party) (n : ℕ) (t : List ℕ) {r x : Result Part Refusal} → q ≡ p → r ≡ x → FindsBy form128 (view_by p n) t x → FindsBy form128 (view_by q n) t r
found q p n t {r} e h k = subst (λ (p : Party). FindsBy form128 (view_by p n) t r) (sym e) (subst (λ (y : Result Part Refusal). FindsBy form128 (view_by p n) t y) (sym h) k)

pub returns-in_ok-place-in-Owner : goal.returns-in_ok-place-in-Owner
returns-in_ok-place-in-Owner c =
    let n = c.args.view.boundary in
    let t = c.args.table.now in
    let i = c.in_ok-place-in-Owner.ensures in
    let a = c.in_ok-place-in-Owner.place in
    found _ party.Owner n t c.in-Owner.is c.beside.ensures
    (found-beside form128 n t i owner _ _ (to_end a t ∙ ap (λ (m : ℕ). drop m t) i.place) refl i.place (omega arith) (place-within form128 n t i))

pub returns-in_ok-place-in-Installer : goal.returns-in_ok-place-in-Installer
returns-in_ok-place-in-Installer c =
    let n = c.args.view.boundary in
    let t = c.args.table.now in
    let i = c.in_ok-place-in-Installer.ensures in
    found _ party.Installer n t c.in-Installer.is c.beside-in-Installer.ensures
    (found-beside form128 n t i installer _ _ (ap (λ (m : ℕ). take m t) i.place) i.place refl (place-within form128 n t i) (omega arith))
