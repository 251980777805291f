-- The value is copied over zeros.
use mathlib.Core.Path.{◌≡◌, sym, ap, ◌∙◌, subst}
use mathlib.Core.List.{List}
use Prim.Native.Nat.{ℕ, ◌≤◌}
use native.Mathlib.Omega.{arith}
use lib.ListN.{length}
use Rattle.model.specs.Table.{Record}
use Rattle.model.specs.Search.{live_record}
use Rattle.model.specs.Execute.{value_or_empty}
use Rattle.record.specs.declared.Attributes.{Attributes}
use Rattle.table.specs.Slots.{record_in}
use Rattle.live.specs.Under.{model_lookup, shape_of}
use Rattle.live.specs.declared.Lookup.{Lookup}
use Rattle.live.specs.declared.Lookup.TheVariants.{Live}
use Rattle.live.specs.declared.Target.{Target}
use Rattle.live.proofs.Cases.{live_here_lem}
use Rattle.bitfield.specs.Run.{stored_value, Holds}
use Rattle.bitfield.proofs.Padded.{holds-copy}
use Rattle.bitfield.proofs.load.Goals as goal

-- the value that is copied is the live record's
stored-live : (t : List ℕ) (g : Target) (i : ℕ) (a : Attributes) → g.found ≡ Live i a → (record_in (shape_of g) t i).value ≡ stored_value t g
stored-live t g i a e = sym (ap (λ (l : Lookup). value_or_empty (live_record (model_lookup (shape_of g) t l))) e)

pub returns : goal.returns
returns c =
    let g = c.args.target in
    let t = c.args.table.now in
    let value : c.value-stored.result.now ≡ (record_in (shape_of g) t c.in-Live.slot).value = c.value-stored.ensures ∙ ap (λ (r : Record). r.value) c.record_at.ensures.is in
    let h = live_here_lem (shape_of g) t _ _ c.in-Live.is c.requires.sound.at in
    let fits : length c.value-stored.result.now ≤ length c.args.value.now = omega (arith, h.range.value-to, c.requires.cleared.1, ap length value) in
    subst (λ (x : List ℕ). Holds x (length c.args.value.now) c.copy.new.buf (length c.value-stored.result.now)) (value ∙ stored-live t g _ _ c.in-Live.is)
    (holds-copy c.requires.cleared.0 fits c.copy.ensures)
