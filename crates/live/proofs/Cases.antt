-- What follows from the answer of the search: no record is live, which is the case of two answers, by their tags; or one is live at its slot.
use Prim.Native.Nat.{ℕ}
use mathlib.Core.Path.{◌≡◌, refl, subst}
use mathlib.Core.List.{List, [], ◌∷◌}
use mathlib.Core.Option.{none}
use borrow.Author.Rules.{rules}
use denote.Enum.Declared.{tag_of}
use types.Run.{OneOf, miss}
use Rattle.model.specs.Checked.{Checked, ok}
use Rattle.model.specs.Table.{Form}
use Rattle.model.specs.Search.{Placed, live_record}
use Rattle.model.specs.Resp.{Reply}
use Rattle.model.specs.Execute.{Effect, answer, on_live}
use Rattle.live.specs.declared.Lookup.{Lookup}
use Rattle.live.specs.declared.Lookup.TheVariants.{Live, Expired, Absent}
use Rattle.record.specs.declared.Attributes.{Attributes}
use Rattle.table.specs.Slots.{InUseAt}
use Rattle.live.specs.Under.{model_lookup, LiveAt, SoundAt}
use Rattle.live.specs.contracts.Lookup.{the_type}

-- the search found an expired record or none
abbrev pub NotLive : Lookup → Type 0
NotLive l = OneOf (1 ∷ 2 ∷ []) (tag_of the_type l)

-- as a `let .. else` says it
pub not-live : (l : Lookup) → ((i : ℕ) (a : Attributes) → l ≡ Live i a → ⊥) → NotLive l
not-live (Live i a) h = absurd (h i a refl)
not-live (Expired i) h = search rules
not-live Absent h = search rules

module _ (f : Form) (t : List ℕ) where
  pub none-live : (l : Lookup) → NotLive l → live_record (model_lookup f t l) ≡ none
  none-live (Live i a) h = absurd (miss (1 ∷ 2 ∷ []) 0 tt h)
  none-live (Expired i) h = refl
  none-live Absent h = refl

  pub on-absent : (l : Lookup) → NotLive l → (r : Reply) (g : Placed → Checked Effect) → on_live (model_lookup f t l) r g ≡ ok (answer r)
  on-absent (Live i a) h r g = absurd (miss (1 ∷ 2 ∷ []) 0 tt h)
  on-absent (Expired i) h r g = refl
  on-absent Absent h r g = refl

-- ---- where a record is live

-- the record found is in use at its slot, and in range
pub live_here_lem : (f : Form) (t : List ℕ) {l : Lookup} (i : ℕ) (a : Attributes) → l ≡ Live i a → SoundAt f t l → LiveAt f t i a
live_here_lem f t i a e h = subst (SoundAt f t) e h

pub in-use-here : (f : Form) (t : List ℕ) {l : Lookup} (i : ℕ) (a : Attributes) → l ≡ Live i a → SoundAt f t l → InUseAt f t i
in-use-here f t i a e h = (live_here_lem f t i a e h).in_use
