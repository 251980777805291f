-- The answer of the search for a key, by the slot that it found.
use Prim.Native.Nat.{ℕ}
use mathlib.Core.Path.{◌≡◌, sym, ◌∙◌, subst}
use mathlib.Core.Bool.{true, false}
use mathlib.Core.List.{List}
use mathlib.Core.Option.{none, some}
use Rattle.model.specs.Table.{Form}
use Rattle.model.specs.Search.{live}
use Rattle.record.specs.declared.Attributes.{Attributes}
use Rattle.record.specs.Attributes.{attributes_of}
use Rattle.table.specs.Slots.{Reads, slots_of, key_slot, record_in}
use Rattle.table.proofs.Finding.{found_at, lookup-found, lookup-none}
use Rattle.table.proofs.Parts.{in-range}
use Rattle.live.specs.declared.Lookup.TheVariants.{Live, Expired, Absent}
use Rattle.live.specs.Under.{IsUnder}

module _ (f : Form) (t : List ℕ) (ok : Reads f t) (time : ℕ) (k : List ℕ) where
  pub is-absent : none ≡ key_slot k (slots_of f t) → IsUnder f t time k Absent
  is-absent e = record { is = sym (lookup-none time k (slots_of f t) e); sound = record { reads = ok; at = tt } }

  module _ (i : ℕ) (e : some i ≡ key_slot k (slots_of f t)) where
    pub is_live : (a : Attributes) → a ≡ attributes_of (record_in f t i) → live time (record_in f t i) ≡ true → IsUnder f t time k (Live i a)
    is_live a h l =
        subst (λ (a : Attributes). IsUnder f t time k (Live i a)) (sym h)
        (record {
          is = sym (lookup-found f t time k i e ∙ rw l);
          sound = record { reads = ok; at = record { in_use = (found_at f t k i e).in_use; range = in-range f t ok i (found_at f t k i e).in_use } };
        })

    pub is-expired : live time (record_in f t i) ≡ false → IsUnder f t time k (Expired i)
    is-expired l = record { is = sym (lookup-found f t time k i e ∙ rw l); sound = record { reads = ok; at = (found_at f t k i e).in_use } }
