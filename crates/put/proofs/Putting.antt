-- What is put under a key, test by test, and what storing it promises.
use Prim.Native.Nat.{ℕ, ◌≤◌, ◌<◌}
use mathlib.Core.Path.{◌≡◌, refl, sym, ap, ◌∙◌, subst}
use mathlib.Core.List.{List}
use mathlib.Core.Option.{Option, none, some}
use lib.ListN.{length}
use borrow.Author.Tests.{le-leb, lt-leb}
use Rattle.std.specs.Prelude.{Result, Ok, Err}
use Rattle.outcome.proofs.Cases.{clash}
use Rattle.outcome.specs.declared.Refusal.{Refusal}
use Rattle.outcome.specs.Outcome.{number_of}
use Rattle.model.specs.Checked.{Checked, refuse, ok, given}
use Rattle.model.specs.Table.{Form, used}
use Rattle.model.specs.Search.{Placed, live_record, free_slot, slot_for}
use Rattle.model.specs.Command.{Terms}
use Rattle.model.specs.Execute.{version_after, put}
use Rattle.record.specs.declared.Attributes.{Attributes}
use Rattle.record.specs.Attributes.{record_with}
use Rattle.table.specs.Slots.{slots_of, with_slot}
use Rattle.table.proofs.Parts.{within}
use Rattle.table.proofs.Search.{free-within}
use Rattle.live.specs.declared.Lookup.{Lookup}
use Rattle.live.specs.declared.Lookup.TheVariants.{Live, Expired, Absent}
use Rattle.live.specs.declared.Target.{Target}
use Rattle.live.specs.Under.{SoundAt, stored_in, shape_of, slot_in, model_lookup}
use Rattle.live.proofs.Stored.{version-stored, flags-stored, expiry-stored}
use Rattle.put.specs.Put.{attributes_after, put_in, Puts}

module _ (t : List ℕ) (g : Target) (k : List ℕ) (m : Terms) (fl : Option ℕ) (v : List ℕ) where
  -- the version after the change, of the record at the slot
  version-at : {x : Checked ℕ} → version_after m.change (stored_in g.found) ≡ x → version_after m.change (live_record (model_lookup (shape_of g) t g.found)) ≡ x
  version-at e = sym (version-stored (shape_of g) t g.found m.change) ∙ e

  pub put-highest : {n : ℕ} → version_after m.change (stored_in g.found) ≡ refuse n → put_in t g k m fl v ≡ refuse n
  unfolding put
  put-highest e = rw (version-at e)

  module _ {n : ℕ} (e : version_after m.change (stored_in g.found) ≡ ok n) where
    pub put-long : (shape_of g).value_limit < length v → put_in t g k m fl v ≡ refuse 16
    unfolding put
    put-long l = rw (version-at e, lt-leb _ _ l)

    module _ (l : length v ≤ (shape_of g).value_limit) where
      pub put_full : {j : ℕ} → given 17 (slot_in t g) ≡ refuse j → put_in t g k m fl v ≡ refuse j
      unfolding put
      put_full s = rw (version-at e, le-leb _ _ l, s)

      pub put-at : {i : ℕ} → given 17 (slot_in t g) ≡ ok i → put_in t g k m fl v ≡ ok (record { at = i; rec = record_with k v (attributes_after g.found n m.expire fl) })
      unfolding put
      put-at s = rw (version-at e, le-leb _ _ l, s, flags-stored (shape_of g) t g.found fl, expiry-stored (shape_of g) t g.found m.expire)

-- a refusal leaves the table
pub puts-refused : (f : Form) (t : List ℕ) (x : Checked Placed) (r : Refusal) → x ≡ refuse (number_of r) → {a : Result ℕ Refusal} → a ≡ Err r → Puts f t t a x
puts-refused f t x r e h = subst (λ (a : Result ℕ Refusal). Puts f t t a x) (sym h) (subst (Puts f t t (Err r)) (sym e) (record { stored = refl; table = refl }))

-- a record stored with the attributes after a write
pub puts-stored : (t after : List ℕ) (g : Target) (k : List ℕ) (m : Terms) (fl : Option ℕ) (v : List ℕ) (n i : ℕ) (a : Attributes)
    → a ≡ attributes_after g.found n m.expire fl → put_in t g k m fl v ≡ ok (record { at = i; rec = record_with k v (attributes_after g.found n m.expire fl) })
    → after ≡ with_slot (shape_of g) t i (used (record_with k v a)) → Puts (shape_of g) t after (Ok n) (put_in t g k m fl v)
puts-stored t after g k m fl v n i a ha e h =
    subst (Puts (shape_of g) t after (Ok n)) (sym e)
    (record { stored = refl; table = h ∙ ap (λ (a : Attributes). with_slot (shape_of g) t i (used (record_with k v a))) ha })

-- the slot that a write takes is one of the table's
pub slot-within : (t : List ℕ) (g : Target) (i : ℕ) → SoundAt (shape_of g) t g.found → given 17 (slot_in t g) ≡ ok i → i < length (slots_of (shape_of g) t)
slot-within t g i h e = go g.found h e
  where
    same : {a b : ℕ} → ok a ≡ ok b → a ≡ b
    same e = cc

    free : (o : Option ℕ) → given 17 o ≡ ok i → some i ≡ o
    free none e = clash cc
    free (some j) e = ap some (sym (same e))

    go : (l : Lookup) → SoundAt (shape_of g) t l → given 17 (slot_for g.time (slots_of (shape_of g) t) (model_lookup (shape_of g) t l)) ≡ ok i → i < length (slots_of (shape_of g) t)
    go (Live j a) h e = subst (λ (x : ℕ). x < length (slots_of (shape_of g) t)) (same e) (within (shape_of g) t j h.in_use)
    go (Expired j) h e = subst (λ (x : ℕ). x < length (slots_of (shape_of g) t)) (same e) (within (shape_of g) t j h)
    go Absent h e = free-within g.time (slots_of (shape_of g) t) i (free (free_slot g.time (slots_of (shape_of g) t)) e)
