-- A text joined to a live record's value: what is put has the record's own key.
use mathlib.Core.Path.{◌≡◌, refl, sym, ap, ◌∙◌, subst}
use mathlib.Core.Bool.{Bool}
use mathlib.Core.List.{List}
use mathlib.Core.Option.{Option, none, some, map}
use Prim.Native.Nat.{ℕ, ◌+◌}
use native.Mathlib.Omega.{arith}
use lib.ListN.{length, length-append}
use Rattle.model.specs.Checked.{ok, given}
use Rattle.model.specs.Table.{Form, Record, used}
use Rattle.model.specs.Search.{live_record, slot_for}
use Rattle.model.specs.Command.{End, back, front, Terms}
use Rattle.model.specs.Execute.{joined}
use Rattle.model.proofs.Search.{lookup-hit, LiveHit}
use Rattle.record.specs.declared.Attributes.{Attributes}
use Rattle.record.specs.Attributes.{record_with, joined_text, joined_record}
use Rattle.table.specs.Slots.{slots_of, record_in, with_slot}
use Rattle.live.specs.declared.Lookup.{Lookup}
use Rattle.live.specs.declared.Lookup.TheVariants.{Live}
use Rattle.live.specs.declared.Target.{Target}
use Rattle.live.specs.Under.{IsUnder, LiveAt, SoundAt, model_lookup, shape_of, slot_in}
use Rattle.std.specs.Prelude.{Ok}
use Rattle.put.specs.Put.{attributes_after, is_front, put_in, value_in, Puts}
use Rattle.put.proofs.Putting.{puts-stored}

length-joined : (e : End) (v old : List ℕ) → length (joined e v (some old)) ≡ length old + length v
length-joined back v old = length-append old v
length-joined front v old = omega (arith, length-append v old)

joined-text : (e : End) (v old : List ℕ) → joined e v (some old) ≡ joined_text (is_front e) v old
joined-text back v old = refl
joined-text front v old = refl

-- the live record has the key
same_key : (f : Form) (t : List ℕ) (time : ℕ) (k : List ℕ) (i : ℕ) (a : Attributes) → IsUnder f t time k (Live i a) → (record_in f t i).key ≡ k
same_key f t time k i a h = (subst (LiveHit k (slots_of f t)) (sym h.is) (lookup-hit time k (slots_of f t))).key

joined-record : (f : Form) (t : List ℕ) (i : ℕ) (k : List ℕ) → (record_in f t i).key ≡ k → (e : End) (v : List ℕ) (a : Attributes)
    → joined_record (is_front e) v a (record_in f t i) ≡ record_with k (joined e v (some (record_in f t i).value)) a
joined-record f t i k h e v a = rw (h, joined-text e v (record_in f t i).value)

-- a target whose record is live at slot i
module _ (t : List ℕ) (g : Target) (i : ℕ) (a : Attributes) (here : g.found ≡ Live i a) where
  pub slot-live : given 17 (slot_in t g) ≡ ok i
  slot-live = ap (λ (l : Lookup). given 17 (slot_for g.time (slots_of (shape_of g) t) (model_lookup (shape_of g) t l))) here

  pub value-live : value_in t g ≡ some (record_in (shape_of g) t i).value
  value-live = ap (λ (l : Lookup). map (λ (r : Record). r.value) (live_record (model_lookup (shape_of g) t l))) here

  pub length-live : (e : End) (v : List ℕ) → length (joined e v (value_in t g)) ≡ length (record_in (shape_of g) t i).value + length v
  length-live e v = ap (λ (o : Option (List ℕ)). length (joined e v o)) value-live ∙ length-joined e v (record_in (shape_of g) t i).value

  pub live_here : SoundAt (shape_of g) t g.found → LiveAt (shape_of g) t i a
  live_here = subst (SoundAt (shape_of g) t) here

  -- the record that is put is the one at the slot, with the text joined to its value
  pub joined-live : (k : List ℕ) → IsUnder (shape_of g) t g.time k g.found → (e : End) (v : List ℕ) (b : Attributes)
      → joined_record (is_front e) v b (record_in (shape_of g) t i) ≡ record_with k (joined e v (value_in t g)) b
  joined-live k h e v b =
      joined-record (shape_of g) t i k (same_key (shape_of g) t g.time k i a (subst (IsUnder (shape_of g) t g.time k) here h)) e v b
      ∙ ap (λ (o : Option (List ℕ)). record_with k (joined e v o) b) (sym value-live)

  -- the joined record stored at the slot
  pub puts-joined : (after k : List ℕ) → IsUnder (shape_of g) t g.time k g.found → (m : Terms) (e : End) (v : List ℕ) (n : ℕ)
      → put_in t g k m none (joined e v (value_in t g)) ≡ ok (record { at = i; rec = record_with k (joined e v (value_in t g)) (attributes_after g.found n m.expire none) })
      → (b : Attributes) → b ≡ attributes_after (Live i a) n m.expire none → (x : Bool) → x ≡ is_front e
      → after ≡ with_slot (shape_of g) t i (used (joined_record x v b (record_in (shape_of g) t i)))
      → Puts (shape_of g) t after (Ok n) (put_in t g k m none (joined e v (value_in t g)))
  puts-joined after k h m e v n p b hb x hf is =
      puts-stored t after g k m none (joined e v (value_in t g)) n i b (hb ∙ ap (λ (l : Lookup). attributes_after l n m.expire none) (sym here)) p
      (is ∙ ap (λ (r : Record). with_slot (shape_of g) t i (used r)) (ap (λ (x : Bool). joined_record x v b (record_in (shape_of g) t i)) hf ∙ joined-live k h e v b))
