-- What each action does, once it is known what stands under its key.
use Prim.Native.Nat.{ℕ}
use mathlib.Core.Path.{◌≡◌, ap, ◌∙◌}
use mathlib.Core.Bool.{Bool, true, cond}
use mathlib.Core.List.{List}
use mathlib.Core.Option.{none, some}
use lib.Dec.{eqb}
use Rattle.model.specs.Checked.{ok}
use Rattle.model.specs.Table.{Record, empty, used}
use Rattle.model.specs.Search.{live_at, slot_for}
use Rattle.model.specs.Resp.{one, nil}
use Rattle.model.specs.Execute.{answer, store, number, minus_one, get_reply, swap_reply, stale_reply, set_version, set_expiry, expiry_after, swapping, write, act}
use Rattle.command.specs.Command.{model_expire, model_action}
use Rattle.command.specs.declared.Expire.{Expire}
use Rattle.command.specs.declared.Swap.{Swap}
use Rattle.command.specs.declared.Action.{Action}
use Rattle.command.specs.declared.Action.TheVariants.{Exget, Exsetver, Excas, Excad, Exgae, Del}
use Rattle.record.specs.declared.Attributes.{Attributes}
use Rattle.record.specs.Attributes.{with_attributes}
use Rattle.table.specs.Slots.{slots_of, record_in, with_slot}
use Rattle.live.specs.declared.Lookup.{Lookup}
use Rattle.live.specs.declared.Lookup.TheVariants.{Live}
use Rattle.live.specs.declared.Target.{Target}
use Rattle.live.specs.Under.{model_lookup, stored_in, shape_of}
use Rattle.live.proofs.Stored.{expiry-stored}
use Rattle.live.proofs.Cases.{NotLive, on-absent}
use Rattle.access.specs.Does.{act_in}

-- the record at slot i of the target's table, with the attributes a
abbrev pub live_here : (t : List ℕ) → Target → (i : ℕ) → Attributes → Record
live_here t g i a = with_attributes a (record_in (shape_of g) t i)

module _ (t : List ℕ) (g : Target) (k v : List ℕ) where
  -- ---- no record is live

  module _ (h : NotLive g.found) where
    pub exget-absent : (w : Bool) → act_in t g k v (Exget w) ≡ ok (answer (one nil))
    unfolding model_action
    exget-absent w = on-absent (shape_of g) t g.found h _ _

    pub exsetver-absent : (n : ℕ) → act_in t g k v (Exsetver n) ≡ ok (answer (one (number 0)))
    unfolding model_action
    exsetver-absent n = on-absent (shape_of g) t g.found h _ _

    pub excas-absent : (s : Swap) → act_in t g k v (Excas s) ≡ ok (answer minus_one)
    unfolding model_action
    excas-absent s = on-absent (shape_of g) t g.found h _ _

    pub excad-absent : (n : ℕ) → act_in t g k v (Excad n) ≡ ok (answer minus_one)
    unfolding model_action
    excad-absent n = on-absent (shape_of g) t g.found h _ _

    pub exgae-absent : (e : Expire) → act_in t g k v (Exgae e) ≡ ok (answer (one nil))
    unfolding model_action
    exgae-absent e = on-absent (shape_of g) t g.found h _ _

    pub del-absent : act_in t g k v Del ≡ ok (answer (one (number 0)))
    unfolding model_action
    del-absent = on-absent (shape_of g) t g.found h _ _

  -- ---- the record at slot i, with the attributes a, is live

  module _ (i : ℕ) (a : Attributes) (here : g.found ≡ Live i a) where
    act-live : (x : Action) → act_in t g k v x ≡ act (shape_of g) k (live_at (record { at = i; rec = live_here t g i a })) (some i) (model_action v x)
    act-live x =
        ap (λ (l : Lookup). act (shape_of g) k (model_lookup (shape_of g) t l) (slot_for g.time (slots_of (shape_of g) t) (model_lookup (shape_of g) t l)) (model_action v x)) here

    pub exget-live : (w : Bool) → act_in t g k v (Exget w) ≡ ok (answer (get_reply w (live_here t g i a)))
    unfolding model_action
    exget-live w = act-live (Exget w)

    pub exsetver-live : (n : ℕ) → act_in t g k v (Exsetver n) ≡ ok (store i (used (set_version n (live_here t g i a))) (one (number 1)))
    unfolding model_action
    exsetver-live n = act-live (Exsetver n)

    pub excas-live : (s : Swap) → act_in t g k v (Excas s) ≡ cond (eqb s.version a.version) (write (shape_of g) k (live_at (record { at = i; rec = live_here t g i a })) (some i) (swapping (model_expire s.expire)) none λ old. ok (record { text = v; reply = swap_reply })) (ok (answer (stale_reply (live_here t g i a))))
    unfolding model_action
    excas-live s = act-live (Excas s)

    pub excad-live : (n : ℕ) → act_in t g k v (Excad n) ≡ ok (cond (eqb n a.version) (store i empty (one (number 1))) (answer (one (number 0))))
    unfolding model_action
    excad-live n = act-live (Excad n)

    pub exgae-live : (e : Expire) → act_in t g k v (Exgae e) ≡ ok (store i (used (set_expiry (expiry_after (model_expire e) (some (live_here t g i a))) (live_here t g i a))) (get_reply true (live_here t g i a)))
    unfolding model_action
    exgae-live e = act-live (Exgae e)

    pub del-live : act_in t g k v Del ≡ ok (store i empty (one (number 1)))
    unfolding model_action
    del-live = act-live Del

    -- the record at the slot with another expiry, as EXGAE stores it
    pub touched : (e : Expire) (x : ℕ) → x ≡ expiry_after (model_expire e) (stored_in (Live i a))
        → with_slot (shape_of g) t i (used (set_expiry x (live_here t g i a))) ≡ with_slot (shape_of g) t i (used (set_expiry (expiry_after (model_expire e) (some (live_here t g i a))) (live_here t g i a)))
    touched e x h = ap (λ (x : ℕ). with_slot (shape_of g) t i (used (set_expiry x (live_here t g i a)))) (h ∙ expiry-stored (shape_of g) t (Live i a) (model_expire e))
