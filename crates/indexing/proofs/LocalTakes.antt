-- A command empties a slot only where its key is found, and puts a record only into the slot that a write takes.
use mathlib.Core.Path.{◌≡◌, refl, sym}
use mathlib.Core.Bool.{Bool, true, false}
use mathlib.Core.List.{List}
use mathlib.Core.Option.{Option, some, none, map}
use Prim.Native.Nat.{ℕ}
use lib.ListN.{length}
use lib.Dec.{leb, eqb}
use Rattle.model.specs.Checked.{Checked}
use Rattle.model.specs.Optional.{is_some}
use Rattle.model.specs.Table.{Form, Slot, empty, used}
use Rattle.model.specs.Search.{Placed, find_key, Lookup, lookup, live_record, slot_for}
use Rattle.model.specs.Resp.{Reply}
use Rattle.model.specs.Bitfield.{all_end_within, run_subs}
use Rattle.model.specs.Command.{Terms, Action, exset, exget, exsetver, exincrby, excas, excad, exjoin, exgae, del, bitfield, Command}
use Rattle.model.specs.Execute.{Effect, answer, store, allowed, agrees, version_after, New, value_or_empty, or_nil, on_live, put, write, write_if, act, execute}
use Rattle.model.proofs.Basics.{by_cond}
use Rattle.model.proofs.Search.{lookup-cases}
use Rattle.model.proofs.Steps.{Comes, Any, by-check, by-given, by-step, by_next}

module _ (now : ℕ) (ss : List Slot) (k : List ℕ) where
  abbrev l : Lookup
  l = lookup now k ss

  abbrev slot : Option ℕ
  slot = slot_for now ss l

  abbrev pub Takes : Effect → Type 0
  Takes (answer r) = Unit {0}
  Takes (store j empty r) = is_some (find_key k ss) ≡ true
  Takes (store j (used q) r) = slot ≡ some j

  on-live : (r : Reply) (g : Placed → Checked Effect) → ((p : Placed) → is_some (find_key k ss) ≡ true → slot ≡ some p.at → Comes Any Takes (g p))
      → Comes Any Takes (on_live l r g)
  on-live r g h =
      lookup-cases now k ss (λ x. slot_for now ss x ≡ slot → Comes Any Takes (on_live x r g)) (λ q e. tt) (λ p q v e. h p (rw q) (sym e)) (λ p q v e. tt) refl

  module _ (f : Form) where
    takes-put : (t : Terms) (g : Option ℕ) (v : List ℕ) → Comes Any (λ p. slot ≡ some p.at) (put f k l slot t g v)
    unfolding put
    takes-put t g v =
        by_next Any _ (version_after t.change (live_record l)) _ (λ n. tt) λ n.
        by-check Any (λ p. slot ≡ some p.at) 16 (leb (length v) f.value_limit) _ tt λ h16.
        by-given Any (λ p. slot ≡ some p.at) 17 slot _ tt λ i h17. h17

    takes_write : (t : Terms) (g : Option ℕ) (make : Option (List ℕ) → Checked New) → Comes Any Takes (write f k l slot t g make)
    unfolding write
    takes_write t g make =
        by_next Any Takes (make (map (λ r. r.value) (live_record l))) _ (λ n. tt) λ new.
        by-step Any Takes (λ p. slot ≡ some p.at) (put f k l slot t g new.text) _ (takes-put t g new.text) λ p h. h

    takes-write-if : (t : Terms) (g : Option ℕ) (make : Option (List ℕ) → Checked New) → Comes Any Takes (write_if f k l slot t g make)
    takes-write-if t g make =
        or_nil_lem (allowed t.presence (live_record l)) _ (by-check Any Takes 12 (agrees t.change (live_record l)) _ tt λ h12. takes_write t g make)
      where
        or_nil_lem : (b : Bool) (x : Checked Effect) → Comes Any Takes x → Comes Any Takes (or_nil b x)
        or_nil_lem true x h = h
        or_nil_lem false x h = tt

    takes-act : (a : Action) → Comes Any Takes (act f k l slot a)
    takes-act (exset s) = takes-write-if s.terms (some s.flags) _
    takes-act (exget w) = on-live _ _ λ p q h. tt
    takes-act (exsetver n) = on-live _ _ λ p q h. h
    takes-act (exincrby i) = takes-write-if i.terms none _
    takes-act (excas v n e) = on-live _ _ λ p q h. by_cond (Comes Any Takes) (eqb n p.rec.version) _ _ (takes_write _ none _) tt
    takes-act (excad n) = on-live _ _ λ p q h. by_cond Takes (eqb n p.rec.version) _ _ q tt
    takes-act (exjoin j) = takes-write-if j.terms none _
    takes-act (exgae e) = on-live _ _ λ p q h. h
    takes-act del = on-live _ _ λ p q h. q
    takes-act (bitfield subs) =
        by-check Any Takes 16 (all_end_within f.value_limit subs) _ tt λ h16.
        let r = run_subs subs (value_or_empty (live_record l)) in
        by_cond (Comes Any Takes) r.wrote _ _ (takes_write _ none _) tt

pub execute-takes : (f : Form) (now : ℕ) (ss : List Slot) (c : Command) → Comes Any (Takes now ss c.key) (execute f now ss c)
unfolding execute
execute-takes f now ss c = takes-act now ss c.key f c.action
