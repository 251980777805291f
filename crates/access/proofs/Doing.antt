-- An answer whose reply was written, as the outcome of an effect.
use Prim.Native.Nat.{ℕ, ◌<◌}
use mathlib.Core.Path.{◌≡◌, ap, sym, ◌∙◌, subst}
use mathlib.Core.Bool.{Bool, true}
use mathlib.Core.List.{List}
use lib.IntN.{ℤ}
use Rattle.model.specs.Checked.{Checked, refuse, ok}
use Rattle.model.specs.Number.{version_limit, is_signed}
use Rattle.model.specs.Table.{Form, Record, Slot}
use Rattle.model.specs.Resp.{Reply, one, nil}
use Rattle.model.specs.Execute.{Effect, answer, store, number, minus_one, set_reply, get_reply, count_reply, swap_reply, stale_reply}
use Rattle.model.specs.Call.{Outcome, error_reply, effect_on, replied}
use Rattle.model.proofs.Records.{InRange}
use Rattle.model.proofs.Replies.{Fits, nil-fits, minus_one-fits, number_fits, set-fits, count_fits, swap-fits, error-fits}
use Rattle.table.specs.Slots.{slots_of, with_slot}
use Rattle.reply.specs.declared.Answer.{Answer}
use Rattle.reply.specs.Replied.{FitsIn, Replied, outcome_of, shown}
use Rattle.reply.proofs.Outcomes.{answered-outcome}
use Rattle.reply.proofs.Room.{fits_in, get-fits-in, get-shown, stale-fits-in, stale-shown}
use Rattle.access.specs.Does.{held, Room, Does}

-- ---- a buffer with room fits every reply

module _ {f : Form} {b : List ℕ} (h : Room f b) where
  abbrev fits : {r : Reply} → Fits f h.roomy r → FitsIn r b
  fits = fits_in h.least h.roomy

  pub nil-in : FitsIn (one nil) b
  nil-in = fits (nil-fits f h.roomy)

  pub minus_one-in : FitsIn minus_one b
  minus_one-in = fits (minus_one-fits f h.roomy)

  pub number_in : (n : ℕ) → n < version_limit → FitsIn (one (number n)) b
  number_in n l = fits (number_fits f h.roomy n l)

  pub set-in : (w : Bool) (n : ℕ) → n < version_limit → FitsIn (set_reply w n) b
  set-in w n l = fits (set-fits f h.roomy w n l)

  pub count-in : (w : Bool) (z : ℤ) (n : ℕ) → is_signed z ≡ true → n < version_limit → FitsIn (count_reply w z n) b
  count-in w z n s l = fits (count_fits f h.roomy w z n s l)

  pub swap-in : (n : ℕ) → n < version_limit → FitsIn (swap_reply n) b
  swap-in n l = fits (swap-fits f h.roomy n l)

  pub error-in : (n : ℕ) → FitsIn (error_reply n) b
  error-in n = fits (error-fits f h.roomy n)

  pub get_in : (w : Bool) (r : Record) (v : List ℕ) → InRange f r → v ≡ r.value → FitsIn (get_reply w (shown v r.version r.flags)) b
  get_in w r v i e = subst (λ (v : List ℕ). FitsIn (get_reply w (shown v r.version r.flags)) b) (sym e) (get-fits-in h.least h.roomy w r i)

  pub stale-in : (r : Record) (v : List ℕ) → InRange f r → v ≡ r.value → FitsIn (stale_reply (shown v r.version 0)) b
  stale-in r v i e = subst (λ (v : List ℕ). FitsIn (stale_reply (shown v r.version 0)) b) (sym e) (stale-fits-in h.least h.roomy r i)

-- ---- a reply that shows a record's value

module _ {old after : List ℕ} {a : Answer} (r : Record) (v : List ℕ) (e : v ≡ r.value) where
  pub replied-get : (w : Bool) → Replied 0 (get_reply w (shown v r.version r.flags)) old after a → Replied 0 (get_reply w r) old after a
  replied-get w = subst (λ (x : Reply). Replied 0 x old after a) (ap (λ (v : List ℕ). get_reply w (shown v r.version r.flags)) e ∙ get-shown w r)

  pub replied-stale : Replied 0 (stale_reply (shown v r.version 0)) old after a → Replied 0 (stale_reply r) old after a
  replied-stale = subst (λ (x : Reply). Replied 0 x old after a) (ap (λ (v : List ℕ). stale_reply (shown v r.version 0)) e ∙ stale-shown r)

-- ---- outcomes

module _ (f : Form) (t b b' : List ℕ) (x : Checked Effect) (a : Answer) where
  pub does-refuse : {n : ℕ} → x ≡ refuse n → Replied n (error_reply n) b b' a → Does f (held t b) (held t b') x a
  does-refuse e h = record { outcome = answered-outcome h t ∙ ap (effect_on f t b (slots_of f t)) (sym e) }

  pub does-answer : {r : Reply} → x ≡ ok (answer r) → Replied 0 r b b' a → Does f (held t b) (held t b') x a
  does-answer e h = record { outcome = answered-outcome h t ∙ ap (effect_on f t b (slots_of f t)) (sym e) }

  pub does-store : {i : ℕ} {s : Slot} {r : Reply} {after : List ℕ} → x ≡ ok (store i s r) → after ≡ with_slot f t i s → Replied 0 r b b' a
      → Does f (held t b) (held after b') x a
  does-store e q h =
      record { outcome = ap (λ (t : List ℕ). outcome_of a t b') q ∙ (answered-outcome h (with_slot f t _ _) ∙ ap (effect_on f t b (slots_of f t)) (sym e)) }

  -- the same where the reply was written before the slot
  pub does-after : {i : ℕ} {s : Slot} {r : Reply} {after : List ℕ} → x ≡ ok (store i s r) → after ≡ with_slot f t i s
      → {y : Checked Effect} → y ≡ ok (answer r) → Does f (held t b) (held t b') y a → Does f (held t b) (held after b') x a
  does-after {r = r} {after = after} e q d h =
      record {
        outcome =
            ap (λ (o : Outcome). record { number = o.number; length = o.length; reply = o.reply; table = after }) (h.outcome ∙ ap (effect_on f t b (slots_of f t)) d)
            ∙ (ap (λ (t : List ℕ). replied 0 r t b) q ∙ ap (effect_on f t b (slots_of f t)) (sym e));
      }
