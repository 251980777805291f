-- The commands that write a value: what lets them through, what they put, and how they answer.
use Prim.Native.Nat.{ℕ, ◌<◌}
use native.Mathlib.Omega.{arith}
use mathlib.Core.Path.{◌≡◌, refl, sym, ap, ◌∙◌, subst}
use mathlib.Core.List.{List}
use mathlib.Core.Bool.{true}
use mathlib.Core.Option.{Option, none, some}
use lib.IntN.{ℤ, pos, negsuc}
use borrow.Author.Tests.{eq-eqb, lt-ltb}
use mir.Syntax.{w64}
use mir.Val.{SFits}
use Rattle.model.specs.Checked.{Checked, refuse, ok, ◌>>=◌}
use Rattle.model.specs.Number.{version_limit, is_signed, signed_limit, int_text}
use Rattle.model.specs.Table.{Form}
use Rattle.model.specs.Search.{Placed, live_record, slot_for}
use Rattle.model.specs.Resp.{Reply, one, nil}
use Rattle.model.specs.Command.{Terms}
use Rattle.model.specs.Execute.{Effect, New, set_reply, count_reply, swap_reply, version_reply, swapping, joined, total, counted, storing, write, admit}
use Rattle.model.specs.Call.{error_reply}
use Rattle.model.proofs.Steps.{Comes}
use Rattle.model.proofs.Commands.{ChangeOk}
use Rattle.model.proofs.Effects.{Executing, put-version}
use Rattle.command.specs.Command.{model_expire, model_terms, model_end, model_increment, model_action}
use Rattle.command.specs.declared.Set.{Set}
use Rattle.command.specs.declared.Increment.{Increment}
use Rattle.command.specs.declared.Join.{Join}
use Rattle.command.specs.declared.Swap.{Swap}
use Rattle.command.specs.declared.Action.TheVariants.{Exset, Exincrby, Excas, Exjoin}
use Rattle.record.specs.declared.Attributes.{Attributes}
use Rattle.table.specs.Slots.{slots_of}
use Rattle.live.specs.declared.Admission.{Admission}
use Rattle.live.specs.declared.Admission.TheVariants.{Nil, Stale, Granted}
use Rattle.live.specs.declared.Lookup.{Lookup}
use Rattle.live.specs.declared.Lookup.TheVariants.{Live}
use Rattle.live.specs.declared.Target.{Target}
use Rattle.live.specs.Under.{model_lookup, stored_in, shape_of, lookup_in, slot_in}
use Rattle.live.specs.After.{admitted}
use Rattle.live.proofs.Stored.{admit-stored}
use Rattle.std.specs.Prelude.{Result, Ok, Err}
use Rattle.outcome.specs.declared.Refusal.{Refusal}
use Rattle.outcome.specs.Outcome.{number_of, checked}
use Rattle.put.specs.Put.{put_in, value_in, table_after, Puts}
use Rattle.reply.specs.declared.Answer.{Answer}
use Rattle.reply.specs.Replied.{Replied}
use Rattle.write.specs.Does.{Held, held, SomeRoom, Ready, act_in, Does}
use Rattle.write.specs.Finish.{StoredOk, Finishes}
use Rattle.access.proofs.Doing.{does-refuse, does-answer, does-store}
use Rattle.access.proofs.Acting.{excas-live}

-- ---- what was stored

-- an answer that was refused, or one with a version, is no other
pub refused-is : (x : Checked Placed) (n : ℕ) → refuse n ≡ (x >>= λ (p : Placed). ok p.rec.version) → x ≡ refuse n
refused-is (refuse m) n e = let z : m ≡ n = cc in ap refuse z
refused-is (ok p) n e = let z : ◌≡◌ {A = ℕ} 0 1 = cc in absurd (omega arith)

pub record WasPut (x : Checked Placed) (n : ℕ) : Type 0 where
  pub what : Placed
  pub is : x ≡ ok what
  pub version : what.rec.version ≡ n

pub stored_is : (x : Checked Placed) (n : ℕ) → ok n ≡ (x >>= λ (p : Placed). ok p.rec.version) → WasPut x n
stored_is (refuse m) n e = let z : ◌≡◌ {A = ℕ} 0 1 = cc in absurd (omega arith)
stored_is (ok p) n e = record { what = p; is = refl; version = cc }

-- what was put has a version in range, or was refused by a number with an error reply
pub stored_ok : (x : Checked Placed) → Comes Executing (λ (p : Placed). p.rec.version < version_limit) x → (r : Result ℕ Refusal)
    → checked (λ n. n) r ≡ (x >>= λ (p : Placed). ok p.rec.version) → StoredOk r
stored_ok x h (Err r) e = let q = subst (Comes Executing (λ (p : Placed). p.rec.version < version_limit)) (refused-is x (number_of r) e) h in (omega (arith, q.least), q.most)
stored_ok x h (Ok n) e =
    let w = stored_is x n e in
    subst (λ (m : ℕ). m < version_limit) w.version (subst (Comes Executing (λ (p : Placed). p.rec.version < version_limit)) w.is h)

puts-ok : (t : List ℕ) (g : Target) (k : List ℕ) (m : Terms) (fl : Option ℕ) (v : List ℕ) → ChangeOk m.change → (after : List ℕ) (r : Result ℕ Refusal)
    → Puts (shape_of g) t after r (put_in t g k m fl v) → StoredOk r
puts-ok t g k m fl v h after r p = stored_ok (put_in t g k m fl v) (put-version (shape_of g) k (lookup_in t g) (slot_in t g) m fl v h) r p.stored

-- what answering by it asks
pub finish-in : {g : Target} {k : List ℕ} {old : Held} → Ready g k old → (m : Terms) (fl : Option ℕ) (v : List ℕ) → ChangeOk m.change → {after : List ℕ} {r : Result ℕ Refusal}
    → Puts (shape_of g) old.table after r (put_in old.table g k m fl v) → SomeRoom old.reply × StoredOk r
finish-in {g} {k} {old} h m fl v c p = (record { form = _; room = h.room }, puts-ok old.table g k m fl v c _ _ p)

-- ---- the effect of a write

pub does-as : {f : Form} {old new : Held} {x y : Checked Effect} {a : Answer} → x ≡ y → Does f old new y a → Does f old new x a
does-as {f} {old} {new} {x} {y} {a} e = subst (λ (z : Checked Effect). Does f old new z a) (sym e)

module _ (t : List ℕ) (g : Target) (k : List ℕ) where
  abbrev pub write_in : Terms → (flags : Option ℕ) → (make : Option (List ℕ) → Checked New) → Checked Effect
  write_in = write (shape_of g) k (lookup_in t g) (slot_in t g)

  -- what the text comes to, put and answered
  pub write_new : (m : Terms) (fl : Option ℕ) (make : Option (List ℕ) → Checked New) (new : New) → make (value_in t g) ≡ ok new
      → write_in m fl make ≡ (put_in t g k m fl new.text >>= λ (p : Placed). ok (storing new.reply p))
  unfolding write
  write_new m fl make new e = rw e

  pub write-none : (m : Terms) (fl : Option ℕ) (make : Option (List ℕ) → Checked New) (n : ℕ) → make (value_in t g) ≡ refuse n → write_in m fl make ≡ refuse n
  unfolding write
  write-none m fl make n e = rw e

  -- what EXSET, EXINCRBY, EXAPPEND and EXPREPEND write
  abbrev pub set_in : (v : List ℕ) → Set → Checked Effect
  set_in v s = write_in (model_terms s.terms) (some s.flags) λ old. ok (record { text = v; reply = set_reply s.with_version })

  abbrev pub count_in : Increment → Checked Effect
  count_in s = write_in (model_terms s.terms) none (counted (model_increment s))

  abbrev pub join_in : (v : List ℕ) → Join → Checked Effect
  join_in v s = write_in (model_terms s.terms) none λ old. ok (record { text = joined (model_end s.end) v old; reply = version_reply })

-- ---- what NX, XX and VER make of a write

-- what does w where it is let through does x; r tells whether it is
pub record LetBy (r : Admission) (w x : Checked Effect) : Type 0 where
  pub by : {q : Admission} → r ≡ q → x ≡ admitted q w

-- r is the answer to the terms m
abbrev pub Admits : Target → Terms → Admission → Type 0
Admits g m r = (next : Checked Effect) → admitted r next ≡ admit m (stored_in g.found) next

module _ (t : List ℕ) (g : Target) (k v : List ℕ) {r : Admission} where
  let_by : (m : Terms) (next : Checked Effect) → Admits g m r → LetBy r next (admit m (live_record (lookup_in t g)) next)
  let_by m next h = record { by = λ e. sym (h next ∙ admit-stored (shape_of g) t g.found m next) ∙ ap (λ (x : Admission). admitted x next) e }

  pub exset-by : (s : Set) → Admits g (model_terms s.terms) r → LetBy r (set_in t g k v s) (act_in t g k v (Exset s))
  unfolding model_action
  exset-by s = let_by (model_terms s.terms) (set_in t g k v s)

  pub exincrby-by : (s : Increment) → Admits g (model_terms s.terms) r → LetBy r (count_in t g k s) (act_in t g k v (Exincrby s))
  unfolding model_action
  exincrby-by s = let_by (model_terms s.terms) (count_in t g k s)

  pub exjoin-by : (s : Join) → Admits g (model_terms s.terms) r → LetBy r (join_in t g k v s) (act_in t g k v (Exjoin s))
  unfolding model_action
  exjoin-by s = let_by (model_terms s.terms) (join_in t g k v s)

-- the answer of a command that is not let through, and of one that is
module _ {r : Admission} {w x : Checked Effect} (h : LetBy r w x) {f : Form} {old new : List ℕ} {a : Answer} where
  pub turned-nil : (t : List ℕ) → r ≡ Nil → Replied 0 (one nil) old new a → Does f (held t old) (held t new) x a
  turned-nil t e = does-answer f t old new x a (h.by e)

  pub turned-stale : (t : List ℕ) → r ≡ Stale → Replied 12 (error_reply 12) old new a → Does f (held t old) (held t new) x a
  turned-stale t e = does-refuse f t old new x a (h.by e)

  pub granted : (t after : List ℕ) → r ≡ Granted → {p : Checked Placed} {reply : ℕ → Reply} → w ≡ (p >>= λ (p : Placed). ok (storing reply p))
      → {stored : Result ℕ Refusal} → Puts f t after stored p → Finishes old new stored reply a → Does f (held t old) (held after new) x a
  granted t after e n p q = does-as (h.by e ∙ n) (q.does f t after _ p)

-- ---- the answer to what was put

module _ {old new : List ℕ} {a : Answer} where
  pub finishes-refused : (r : Refusal) {reply : ℕ → Reply} → Replied (number_of r) (error_reply (number_of r)) old new a → Finishes old new (Err r) reply a
  finishes-refused r {reply} h =
      record {
        does = λ f t after x p.
            subst (λ (u : List ℕ). Does f (held t old) (held u new) (x >>= λ (p : Placed). ok (storing reply p)) a)
            (sym (p.table ∙ ap (table_after f t) (refused-is x (number_of r) p.stored)))
            (does-refuse f t old new _ a (ap (λ (y : Checked Placed). y >>= λ (p : Placed). ok (storing reply p)) (refused-is x (number_of r) p.stored)) h);
      }

  pub finishes-stored : {n : ℕ} (reply : ℕ → Reply) → Replied 0 (reply n) old new a → Finishes old new (Ok n) reply a
  finishes-stored {n} reply h =
      record {
        does = λ f t after x p.
            let w = stored_is x n p.stored in
            does-store f t old new _ a (ap (λ (y : Checked Placed). y >>= λ (p : Placed). ok (storing reply p)) w.is) (p.table ∙ ap (table_after f t) w.is)
            (subst (λ (m : ℕ). Replied 0 (reply m) old new a) (sym w.version) h);
      }

-- a number of 64 bits is one of the model's signed numbers
pub signed-fits : (z : ℤ) → SFits w64 z → is_signed z ≡ true
signed-fits (pos n) f = lt-ltb n signed_limit (omega (arith, f.sfits))
signed-fits (negsuc n) f = lt-ltb n signed_limit (omega (arith, f.sfits))

-- a sum that is refused, or comes to a number
abbrev pub new_of : Increment → ℤ → New
new_of s z = record { text = int_text z; reply = count_reply s.with_version z }

pub counted-refused : (s : Increment) (o : Option (List ℕ)) {n : ℕ} → total (model_increment s) o ≡ refuse n → counted (model_increment s) o ≡ refuse n
counted-refused s o e = rw e

pub counted_is : (s : Increment) (o : Option (List ℕ)) {z : ℤ} → total (model_increment s) o ≡ ok z → counted (model_increment s) o ≡ ok (new_of s z)
counted_is s o e = rw e

-- EXCAS on the live record's own version
pub excas-own : (t : List ℕ) (g : Target) (k v : List ℕ) (i : ℕ) (a : Attributes) → g.found ≡ Live i a → (s : Swap) → s.version ≡ a.version
    → act_in t g k v (Excas s) ≡ write_in t g k (swapping (model_expire s.expire)) none λ old. ok (record { text = v; reply = swap_reply })
excas-own t g k v i a here s e =
    excas-live t g k v i a here s
    ∙ (rw (eq-eqb s.version a.version e)
    (sym (ap (λ (l : Lookup). write (shape_of g) k (model_lookup (shape_of g) t l) (slot_for g.time (slots_of (shape_of g) t) (model_lookup (shape_of g) t l)) (swapping (model_expire s.expire)) none λ old. ok (record { text = v; reply = swap_reply })) here)))
