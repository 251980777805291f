-- Demand 3 of a shared table, from demand 3 of a table: a party's calls on its part are a history of calls on a table of their own.
use mathlib.Core.Path.{◌≡◌, refl, sym, ap, ◌∙◌, subst}
use mathlib.Core.Bool.{false}
use mathlib.Core.List.{List, [], ◌∷◌, map}
use Prim.Native.Nat.{ℕ, ◌≤◌}
use native.Mathlib.Omega.{arith}
use lib.Dec.{eqb}
use borrow.Author.Tests.{ne_eqb}
use Rattle.model.specs.Table.{Form, form128, record_at}
use Rattle.model.specs.Call.{Outcome, call, call_in}
use Rattle.model.specs.History.{Label, outside, reads, writes, Event, Entry, run, final, committed_at, committed}
use Rattle.model.specs.Serializable.{serial_execution, Holds, Lawful, Answered, AllAnswered, Serial}
use Rattle.model.specs.Partition.{Party, owner, installer, shared_by, partition}
use Rattle.model.proofs.Replies.{Roomy, roomy128}
use Rattle.model.proofs.Serial.{serializable}
use Rattle.separation.specs.Separation.{Faultless}
use Rattle.separation.specs.SharedHistory.{SharedEvent, SharedEntry, run_shared, final_shared, if_same, own_entries, Within, SharedSerial, SharedSerializable}
use Rattle.separation.proofs.Parts.{own_number, record_at-partition}
use Rattle.separation.proofs.PartIsTable.{Faulty, by-faults, call_in-faulty, call-on-part, own-after, other_after, faultless-after}
use Rattle.separation.proofs.Projection.{own_outcome, project, committed-project, answered-project, holds-project, lawful-project}

-- a party's own events
abbrev pub own_events : Party → List SharedEvent → List Event
own_events p [] = []
own_events p (e ∷ es) = if_same p e.party e.event (own_events p es)

-- ---- a table without faults

module _ (f : Form) (w : Roomy f) (n : ℕ) where
  -- the calls of a shared history from t
  abbrev calls : List ℕ → List SharedEvent → List SharedEntry
  calls t es = run_shared (call_in f) n t es

  -- a party's calls, seen on its part, are the calls on its part as a table; and so is what they leave
  abbrev AsTable : Party → List ℕ → List SharedEntry → List Event → Type 0
  AsTable p t xs es =
      (map (project f p n) (own_entries p xs) ≡ run (call f) (partition f p n t) es)
      × (partition f p n (final_shared t xs) ≡ final (partition f p n t) (run (call f) (partition f p n t) es))

  module _ (t : List ℕ) (z : Faultless f n t) (e : Event) (es : List SharedEvent) where
    abbrev outcome : Party → Outcome
    outcome q = call_in f (shared_by q n) t e.time e.command e.reply

    own-outcome : (p : Party) → own_outcome f p n (outcome p) ≡ call f (partition f p n t) e.time e.command e.reply
    own-outcome p i = record {
      number = (call-on-part f n t z p e.time e.command e.reply i).number;
      length = (call-on-part f n t z p e.time e.command e.reply i).length;
      reply = (call-on-part f n t z p e.time e.command e.reply i).reply;
      table = own-after f w n t z p e.time e.command e.reply i;
    }

    abbrev first : Party → SharedEntry
    first q = record { party = q; entry = record { event = e; before = t; outcome = outcome q } }

    -- a call of the party itself
    own-call : (p : Party) → AsTable p (outcome p).table (calls (outcome p).table es) (own_events p es)
        → (map (project f p n) ((first p).entry ∷ own_entries p (calls (outcome p).table es)) ≡ run (call f) (partition f p n t) (e ∷ own_events p es))
        × (partition f p n (final_shared (outcome p).table (calls (outcome p).table es)) ≡ final (partition f p n t) (run (call f) (partition f p n t) (e ∷ own_events p es)))
    own-call p ih =
        let q = own-after f w n t z p e.time e.command e.reply in (
          (λ i. record { event = e; before = partition f p n t; outcome = own-outcome p i }
              ∷ (ih.0 ∙ ap (λ (x : List ℕ). run (call f) x (own_events p es)) q) i),
          ih.1 ∙ ap (λ (x : List ℕ). final x (run (call f) x (own_events p es))) q,
        )

    -- a call of the other party leaves the part
    other-call : (p q : Party) → partition f p n (outcome q).table ≡ partition f p n t
        → AsTable p (outcome q).table (calls (outcome q).table es) (own_events p es)
        → (map (project f p n) (own_entries p (calls (outcome q).table es)) ≡ run (call f) (partition f p n t) (own_events p es))
        × (partition f p n (final_shared (outcome q).table (calls (outcome q).table es)) ≡ final (partition f p n t) (run (call f) (partition f p n t) (own_events p es)))
    other-call p q e ih = (
      ih.0 ∙ ap (λ (x : List ℕ). run (call f) x (own_events p es)) e,
      ih.1 ∙ ap (λ (x : List ℕ). final x (run (call f) x (own_events p es))) e,
    )

    any-call : (p q : Party) → AsTable p (outcome q).table (calls (outcome q).table es) (own_events p es)
        → AsTable p t (first q ∷ calls (outcome q).table es) (if_same p q e (own_events p es))
    any-call owner owner ih = own-call owner ih
    any-call owner installer ih = other-call owner installer (other_after f w n t z installer e.time e.command e.reply) ih
    any-call installer owner ih = other-call installer owner (other_after f w n t z owner e.time e.command e.reply) ih
    any-call installer installer ih = own-call installer ih

  as-table : (p : Party) (es : List SharedEvent) (t : List ℕ) → Faultless f n t → AsTable p t (calls t es) (own_events p es)
  as-table p [] t z = (refl, refl)
  as-table p (e ∷ es) t z =
      any-call t z e.event es p e.party
      (as-table p es _ (faultless-after f w n t z e.party e.event.time e.event.command e.event.reply))

  module _ (p : Party) (i : ℕ) (k : List ℕ) (update : ℕ → List ℕ → List ℕ) (in-part : Within p n i) (t : List ℕ) (es : List SharedEvent) where
    faultless-serial : Faultless f n t → Holds f i k t → Lawful f i k update [] (own_entries p (calls t es)) → SharedSerial f p i update t (calls t es)
    faultless-serial z h law =
        let same = as-table p es t z in
        let own = own_number p n i in
        let s : Serial f own update (partition f p n t) (run (call f) (partition f p n t) (own_events p es)) =
        serializable f w own k update (partition f p n t) (own_events p es) (holds-project f p n i k in-part t h)
        (subst (Lawful f own k update []) same.0 (lawful-project f p n i k in-part update [] (own_entries p (calls t es)) law)) in
        record {
          bytes =
              sym (record_at-partition f p n i (final_shared t (calls t es)) in-part)
              ∙ (ap (record_at f own) same.1
              ∙ (s.bytes
              ∙ (ap (λ (xs : List Entry). serial_execution f update (committed xs) (record_at f own (partition f p n t))) (sym same.0)
              ∙ (λ j. serial_execution f update (committed-project f p n (own_entries p (calls t es)) j) (record_at-partition f p n i t in-part j)))));
          answers = answered-project f p n [] (own_entries p (calls t es)) (subst (AllAnswered []) (sym same.0) s.answers);
        }

-- ---- a table with faults

module _ (f : Form) (n : ℕ) (t : List ℕ) (z : Faulty f n t) (p : Party) where
  -- a call that is refused leaves no trace
  abbrev Idle : List Entry → Type 0
  Idle xs = (committed xs ≡ []) × ((past : List Entry) → AllAnswered past xs)

  idle-entry : (l : Label) (x : Entry) (xs : List Entry) → 1 ≤ x.outcome.number → Idle xs
      → (committed_at l x (committed xs) ≡ []) × ((past : List Entry) → Answered past x l × AllAnswered (x ∷ past) xs)
  idle-entry outside x xs h q = (q.0, λ past. (tt, q.1 (x ∷ past)))
  idle-entry (reads u) x xs h q = (q.0, λ past. (tt, q.1 (x ∷ past)))
  idle-entry (writes u) x xs h q =
      let none-zero : eqb x.outcome.number 0 ≡ false = ne_eqb x.outcome.number 0 (λ e. omega arith) in
      (rw none-zero q.0, λ past. ((λ e. absurd (omega arith)), q.1 (x ∷ past)))

  idle-if : (q : Party) (x : Entry) (xs : List Entry) → 1 ≤ x.outcome.number → Idle xs → Idle (if_same p q x xs)
  idle-if q x xs h i = go p q
    where
      go : (p q : Party) → Idle (if_same p q x xs)
      go owner owner = idle-entry x.event.label x xs h i
      go owner installer = i
      go installer owner = i
      go installer installer = idle-entry x.event.label x xs h i

  idle : (es : List SharedEvent) → (final_shared t (run_shared (call_in f) n t es) ≡ t) × Idle (own_entries p (run_shared (call_in f) n t es))
  idle [] = (refl, (refl, λ past. tt))
  idle (e ∷ es) =
      rw (call_in-faulty f n t z e.party e.event.time e.event.command e.event.reply)
      ((idle es).0, idle-if e.party _ _ z.least (idle es).1)

-- ---- any table

pub shared-serializable : (f : Form) → Roomy f → SharedSerializable f (call_in f)
shared-serializable f w p n i k update t es in-part h law =
    by-faults f n t (SharedSerial f p i update t (run_shared (call_in f) n t es))
    (λ z. faultless-serial f w n p i k update in-part t es z h law)
    (λ z.
    let q = idle f n t z p es in
    record {
      bytes = ap (record_at f i) q.0 ∙ sym (ap (λ (ts : List ℕ). serial_execution f update ts (record_at f i t)) q.1.0);
      answers = q.1.1 [];
    })

pub shared-serializable128 : SharedSerializable form128 (call_in form128)
shared-serializable128 = shared-serializable form128 roomy128
