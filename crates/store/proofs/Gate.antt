-- What a call is, by the gate's answer.
use Prim.Native.Nat.{ℕ}
use mathlib.Core.Path.{◌≡◌, ap}
use mathlib.Core.List.{List}
use lib.ListN.{length}
use Rattle.model.specs.Checked.{refuse}
use Rattle.model.specs.Table.{form128}
use Rattle.model.specs.Call.{Outcome, call_in, call}
use Rattle.reply.specs.declared.Answer.{Answer}
use Rattle.reply.specs.Replied.{outcome_of}
use Rattle.execute.specs.Does.{Held, held}
use Rattle.entry.specs.declared.Query.{Query}
use Rattle.entry.specs.Gated.{gate_in, Entered}
use Rattle.store.specs.Called.{Called}
use Rattle.store.specs.Runs.{Runs}

-- an outcome that is the model's, part by part
called : {o : Outcome} {a : Answer} {t b : List ℕ} → outcome_of a t b ≡ o → Called o a t b
called e = record {
  number = ap (λ (x : Outcome). x.number) e;
  length = ap (λ (x : Outcome). x.length) e;
  table = ap (λ (x : Outcome). x.table) e;
  reply = ap (λ (x : Outcome). x.reply) e;
}

-- the reply buffer has the query's room
module _ (q : Query) (t c : List ℕ) {b : List ℕ} (room : q.room ≡ length b) where
  pub called-refused : {n : ℕ} → gate_in q t c ≡ refuse n → Called (call form128 t q.time c b) (record { number = n; len = 0 }) t b
  unfolding call_in
  called-refused e = called (rw (← room, e))

  pub called-passed : {ws : List (List ℕ)} → Entered q t c ws → {new : Held} {a : Answer} → Runs q ws (held t b) new a
      → Called (call form128 t q.time c b) a new.table new.reply
  unfolding call_in
  called-passed p d = called (rw (← room, p.is) d.outcome)
