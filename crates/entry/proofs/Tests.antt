-- What the gate answers, by the tests that were passed.
use Prim.Native.Nat.{ℕ, ◌≤◌, ◌<◌}
use mathlib.Core.Path.{◌≡◌, refl, sym, subst}
use mathlib.Core.Bool.{true, false, ◌&&◌}
use mathlib.Core.List.{List, []}
use mathlib.Core.Option.{Option, none, some, get_or}
use borrow.Author.Tests.{le-leb, lt-leb}
use Rattle.std.specs.Prelude.{Result, Ok, Err}
use Rattle.model.specs.Checked.{refuse, ok, given}
use Rattle.model.specs.Optional.{is_some}
use Rattle.model.specs.Table.{form128, Slot, time_limit, read_table, distinct}
use Rattle.model.specs.Resp.{decode}
use Rattle.model.specs.Gate.{gate}
use Rattle.model.proofs.Calls.{through-gate}
use Rattle.model.proofs.Words.{few_words}
use Rattle.outcome.proofs.Cases.{clash}
use Rattle.outcome.specs.Outcome.{checked, number_of}
use Rattle.outcome.specs.declared.Refusal.{Refusal}
use Rattle.resp.specs.Held.{words_in}
use Rattle.resp.specs.declared.Words.{Words}
use Rattle.table.specs.Slots.{slots_of}
use Rattle.index.specs.Index.{Indexed}
use Rattle.table.proofs.Records.{slots-of}
use Rattle.integrity.specs.Check.{faultless}
use Rattle.integrity.proofs.Verdict.{good-reads, good-keys}
use Rattle.entry.specs.declared.Query.{Query}
use Rattle.entry.specs.Gated.{gate_in, Entered, Gates}

decoded : {A : Type 0} (o : Option A) {a : A} → given 4 o ≡ ok a → o ≡ some a
decoded none e = clash cc
decoded (some x) e = cc

module _ {q : Query} {t c heads next : List ℕ} where
  refused : {r : Refusal} → gate_in q t c ≡ refuse (number_of r) → Gates q t c heads next (Err r)
  refused e = record {
    answer = rw e;
    passed = λ ws z. clash cc;
    index = λ ws z. clash cc;
  }

  -- a table that breaks a rule
  pub faulty : faultless form128 t ≡ false → Gates q t c heads next (Err Refusal.Damaged)
  unfolding gate slots_of
  faulty h = refused (go (read_table form128 t) refl h)
    where
      go : (o : Option (List Slot)) → read_table form128 t ≡ o → is_some o && distinct (get_or o []) ≡ false → gate_in q t c ≡ refuse 1
      go none e b = rw e
      go (some ss) e b = rw (e, b)

  module _ (good : faultless form128 t ≡ true) where
    pub late : time_limit < q.time → Gates q t c heads next (Err Refusal.Time)
    unfolding gate
    late h = refused (rw (slots-of form128 t (good-reads form128 t good), good-keys form128 t good, lt-leb q.time time_limit h))

    module _ (early : q.time ≤ time_limit) where
      pub short : q.room < form128.reply_room → Gates q t c heads next (Err Refusal.Room)
      unfolding gate
      short h = refused (rw (slots-of form128 t (good-reads form128 t good), good-keys form128 t good, le-leb q.time time_limit early, lt-leb form128.reply_room q.room h))

      module _ (room : form128.reply_room ≤ q.room) where
        pub split-told : (r : Result Words Refusal) → checked words_in r ≡ given 4 (decode c) → Indexed form128 t 0 heads next → Gates q t c heads next r
        unfolding gate
        split-told (Err r) e x =
            refused (rw (slots-of form128 t (good-reads form128 t good), good-keys form128 t good, le-leb q.time time_limit early, le-leb form128.reply_room q.room room, ← e))
        split-told (Ok ws) e x =
            let d = decoded (decode c) (sym e) in
            let is = through-gate form128 t q.time q.room c (record { slots = slots_of form128 t; words = words_in ws }) (record {
              table = record { read = slots-of form128 t (good-reads form128 t good); keys = good-keys form128 t good };
              time = early;
              buffer = room;
              command = d;
            }) in
            let here : Entered q t c (words_in ws) = record {
              is = is;
              reads = good-reads form128 t good;
              time = early;
              room = room;
              few = few_words c (words_in ws) d;
            } in
            record {
              answer = rw is;
              passed = λ vs z. let same : ws ≡ vs = cc in subst (λ (w : Words). Entered q t c (words_in w)) same here;
              index = λ vs z. x;
            }
