-- A refused part leaves all as it is, and a call on a part is that of the part as a table of its own.
use Rattle.std.proofs.Common.{◌≡◌, ◌∙◌, ◌-◌, ℕ, List, refl, ap, subst}
use borrow.Rule.Slice.PartMut.{put_mid}
use Rattle.model.specs.Bytes.{part}
use Rattle.model.specs.Checked.{refuse}
use Rattle.model.specs.Table.{form128}
use Rattle.model.specs.Partition.{View, with_bytes}
use Rattle.model.specs.Gate.{good_part, gate}
use Rattle.model.specs.Call.{call_in, call}
use Rattle.separation.proofs.Reading.{call-by-part}
use Rattle.store.specs.Called.{Called}
use Rattle.reply.specs.declared.Answer.{Answer}
use Rattle.partition.specs.Parts.{model_view, IsPart}
use Rattle.partition.proofs.Parts.{part_bytes, part-put}
use Rattle.shared.proofs.call.Goals as goal

-- a part that is refused, and a call on a part
module _ (v : View) (t : List ℕ) (time : ℕ) (c b : List ℕ) where
  refused : {n : ℕ} → good_part form128 v t ≡ refuse n → Called (call_in form128 v t time c b) (record { number = n; len = 0 }) t b
  unfolding call_in gate
  refused e = rw e (record { number = refl; length = refl; table = refl; reply = refl })

  on-part : {x e : ℕ} → IsPart form128 v t x e → {r : Answer} {new reply : List ℕ} → Called (call form128 (part x (e - x) t) time c b) r new reply
      → Called (call_in form128 v t time c b) r (put_mid x (e - x) t new) reply
  on-part {x} {e} i {r} {new} {reply} h =
      let is = call-by-part form128 v t i.tests time c b in
      let k = subst (λ (s : List ℕ). Called (call form128 s time c b) r new reply) (part_bytes form128 v t i) h in
      rw is (record {
        number = k.number;
        length = k.length;
        table = part-put form128 v t i new ∙ ap (λ (s : List ℕ). with_bytes form128 v s t) k.table;
        reply = k.reply;
      })

pub returns-in-Err : goal.returns-in-Err
returns-in-Err c =
    rw c.silent.ensures (refused (model_view c.args.view) c.args.table.now c.args.time c.args.command.now c.args.reply.now c.in-Err.ensures)

pub returns-in-Ok : goal.returns-in-Ok
returns-in-Ok c =
    on-part (model_view c.args.view) c.args.table.now c.args.time c.args.command.now c.args.reply.now c.in-Ok.ensures c.call.ensures
