-- A refusal by the gate touches nothing, a refusal of the parse is answered by its error reply, and a parsed command is carried out under its key.
use Rattle.std.proofs.Common.{◌≡◌, ℕ, List, length, refl, sym, ap, subst, arith}
use Rattle.std.specs.Prelude.{Err}
use Rattle.model.specs.Checked.{Checked, ◌>>=◌}
use Rattle.model.specs.Table.{form128}
use Rattle.model.specs.Command.{Command}
use Rattle.model.specs.Parse.{parse}
use Rattle.model.specs.Execute.{execute}
use Rattle.model.proofs.Replies.{roomy128}
use Rattle.outcome.specs.Outcome.{number_of}
use Rattle.outcome.specs.declared.Refusal.{Refusal}
use Rattle.resp.specs.Held.{words_in}
use Rattle.table.specs.Slots.{slots_of}
use Rattle.access.proofs.Doing.{error-in, does-refuse}
use Rattle.entry.specs.declared.Query.{Query}
use Rattle.entry.specs.declared.NotReady.{NotReady}
use Rattle.entry.specs.declared.NotReady.TheVariants.{Told}
use Rattle.entry.specs.Gated.{IsWrong, Prepares}
use Rattle.entry.proofs.Parses.{refused}
use Rattle.write.proofs.Writing.{does-as}
use Rattle.store.proofs.Gate.{called-refused, called-passed}
use Rattle.store.proofs.call.Goals as goal

abbrev query : (time : ℕ) (reply : List ℕ) → Query
query time reply = record { time = time; room = length reply }

-- a command that its own words refuse
wrong : {q : Query} {t c : List ℕ} {e : NotReady} {r : Refusal} → e ≡ Told r → Prepares q t c (Err e) → IsWrong q t c r
wrong {q} {t} {c} p h = subst (λ (e : NotReady). Prepares q t c (Err e)) p h

-- what the words ws do
run : (time : ℕ) (t : List ℕ) (ws : List (List ℕ)) {x : Checked Command} → parse form128 time ws ≡ x
    → (parse form128 time ws >>= execute form128 time (slots_of form128 t)) ≡ (x >>= execute form128 time (slots_of form128 t))
run time t ws = ap (λ (x : Checked Command). x >>= execute form128 time (slots_of form128 t))

pub error-requires : goal.error-requires
error-requires c =
    let q = query c.args.time c.args.reply.now in
    let w = wrong {q = q} {t = c.args.table.now} {c = c.args.command.now} c.in-Err-Told.field-0-is c.in-Err-Told.ensures in
    let n = refused _ _ _ w.parsed refl in
    (error-in (record { roomy = roomy128; least = w.entered.room }) (number_of c.in-Err-Told.refusal), omega (arith, n.least), omega (arith, n.most))

pub returns-in-Err-Silent : goal.returns-in-Err-Silent
returns-in-Err-Silent c =
    let q = query c.args.time c.args.reply.now in
    let h = subst (λ (e : NotReady). Prepares q c.args.table.now c.args.command.now (Err e)) c.in-Err-Silent.field-0-is c.in-Err-Silent.ensures in
    rw c.silent.ensures (called-refused q c.args.table.now c.args.command.now refl h)

pub returns-in-Err-Told : goal.returns-in-Err-Told
returns-in-Err-Told c =
    let q = query c.args.time c.args.reply.now in
    let w = wrong {q = q} {t = c.args.table.now} {c = c.args.command.now} c.in-Err-Told.field-0-is c.in-Err-Told.ensures in
    called-passed q c.args.table.now c.args.command.now refl w.entered
    (does-refuse _ c.args.table.now _ _ _ _ (run c.args.time c.args.table.now w.words (sym w.parsed)) c.error.ensures)

pub returns-in-Ok : goal.returns-in-Ok
returns-in-Ok c =
    let q = query c.args.time c.args.reply.now in
    let r = c.in-Ok.ensures in
    called-passed q c.args.table.now c.args.command.now refl r.entered
    (does-as (run c.args.time c.args.table.now (words_in c.in-Ok.ready.words) (sym r.parsed)) c.carry_out.ensures)
