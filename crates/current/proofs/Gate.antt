-- What the current value is, by the gate's answer.
use Prim.Native.Nat.{ℕ}
use mathlib.Core.Path.{◌≡◌, refl, sym, ap, ◌∙◌}
use Rattle.std.specs.Prelude.{Err}
use mathlib.Core.List.{List}
use Rattle.model.specs.Checked.{Checked, refuse, ok}
use Rattle.model.specs.Table.{form128}
use Rattle.model.specs.Partition.{whole}
use Rattle.model.specs.Gate.{Inputs, gate}
use Rattle.model.specs.CurrentValue.{Shown, nothing, or_nothing, shows_in, current_value_in, current_value}
use Rattle.table.specs.Slots.{slots_of}
use Rattle.model.specs.Parse.{word_at, parse}
use Rattle.model.proofs.Commands.{ActionOk}
use Rattle.resp.specs.Spans.{span_at}
use Rattle.resp.specs.Held.{words_in}
use Rattle.command.specs.Command.{model_action, model_command, checked_task}
use Rattle.command.specs.declared.Action as code
use Rattle.command.specs.declared.Task.TheVariants.{Action, Bitfield}
use Rattle.entry.specs.declared.Query.{Query}
use Rattle.entry.specs.declared.Ready.{Ready}
use Rattle.entry.specs.declared.NotReady.{NotReady}
use Rattle.entry.specs.declared.NotReady.TheVariants.{Silent, Told}
use Rattle.entry.specs.Gated.{gate_in, Entered, IsReady, Prepares}
use Rattle.entry.proofs.Parses.{known}
use Rattle.current.specs.Current.{shown_of, ActionAt}
use Rattle.current.proofs.Showing.{action-at, shown-is, wrong-shown, fields-shown}

-- the query has the least room
module _ (q : Query) (t c : List ℕ) (room : q.room ≡ form128.reply_room) where
  least : {x : Checked Inputs} → gate_in q t c ≡ x → gate form128 whole t q.time form128.reply_room c ≡ x
  least e = ap (λ (n : ℕ). gate form128 whole t q.time n c) (sym room) ∙ e

  pub value-refused : {n : ℕ} → gate_in q t c ≡ refuse n → nothing ≡ current_value form128 t q.time c
  unfolding current_value_in
  value-refused e = rw (least e)

  pub value-passed : {ws : List (List ℕ)} → Entered q t c ws → {s : Shown} → s ≡ or_nothing (shows_in form128 q.time (slots_of form128 t) ws)
      → s ≡ current_value form128 t q.time c
  unfolding current_value_in
  value-passed p e = rw (least p.is) e

  -- a command that is not ready shows nothing
  pub not-ready : (e : NotReady) → Prepares q t c (Err e) → nothing ≡ current_value form128 t q.time c
  not-ready (Silent r) h = value-refused h
  not-ready (Told r) h = value-passed h.entered (wrong-shown form128 q.time t h.words h.parsed)

  module _ (r : Ready) (h : IsReady q t c r) where
    -- nor does BITFIELD
    pub ready-fields : r.task ≡ Bitfield → nothing ≡ current_value form128 t q.time c
    ready-fields e = value-passed h.entered (fields-shown form128 q.time t (words_in r.words) (ap (checked_task (words_in r.words)) (sym e) ∙ h.parsed))

    module _ {a : code.Action} (e : r.task ≡ Action a) where
      acted : ok (model_command (words_in r.words) a) ≡ parse form128 q.time (words_in r.words)
      acted = ap (checked_task (words_in r.words)) (sym e) ∙ h.parsed

      action-ok : ActionOk form128 (words_in r.words) (model_action (word_at 2 (words_in r.words)) a)
      action-ok = (known form128 q.time (words_in r.words) acted refl).action

      pub ready-at : ActionAt a (words_in r.words)
      ready-at = action-at form128 (words_in r.words) a action-ok

      -- what an action shows of what stands under its key
      pub ready-shown : shown_of form128 t r.found a (span_at 2 (words_in r.words)) ≡ current_value form128 t q.time c
      ready-shown = value-passed h.entered (shown-is form128 q.time t (words_in r.words) a acted action-ok h.under)
