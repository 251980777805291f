-- BITFIELD from its subcommands on: what is known of them, and what is done at their target.
use Prim.Native.Nat.{ℕ, ◌≤◌}
use mathlib.Core.Path.{◌≡◌, refl, sym, ap, ◌∙◌}
use mathlib.Core.List.{List}
use lib.ListN.{drop}
use Rattle.std.specs.Prelude.{Result, Ok, Err}
use Rattle.outcome.specs.Outcome.{checked, number_of}
use Rattle.outcome.specs.declared.Refusal.{Refusal}
use Rattle.model.specs.Checked.{Checked, refuse, ok, ◌>>=◌}
use Rattle.model.specs.Table.{Form}
use Rattle.model.specs.Bitfield.{Sub}
use Rattle.model.specs.Command.{Command, under, bitfield}
use Rattle.model.specs.Subcommands.{subcommands_in}
use Rattle.model.specs.Parse.{word_at, parse_subcommands, parse}
use Rattle.model.specs.Execute.{Effect, execute}
use Rattle.model.proofs.Commands.{Parsing, Known}
use Rattle.table.specs.Slots.{slots_of}
use Rattle.command.specs.Subcommand.{model_subs}
use Rattle.command.specs.declared.subcommand.Subs.{Subs}
use Rattle.live.specs.declared.Target.{Target}
use Rattle.live.specs.Under.{IsUnder, shape_of}
use Rattle.entry.proofs.Parses as parses
use Rattle.execute.specs.Does.{FieldsFit, fields_in}
use Rattle.store.proofs.Acting.{act-at}

module _ (ws : List (List ℕ)) (r : Result Subs Refusal) (h : checked model_subs r ≡ subcommands_in (drop 2 ws)) where
  -- the command of subcommands
  abbrev commanded : Checked (List Sub) → Checked Command
  commanded x = x >>= λ ss. ok (under (word_at 1 ws) (bitfield ss))

  read : parse_subcommands ws ≡ commanded (checked model_subs r)
  read = sym (ap commanded h)

-- a refusal and what is read
module _ (ws : List (List ℕ)) (f : Form) (time : ℕ) (e : parse_subcommands ws ≡ parse f time ws) where
  pub refused : (r : Refusal) → refuse (number_of r) ≡ subcommands_in (drop 2 ws) → Parsing (number_of r)
  refused r h = parses.refused f time ws e (read ws (Err r) h)

  pub known : (s : Subs) → ok (model_subs s) ≡ subcommands_in (drop 2 ws) → Known f ws (under (word_at 1 ws) (bitfield (model_subs s)))
  known s h = parses.known f time ws e (read ws (Ok s) h)

  pub fields_fit : (s : Subs) → ok (model_subs s) ≡ subcommands_in (drop 2 ws) → s.count ≤ 4 → FieldsFit s
  fields_fit s h few = record { few = few; typed = (known s h).action.typed }

module _ (ws : List (List ℕ)) (t : List ℕ) (g : Target) where
  -- what they come to
  abbrev done : Checked Command → Checked Effect
  done x = x >>= execute (shape_of g) g.time (slots_of (shape_of g) t)

  pub fields-refused : (r : Refusal) → refuse (number_of r) ≡ subcommands_in (drop 2 ws) → done (parse_subcommands ws) ≡ refuse (number_of r)
  fields-refused r h = ap done (read ws (Err r) h)

  pub fields-done : (s : Subs) → ok (model_subs s) ≡ subcommands_in (drop 2 ws) → {k : List ℕ} → k ≡ word_at 1 ws → IsUnder (shape_of g) t g.time k g.found
      → done (parse_subcommands ws) ≡ fields_in t g k s
  fields-done s h ek u = ap done (read ws (Ok s) h) ∙ sym (act-at t g ek refl u)
