-- The part that the current value names lies inside the command or the table.
use Prim.Native.Nat.{ℕ, ◌+◌, ◌≤◌}
use native.Mathlib.Omega.{arith}
use mathlib.Core.Path.{◌≡◌, refl, ap}
use mathlib.Core.Bool.{Bool, true, false, cond}
use mathlib.Core.List.{List}
use lib.ListN.{length}
use lib.Dec.{eqb}
use Rattle.model.specs.Checked.{Checked, refuse, ok, ◌>>◌}
use Rattle.model.specs.Table.{form128, used}
use Rattle.model.specs.Search.{Placed, Lookup, live_at, expired_at, absent, lookup}
use Rattle.model.specs.Partition.{whole}
use Rattle.model.specs.Gate.{Inputs, gate}
use Rattle.model.specs.Command.{Command, Action, exset, exget, exsetver, exincrby, excas, excad, exjoin, exgae, del, bitfield}
use Rattle.model.specs.Parse.{parse}
use Rattle.model.specs.Execute.{Effect, execute_on}
use Rattle.model.specs.CurrentValue.{Shown, in_command, is_in_command, start_of, length_of, word_start, value_of, shown_after, shown_on, shows_by, shows, or_nothing, current_value_in, current_value}
use Rattle.model.proofs.Basics.{at_length}
use Rattle.model.proofs.Words.{encode-decode}
use Rattle.model.proofs.Records.{InRange, Kept}
use Rattle.model.proofs.Tables.{all-at, length-table_bytes, table_bytes-read_table}
use Rattle.model.proofs.Search.{live-hit}
use Rattle.model.proofs.Steps.{Comes, Any, by-step, weaken}
use Rattle.model.proofs.Commands.{Parsing, Known, ActionOk, parse-known}
use Rattle.model.proofs.Calls.{Early, Through, gate-through}
use Rattle.model.proofs.Shown.{word_start-within}

module _ (t : List ℕ) (now : ℕ) (c : List ℕ) where
  abbrev pub Inside : Shown → Type 0
  Inside s = start_of s + length_of s ≤ length (cond (is_in_command s) c t)

  module _ (i : Inputs) (g : Through form128 t now 128 c i) where
    value-inside : (k : List ℕ) (p : Placed) → lookup now k i.slots ≡ live_at p → Inside (value_of form128 p)
    value-inside k p h =
        let was = table_bytes-read_table form128 t i.slots g.table.read in
        let there = (live-hit now k i.slots p h).there in
        let range : InRange form128 p.rec = all-at (Kept form128) i.slots p.at (used p.rec) was.kept there in
        omega (arith, at_length i.slots p.at (used p.rec) there, length-table_bytes form128 i.slots was.kept, ap length was.bytes, range.value-to)

    after-inside : (k : List ℕ) (p : Placed) → lookup now k i.slots ≡ live_at p → (a : Action) → ActionOk form128 i.words a → Inside (shown_after form128 i.words p a)
    after-inside k p h (exget w) known = value-inside k p h
    after-inside k p h (excas v n e) known = go (eqb n p.rec.version)
      where
        go : (b : Bool) → Inside (cond b (in_command (word_start 2 i.words) (length v)) (value_of form128 p))
        go true =
            omega (
              arith,
              ap length known.0.word,
              word_start-within i.words 2 known.0.within,
              ap length (encode-decode c i.words g.command).bytes,
            )
        go false = value-inside k p h
    after-inside k p h (exset s) known = omega arith
    after-inside k p h (exsetver n) known = omega arith
    after-inside k p h (exincrby s) known = omega arith
    after-inside k p h (excad n) known = omega arith
    after-inside k p h (exjoin s) known = omega arith
    after-inside k p h (exgae x) known = omega arith
    after-inside k p h del known = omega arith
    after-inside k p h (bitfield ss) known = omega arith

    shown-inside : (cm : Command) → Known form128 i.words cm → Comes Any Inside (shows_by form128 now i.slots i.words (lookup now cm.key i.slots) cm)
    shown-inside cm known = go (lookup now cm.key i.slots) refl (execute_on form128 now i.slots (lookup now cm.key i.slots) cm)
      where
        go : (l : Lookup) → lookup now cm.key i.slots ≡ l → (x : Checked Effect) → Comes Any Inside (x >> ok (shown_on form128 i.words l cm.action))
        go l h (refuse n) = tt
        go (live_at p) h (ok e) = after-inside cm.key p h cm.action known.action
        go (expired_at j) h (ok e) = omega arith
        go absent h (ok e) = omega arith

  settled : (x : Checked Shown) → Comes Any Inside x → Inside (or_nothing x)
  settled (refuse n) h = omega arith
  settled (ok s) h = h

  pub inside : Inside (current_value form128 t now c)
  unfolding current_value_in
  inside =
      settled (shows form128 whole t now c)
      (by-step Any Inside (Through form128 t now 128 c) (gate form128 whole t now 128 c) _
      (weaken Early Any (Through form128 t now 128 c) (gate form128 whole t now 128 c) (λ n e. tt) (gate-through form128 t now 128 c)) λ i g.
      by-step Any Inside (Known form128 i.words) (parse form128 now i.words) _
      (weaken Parsing Any (Known form128 i.words) (parse form128 now i.words) (λ n e. tt) (parse-known form128 now i.words)) λ cm known.
      shown-inside i g cm known)
