-- What a parsed action asks, and what is done at its target.
use Prim.Native.Nat.{ℕ}
use mathlib.Core.Path.{◌≡◌, sym, ap, subst, ◌∙◌}
use mathlib.Core.List.{List}
use Rattle.model.specs.Table.{Form}
use Rattle.model.specs.Search.{lookup, slot_for}
use Rattle.model.specs.Command as model
use Rattle.model.specs.Command.{under}
use Rattle.model.specs.Parse.{word_at}
use Rattle.model.specs.Execute.{act, execute}
use Rattle.model.proofs.Commands.{Known, ActionOk}
use Rattle.table.specs.Slots.{slots_of}
use Rattle.command.specs.Command.{model_action, model_command}
use Rattle.command.specs.declared.Action.{Action}
use Rattle.command.specs.declared.Action.TheVariants.{Exset, Exget, Exsetver, Exincrby, Excas, Excad, Exjoin, Exgae, Del}
use Rattle.live.specs.declared.Target.{Target}
use Rattle.live.specs.Under.{IsUnder, shape_of, lookup_in, slot_in}
use Rattle.execute.specs.Does.{ActionFits, act_in}

-- a parsed action asks no more than a record holds
fits : (f : Form) (ws : List (List ℕ)) (a : Action) → ActionOk f ws (model_action (word_at 2 ws) a) → ActionFits f (word_at 2 ws) a
unfolding model_action
fits f ws (Exset s) h = (h.0.fits, h.1.change)
fits f ws (Exget w) h = tt
fits f ws (Exsetver n) h = tt
fits f ws (Exincrby s) h = h.change
fits f ws (Excas s) h = h.0.fits
fits f ws (Excad n) h = tt
fits f ws (Exjoin s) h = (h.0.fits, h.1.change)
fits f ws (Exgae x) h = tt
fits f ws Del h = tt

pub action-fits : {f : Form} {ws : List (List ℕ)} (a : Action) → Known f ws (model_command ws a) → {v : List ℕ} → v ≡ word_at 2 ws → ActionFits f v a
action-fits {f} {ws} a k e = subst (λ (v : List ℕ). ActionFits f v a) (sym e) (fits f ws a k.action)

-- ---- what is done

-- what is done at the target is what the model does under the key
pub act-at : (t : List ℕ) (g : Target) {k key : List ℕ} {a b : model.Action} → k ≡ key → a ≡ b → IsUnder (shape_of g) t g.time k g.found
    → act (shape_of g) k (lookup_in t g) (slot_in t g) a ≡ execute (shape_of g) g.time (slots_of (shape_of g) t) (under key b)
unfolding execute
act-at t g ek ea u =
    let ss = slots_of (shape_of g) t in
    let l = u.is ∙ ap (λ (k : List ℕ). lookup g.time k ss) ek in
    λ i. act (shape_of g) (ek i) (l i) (slot_for g.time ss (l i)) (ea i)

-- an action of the words ws
pub action-done : (t : List ℕ) (g : Target) (ws : List (List ℕ)) (a : Action) {k v : List ℕ} → k ≡ word_at 1 ws → v ≡ word_at 2 ws → IsUnder (shape_of g) t g.time k g.found
    → execute (shape_of g) g.time (slots_of (shape_of g) t) (model_command ws a) ≡ act_in t g k v a
action-done t g ws a ek ev u = sym (act-at t g ek (ap (λ (v : List ℕ). model_action v a) ev) u)
