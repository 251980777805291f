-- What is known of a command by what its parse answered.
use Prim.Native.Nat.{ℕ}
use mathlib.Core.Path.{◌≡◌, sym, subst, ◌∙◌}
use mathlib.Core.List.{List}
use Rattle.model.specs.Checked.{Checked, refuse, ok}
use Rattle.model.specs.Table.{Form}
use Rattle.model.specs.Command.{Command}
use Rattle.model.specs.Parse.{parse}
use Rattle.model.proofs.Steps.{Comes}
use Rattle.model.proofs.Commands.{Parsing, Known, parse-known}

module _ (f : Form) (time : ℕ) (ws : List (List ℕ)) {x : Checked Command} (e : x ≡ parse f time ws) where
  pub known : {c : Command} → x ≡ ok c → Known f ws c
  known q = subst (Comes Parsing (Known f ws)) (sym e ∙ q) (parse-known f time ws)

  pub refused : {n : ℕ} → x ≡ refuse n → Parsing n
  refused q = subst (Comes Parsing (Known f ws)) (sym e ∙ q) (parse-known f time ws)
