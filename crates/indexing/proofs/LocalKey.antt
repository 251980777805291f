-- The key of a command.
use mathlib.Core.Path.{◌≡◌, sym, ap, ◌∙◌, subst}
use mathlib.Core.List.{List}
use mathlib.Core.Option.{some}
use Prim.Native.Nat.{ℕ}
use Rattle.model.specs.Checked.{ok}
use Rattle.model.specs.Table.{Form}
use Rattle.model.specs.Resp.{decode}
use Rattle.model.specs.Command.{Command}
use Rattle.model.specs.Parse.{word_at, parse}
use Rattle.model.proofs.Basics.{some-eq}
use Rattle.model.proofs.Steps.{Comes}
use Rattle.model.proofs.Commands.{Parsing, Known, parse-known}
use Rattle.indexing.specs.Local.{KeyOf}

pub parsed-known : (f : Form) (now : ℕ) (ws : List (List ℕ)) (x : Command) → parse f now ws ≡ ok x → Known f ws x
parsed-known f now ws x e = subst (Comes Parsing (Known f ws)) e (parse-known f now ws)

-- a command's key is its word 1
pub word_at-key : (f : Form) (now : ℕ) (c : List ℕ) (ws : List (List ℕ)) → decode c ≡ some ws → KeyOf f now c (word_at 1 ws)
word_at-key f now c ws e vs x d h = (parsed-known f now vs x h).key ∙ ap (word_at 1) (some-eq (sym d ∙ e))

-- a command that is refused by then may be given any key
pub no_key : (f : Form) (now : ℕ) (c : List ℕ) → ((ws : List (List ℕ)) (x : Command) → decode c ≡ some ws → parse f now ws ≡ ok x → ⊥)
    → (k : List ℕ) → KeyOf f now c k
no_key f now c never k ws x d h = absurd (never ws x d h)
