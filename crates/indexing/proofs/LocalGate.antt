-- A call on a good table, from the words of its command on.
use mathlib.Core.Path.{◌≡◌, refl}
use mathlib.Core.Bool.{Bool, true, false}
use mathlib.Core.List.{List}
use mathlib.Core.Option.{Option, some}
use Prim.Native.Nat.{ℕ}
use lib.ListN.{length}
use lib.Dec.{leb}
use Rattle.model.specs.Checked.{Checked, refuse, ok, check, given, ◌>>=◌, ◌>>◌}
use Rattle.model.specs.Table.{Form, Slot, time_limit}
use Rattle.model.specs.Resp.{decode}
use Rattle.model.specs.Partition.{whole}
use Rattle.model.specs.Gate.{Inputs, gate}
use Rattle.model.specs.Parse.{parse}
use Rattle.model.specs.Execute.{execute}
use Rattle.model.specs.Call.{effect_on, or_untouched, call_in, call}
use Rattle.model.specs.CurrentValue.{or_nothing, shows_in, current_value_in, current_value}
use Rattle.model.proofs.Steps.{Comes, Any, by-check, of-given}
use Rattle.model.proofs.Calls.{Good}

-- tests 2 to 4
abbrev pub words_of : Form → (now room : ℕ) (command : List ℕ) → Checked (List (List ℕ))
words_of f now room c = do
  check 2 (leb now time_limit)
  check 3 (leb f.reply_room room)
  given 4 (decode c)

abbrev inputs : List Slot → List (List ℕ) → Inputs
inputs ss ws = record { slots = ss; words = ws }

pub words-decoded : (f : Form) (now room : ℕ) (c : List ℕ) → Comes Any (λ ws. decode c ≡ some ws) (words_of f now room c)
words-decoded f now room c =
    by-check Any (λ ws. decode c ≡ some ws) 2 (leb now time_limit) _ tt λ h2.
    by-check Any (λ ws. decode c ≡ some ws) 3 (leb f.reply_room room) _ tt λ h3.
    of-given Any (λ ws. decode c ≡ some ws) 4 (decode c) tt λ ws e. e

module _ (f : Form) (t : List ℕ) (ss : List Slot) (g : Good f t ss) where
  pub gate-words : (now room : ℕ) (c : List ℕ) → gate f whole t now room c ≡ (words_of f now room c >>= λ ws. ok (inputs ss ws))
  unfolding gate
  gate-words now room c = rw (g.read, g.keys) (go (leb now time_limit) (leb f.reply_room room) (decode c))
    where
      go : (a b : Bool) (o : Option (List (List ℕ)))
          → (check 2 a >> (check 3 b >> (given 4 o >>= λ ws. ok (inputs ss ws))))
          ≡ ((check 2 a >> (check 3 b >> given 4 o)) >>= λ ws. ok (inputs ss ws))
      go false b o = refl
      go true false o = refl
      go true true o = refl

  pub call-words : (now : ℕ) (c b : List ℕ)
      → call f t now c b ≡ or_untouched t b (words_of f now (length b) c >>= λ ws. ok (effect_on f t b ss (parse f now ws >>= execute f now ss)))
  unfolding call_in
  call-words now c b = rw (gate-words now (length b) c) (go (words_of f now (length b) c))
    where
      go : (x : Checked (List (List ℕ)))
          → or_untouched t b ((x >>= λ ws. ok (inputs ss ws)) >>= λ i. ok (effect_on f t b i.slots (parse f now i.words >>= execute f now i.slots)))
          ≡ or_untouched t b (x >>= λ ws. ok (effect_on f t b ss (parse f now ws >>= execute f now ss)))
      go (refuse n) = refl
      go (ok ws) = refl

  pub value-words : (now : ℕ) (c : List ℕ) → current_value f t now c ≡ or_nothing (words_of f now f.reply_room c >>= λ ws. shows_in f now ss ws)
  unfolding current_value_in
  value-words now c = rw (gate-words now f.reply_room c) (go (words_of f now f.reply_room c))
    where
      go : (x : Checked (List (List ℕ)))
          → or_nothing ((x >>= λ ws. ok (inputs ss ws)) >>= λ i. shows_in f now i.slots i.words) ≡ or_nothing (x >>= λ ws. shows_in f now ss ws)
      go (refuse n) = refl
      go (ok ws) = refl
