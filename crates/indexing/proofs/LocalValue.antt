-- The current value in a good table is that of the record chosen, as a table of its own, at that record's place.
use mathlib.Core.Path.{◌≡◌, refl, sym, ap, ◌∙◌, subst}
use mathlib.Core.Bool.{Bool, true, false, cond}
use mathlib.Core.List.{List, [], ◌∷◌}
use mathlib.Core.Option.{some}
use Prim.Native.Nat.{ℕ, ◌+◌, ◌*◌}
use native.Mathlib.Nat.{zero-mul}
use native.Mathlib.Omega.{arith}
use lib.ListN.{length, get_or}
use lib.Dec.{eqb}
use Rattle.model.specs.Checked.{Checked, refuse, ok, ◌>>=◌, ◌>>◌}
use Rattle.model.specs.Table.{Form, Slot, empty, used, record_size, value_at, record_at}
use Rattle.model.specs.Search.{Placed, Lookup, live_at, expired_at, absent, lookup}
use Rattle.model.specs.Resp.{decode}
use Rattle.model.specs.Gate.{good_table}
use Rattle.model.specs.Command.{Action, exset, exget, exsetver, exincrby, excas, excad, exjoin, exgae, del, bitfield, Command}
use Rattle.model.specs.Parse.{parse}
use Rattle.model.specs.Execute.{Effect, execute}
use Rattle.model.specs.CurrentValue.{Shown, in_table, in_command, shifted, word_start, value_of, shown_after, shown_on, shows_by, shows_in, or_nothing, current_value}
use Rattle.model.proofs.Basics.{at_length}
use Rattle.model.proofs.Search.{LiveHit, lookup-hit}
use Rattle.model.proofs.Steps.{Comes, Any}
use Rattle.indexing.specs.Local.{chosen, KeyOf}
use Rattle.indexing.proofs.LocalSearch.{place_at, lookup_at, chosen-alone}
use Rattle.indexing.proofs.LocalExecute.{checked_at, execute-local}
use Rattle.indexing.proofs.LocalTable.{table-good, table-was, chosen-within, one-good}
use Rattle.indexing.proofs.LocalGate.{words_of, words-decoded, value-words}

module _ (f : Form) (i : ℕ) (ws : List (List ℕ)) where
  value_of-at : (p : Placed) → p.at ≡ 0 → value_of f (place_at i p) ≡ shifted (i * record_size f) (value_of f p)
  value_of-at p e =
      let none : p.at * record_size f ≡ 0 = ap (λ (n : ℕ). n * record_size f) e ∙ zero-mul (record_size f) in
      ap (λ (a : ℕ). in_table a (length p.rec.value)) {x = i * record_size f + value_at} {y = i * record_size f + (p.at * record_size f + value_at)} (omega arith)

  shown_after-at : (p : Placed) → p.at ≡ 0 → (a : Action) → shown_after f ws (place_at i p) a ≡ shifted (i * record_size f) (shown_after f ws p a)
  shown_after-at p e (exget w) = value_of-at p e
  shown_after-at p e (excas v n x) = go (eqb n p.rec.version)
    where
      go : (b : Bool) → cond b (in_command (word_start 2 ws) (length v)) (value_of f (place_at i p))
          ≡ shifted (i * record_size f) (cond b (in_command (word_start 2 ws) (length v)) (value_of f p))
      go true = refl
      go false = value_of-at p e
  shown_after-at p e (exset s) = refl
  shown_after-at p e (exsetver n) = refl
  shown_after-at p e (exincrby x) = refl
  shown_after-at p e (excad n) = refl
  shown_after-at p e (exjoin j) = refl
  shown_after-at p e (exgae x) = refl
  shown_after-at p e del = refl
  shown_after-at p e (bitfield ss) = refl

  -- what is found in one slot is found at its number 0
  shown_on-at : (k : List ℕ) (s : Slot) (l : Lookup) → LiveHit k (s ∷ []) l → (a : Action)
      → shown_on f ws (lookup_at i l) a ≡ shifted (i * record_size f) (shown_on f ws l a)
  shown_on-at k s (live_at p) h a = shown_after-at p (omega (arith, at_length (s ∷ []) p.at (used p.rec) h.there)) a
  shown_on-at k s (expired_at j) h a = refl
  shown_on-at k s absent h a = refl

module _ (f : Form) (t : List ℕ) (ss : List Slot) (e : good_table f t ≡ ok ss) (now : ℕ) (c k : List ℕ) (key : KeyOf f now c k) where
  abbrev i : ℕ
  i = chosen now ss k

  abbrev s : Slot
  s = get_or ss i empty

  -- what is shown of the table is what is shown of the record, at its place
  abbrev Same : Checked Shown → Checked Shown → Type 0
  Same x one = or_nothing x ≡ shifted (i * record_size f) (or_nothing one)

  executed : (ws : List (List ℕ)) (x : Command) → x.key ≡ k
      → Same (shows_by f now ss ws (lookup now x.key ss) x) (shows_by f now (s ∷ []) ws (lookup now x.key (s ∷ [])) x)
  unfolding execute
  executed ws x h =
      (λ j. or_nothing (execute-local f now ss x k (table-was f t ss e).least h j >> ok (shown_on f ws (found j) x.action)))
      ∙ go (execute f now (s ∷ []) x)
    where
      found : lookup now x.key ss ≡ lookup_at i (lookup now x.key (s ∷ []))
      found = subst (λ (y : List ℕ). lookup now y ss ≡ lookup_at i (lookup now y (s ∷ []))) (sym h) (chosen-alone now k ss (table-was f t ss e).least).under

      go : (y : Checked Effect)
          → Same (checked_at i y >> ok (shown_on f ws (lookup_at i (lookup now x.key (s ∷ []))) x.action)) (y >> ok (shown_on f ws (lookup now x.key (s ∷ [])) x.action))
      go (refuse n) = refl
      go (ok y) = shown_on-at f i ws x.key s (lookup now x.key (s ∷ [])) (lookup-hit now x.key (s ∷ [])) x.action

  parsed : (ws : List (List ℕ)) → decode c ≡ some ws → (q : Checked Command) → parse f now ws ≡ q
      → Same (q >>= λ x. shows_by f now ss ws (lookup now x.key ss) x) (q >>= λ x. shows_by f now (s ∷ []) ws (lookup now x.key (s ∷ [])) x)
  parsed ws d (refuse n) p = refl
  parsed ws d (ok x) p = executed ws x (key ws x d p)

  worded : (q : Checked (List (List ℕ))) → Comes Any (λ ws. decode c ≡ some ws) q
      → Same (q >>= λ ws. shows_in f now ss ws) (q >>= λ ws. shows_in f now (s ∷ []) ws)
  worded (refuse n) d = refl
  worded (ok ws) d = parsed ws d (parse f now ws) refl

  pub value-local : current_value f t now c ≡ shifted (chosen now ss k * record_size f) (current_value f (record_at f (chosen now ss k) t) now c)
  value-local =
      value-words f t ss (table-good f t ss e) now c
      ∙ (worded (words_of f now f.reply_room c) (words-decoded f now f.reply_room c)
      ∙ ap (shifted (i * record_size f)) (sym (value-words f (record_at f i t) (s ∷ []) (one-good f t ss e i (chosen-within f t ss e now k)) now c)))
