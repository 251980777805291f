-- A call on a good table concerns the one record chosen: number, reply and that record's new bytes are those of the call on that record alone.
use mathlib.Core.Path.{◌≡◌, refl, sym, ap, ◌∙◌, subst}
use mathlib.Core.List.{List, [], ◌∷◌}
use mathlib.Core.Option.{some}
use Prim.Native.Nat.{ℕ, zero, suc, ◌<◌}
use native.Mathlib.Omega.{arith}
use lib.ListN.{length, set, get_or}
use Rattle.model.specs.Checked.{Checked, refuse, ok, ◌>>=◌}
use Rattle.model.specs.Table.{Form, form128, Slot, empty, used, record_at, read_table}
use Rattle.model.specs.Resp.{decode, Reply}
use Rattle.model.specs.Gate.{good_table}
use Rattle.model.specs.Command.{Command}
use Rattle.model.specs.Parse.{word_at, parse}
use Rattle.model.specs.Execute.{Effect, answer, store, execute}
use Rattle.model.specs.Call.{Outcome, replied, effect_on, or_untouched, call}
use Rattle.model.proofs.Basics.{at_length}
use Rattle.model.proofs.Words.{few_words}
use Rattle.model.proofs.Tables.{table_bytes-read_table, read_table-set}
use Rattle.model.proofs.Search.{Under}
use Rattle.model.proofs.Steps.{Comes, Any}
use Rattle.model.proofs.Commands.{Known}
use Rattle.model.proofs.Replies.{Roomy, roomy128}
use Rattle.model.proofs.Effects.{Executing}
use Rattle.model.proofs.Calls.{Good, FineIn, fine-in}
use Rattle.indexing.specs.Local.{chosen, KeyOf, in_record, Becomes, stays, goes, comes}
use Rattle.indexing.proofs.LocalExecute.{checked_at, execute-local}
use Rattle.indexing.proofs.LocalTable.{set_get_d, table-good, table-was, chosen-within, one-good, record-back, record-set}
use Rattle.indexing.proofs.LocalTakes.{Takes, execute-takes}
use Rattle.indexing.proofs.LocalKey.{parsed-known}
use Rattle.indexing.proofs.LocalGate.{words_of, words-decoded, call-words}

-- o, on the whole table, is what `one`, on record i alone, makes of it; and what that record holds afterwards
pub record Locally (f : Form) (now : ℕ) (t : List ℕ) (ss : List Slot) (k : List ℕ) (i : ℕ) (o one : Outcome) : Type 0 where
  pub outcome : o ≡ in_record f i t one
  pub slot : Slot
  pub becomes : Becomes now ss k i slot
  pub record-reads : read_table f one.table ≡ some (slot ∷ [])
  pub table-reads : read_table f o.table ≡ some (set ss i slot)

module _ (f : Form) (w : Roomy f) (t : List ℕ) (ss : List Slot) (e : good_table f t ≡ ok ss) (now : ℕ) (c b k : List ℕ) (key : KeyOf f now c k) where
  abbrev i : ℕ
  i = chosen now ss k

  abbrev s : Slot
  s = get_or ss i empty

  within : i < length ss
  within = chosen-within f t ss e now k

  good : Good f (record_at f i t) (s ∷ [])
  good = one-good f t ss e i within

  abbrev Local : Outcome → Outcome → Type 0
  Local = Locally f now t ss k i

  -- the table stays
  idle : (n m : ℕ) (r : List ℕ) → Local (record { number = n; length = m; reply = r; table = t }) (record { number = n; length = m; reply = r; table = record_at f i t })
  idle n m r = record {
    outcome = ap (λ (x : List ℕ). record { number = n; length = m; reply = r; table = x }) (sym (record-back f t ss e i within));
    slot = s;
    becomes = stays;
    record-reads = good.read;
    table-reads = (table-good f t ss e).read ∙ ap some (sym (set_get_d ss i empty));
  }

  module _ (ws : List (List ℕ)) (d : decode c ≡ some ws) (x : Command) (p : parse f now ws ≡ ok x) where
    known : Known f ws x
    known = parsed-known f now ws x p

    execute-chosen : execute f now ss x ≡ checked_at i (execute f now (s ∷ []) x)
    execute-chosen = execute-local f now ss x k (table-was f t ss e).least (key ws x d p)

    takes : Comes Any (Takes now ss k) (checked_at i (execute f now (s ∷ []) x))
    takes =
        subst (Comes Any (Takes now ss k)) execute-chosen
        (subst (λ (y : List ℕ). Comes Any (Takes now ss y) (execute f now ss x)) (key ws x d p) (execute-takes f now ss x))

    becomes-by : (new : Slot) (r : Reply) → Under (word_at 1 ws) new → Takes now ss k (store i new r) → Becomes now ss k i new
    becomes-by empty r u h = goes h
    becomes-by (used q) r u h = comes q h (u ∙ (sym known.key ∙ key ws x d p))

    -- by what the command does to the record alone
    abbrev FineAlone : Effect → Type 0
    FineAlone = FineIn f w now (record_at f i t) (s ∷ []) good (word_at 1 ws)

    stored : (j : ℕ) (new : Slot) (r : Reply) → FineAlone (store j new r) → Takes now ss k (store i new r)
        → Local (effect_on f t b ss (ok (store i new r))) (effect_on f (record_at f i t) b (s ∷ []) (ok (store j new r)))
    stored (suc j) new r h u = absurd (omega (arith, at_length (s ∷ []) (suc j) h.0.claim.slot h.0.claim.there))
    stored zero new r h u = record {
      outcome = ap (λ (x : List ℕ). replied 0 r x b) (record-set f t ss e i within new h.0.kept);
      slot = new;
      becomes = becomes-by new r h.0.under u;
      record-reads = read_table-set f (record_at f i t) (s ∷ []) 0 new (table_bytes-read_table f (record_at f i t) (s ∷ []) good.read) h.0.kept;
      table-reads = read_table-set f t ss i new (table-was f t ss e) h.0.kept;
    }

    done : (y : Checked Effect) → Comes Executing FineAlone y → Comes Any (Takes now ss k) (checked_at i y)
        → Local (effect_on f t b ss (checked_at i y)) (effect_on f (record_at f i t) b (s ∷ []) y)
    done (refuse n) h u = idle _ _ _
    done (ok (answer r)) h u = idle _ _ _
    done (ok (store j new r)) h u = stored j new r h u

    executed : Local (effect_on f t b ss (execute f now ss x)) (effect_on f (record_at f i t) b (s ∷ []) (execute f now (s ∷ []) x))
    executed =
        subst (λ (y : Checked Effect). Local (effect_on f t b ss y) (effect_on f (record_at f i t) b (s ∷ []) (execute f now (s ∷ []) x))) (sym execute-chosen)
        (done (execute f now (s ∷ []) x) (fine-in f w now (record_at f i t) (s ∷ []) good ws (few_words c ws d) x known) takes)

  parsed : (ws : List (List ℕ)) → decode c ≡ some ws → (q : Checked Command) → parse f now ws ≡ q
      → Local (effect_on f t b ss (q >>= execute f now ss)) (effect_on f (record_at f i t) b (s ∷ []) (q >>= execute f now (s ∷ [])))
  parsed ws d (refuse n) p = idle _ _ _
  parsed ws d (ok x) p = executed ws d x p

  -- what the record chosen can become, and how the table reads afterwards
  pub call-becomes : Locally f now t ss k (chosen now ss k) (call f t now c b) (call f (record_at f (chosen now ss k) t) now c b)
  call-becomes =
      subst (λ (o : Outcome). Local o (call f (record_at f i t) now c b)) (sym (call-words f t ss (table-good f t ss e) now c b))
      (subst (Local _) (sym (call-words f (record_at f i t) (s ∷ []) good now c b)) (go (words_of f now (length b) c) (words-decoded f now (length b) c)))
    where
      go : (x : Checked (List (List ℕ))) → Comes Any (λ ws. decode c ≡ some ws) x
          → Local (or_untouched t b (x >>= λ ws. ok (effect_on f t b ss (parse f now ws >>= execute f now ss))))
          (or_untouched (record_at f i t) b (x >>= λ ws. ok (effect_on f (record_at f i t) b (s ∷ []) (parse f now ws >>= execute f now (s ∷ [])))))
      go (refuse n) d = idle _ _ _
      go (ok ws) d = parsed ws d (parse f now ws) refl

  -- the call is the call on that record alone
  pub call-local : call f t now c b ≡ in_record f (chosen now ss k) t (call f (record_at f (chosen now ss k) t) now c b)
  call-local = call-becomes.outcome

-- ---- in document 01's form

module _ (t : List ℕ) (ss : List Slot) (e : good_table form128 t ≡ ok ss) (now : ℕ) (c b k : List ℕ) (key : KeyOf form128 now c k) where
  pub call-becomes128 : Locally form128 now t ss k (chosen now ss k) (call form128 t now c b) (call form128 (record_at form128 (chosen now ss k) t) now c b)
  call-becomes128 = call-becomes form128 roomy128 t ss e now c b k key

  pub call-local128 : call form128 t now c b ≡ in_record form128 (chosen now ss k) t (call form128 (record_at form128 (chosen now ss k) t) now c b)
  call-local128 = call-becomes128.outcome
