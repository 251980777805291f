-- Entries with a party's part in place of the table: what demand 3 asks and claims of a party's record is the same of them.
use mathlib.Core.Path.{◌≡◌, refl, ap, ◌∙◌}
use mathlib.Core.Bool.{Bool, not}
use mathlib.Core.List.{List, [], ◌∷◌, map}
use mathlib.Core.Option.{Option}
use Prim.Native.Nat.{ℕ}
use Rattle.model.specs.Table.{Form}
use Rattle.model.specs.Call.{Outcome}
use Rattle.model.specs.History.{Label, outside, reads, writes, Entry, Got, got_at, got_by, overtaken_at, overtaken, committed_at, committed}
use Rattle.model.specs.Serializable.{Holds, Labelled, Lawful, Answered, AllAnswered}
use Rattle.model.specs.Partition.{Party, partition}
use Rattle.separation.specs.SharedHistory.{Within}
use Rattle.separation.proofs.Parts.{own_number, record_at-partition}

module _ (f : Form) (p : Party) (n : ℕ) where
  abbrev pub own_outcome : Outcome → Outcome
  own_outcome o = record { number = o.number; length = o.length; reply = o.reply; table = partition f p n o.table }

  abbrev pub project : Entry → Entry
  project x = record { event = x.event; before = partition f p n x.before; outcome = own_outcome x.outcome }

  -- ---- what can be told from the replies

  got_by-project : (u : ℕ) (xs : List Entry) → got_by u (map project xs) ≡ got_by u xs
  got_by-project u [] = refl
  got_by-project u (x ∷ xs) = ap (got_at u x.event.label (project x)) (got_by-project u xs) ∙ same x.event.label (got_by u xs)
    where
      same : (l : Label) (m : Option Got) → got_at u l (project x) m ≡ got_at u l x m
      same outside m = refl
      same (reads v) m = refl
      same (writes v) m = refl

  overtaken-project : (u : ℕ) (xs : List Entry) → overtaken u (map project xs) ≡ overtaken u xs
  overtaken-project u [] = refl
  overtaken-project u (x ∷ xs) = ap (overtaken_at u x.event.label (project x)) (overtaken-project u xs) ∙ same x.event.label (overtaken u xs)
    where
      same : (l : Label) (m : Bool) → overtaken_at u l (project x) m ≡ overtaken_at u l x m
      same outside m = refl
      same (reads v) m = refl
      same (writes v) m = refl

  pub committed-project : (xs : List Entry) → committed (map project xs) ≡ committed xs
  committed-project [] = refl
  committed-project (x ∷ xs) = ap (committed_at x.event.label (project x)) (committed-project xs) ∙ same x.event.label (committed xs)
    where
      same : (l : Label) (m : List ℕ) → committed_at l (project x) m ≡ committed_at l x m
      same outside m = refl
      same (reads v) m = refl
      same (writes v) m = refl

  -- ---- the conclusions

  pub answered-project : (past xs : List Entry) → AllAnswered (map project past) (map project xs) → AllAnswered past xs
  answered-project past [] h = tt
  answered-project past (x ∷ xs) h = (same x.event.label h.0, answered-project (x ∷ past) xs h.1)
    where
      same : (l : Label) → Answered (map project past) (project x) l → Answered past x l
      same outside a = tt
      same (reads u) a = tt
      same (writes u) a = λ e. ((a e).0 ∙ overtaken-project u past, (a e).1 ∙ ap not (overtaken-project u past))

  -- ---- the premises

  module _ (k : List ℕ) (update : ℕ → List ℕ → List ℕ) where
    labelled-project : (past : List Entry) (x : Entry) (l : Label) → Labelled k update past x l → Labelled k update (map project past) (project x) l
    labelled-project past x outside h = h
    labelled-project past x (reads u) h = h
    labelled-project past x (writes u) h = λ e.
        let q = h e in
        record {
          got = q.got;
          gotten = got_by-project u past ∙ q.gotten;
          name = q.name;
          version = q.version;
          option = q.option;
          decoded = q.decoded;
          excas = q.excas;
          same_version = q.same_version;
          keepttl = q.keepttl;
        }

  module _ (i : ℕ) (k : List ℕ) (in-part : Within p n i) where
    pub holds-project : (t : List ℕ) → Holds f i k t → Holds f (own_number p n i) k (partition f p n t)
    holds-project t h =
        let e = record_at-partition f p n i t in-part in
        record { used = rw e h.used; key = rw e h.key }

    pub lawful-project : (update : ℕ → List ℕ → List ℕ) (past xs : List Entry) → Lawful f i k update past xs → Lawful f (own_number p n i) k update (map project past) (map project xs)
    lawful-project update past [] h = tt
    lawful-project update past (x ∷ xs) h = (
      (λ e. rw (record_at-partition f p n i x.before in-part) (h.0 e)),
      labelled-project k update past x x.event.label h.1,
      lawful-project update (x ∷ past) xs h.2,
    )
