-- Subcommands run one after the other: what is left of them leads to what all of them come to.
use mathlib.Core.Path.{◌≡◌, refl, sym, ap, ◌∙◌, subst}
use mathlib.Core.Bool.{Bool, true, false, ◌||◌, or_assoc, or-false}
use mathlib.Core.List.{List, [], ◌∷◌, ◌++◌, map}
use mathlib.Core.Option.{Option}
use Prim.Native.Nat.{ℕ, ◌+◌, ◌*◌, ◌≤◌}
use native.Mathlib.Omega.{arith}
use lib.ListN.{length, take}
use lib.IntN.{ℤ}
use Rattle.model.specs.Resp.{scalar_bytes, scalars_bytes}
use Rattle.model.specs.Bitfield as model
use Rattle.model.specs.Bitfield.{Sub, ends_within, all_end_within, run_sub, run_subs, result_scalar}
use Rattle.model.proofs.Basics.{All, and_left, and_right}
use Rattle.model.proofs.Replies.{results-size}
use Rattle.model.proofs.Runs.{Typed, results-length, run_subs-signed}
use Rattle.outcome.specs.Outcome.{to_model}
use Rattle.slice.specs.Wrote.{Wrote}
use Rattle.slice.proofs.Pieces as written
use Rattle.slice.proofs.Pieces.{join, Writing, wrote_as}
use Rattle.slice.proofs.Writing.{same_size}
use Rattle.bitfield.specs.Run.{Holds, Clean, Leaves, LeavesAll}
use Rattle.bitfield.specs.declared.Done.{Done}
use Rattle.bitfield.specs.declared.Ran.{Ran}
use Rattle.bitfield.proofs.Padded.{front, length-held, held-clean}

-- the bytes of an answer
abbrev pub bytes : Option ℤ → List ℕ
bytes r = scalar_bytes (result_scalar r)

join-answers : (rs : List (Option ℤ)) → join (map bytes rs) ≡ scalars_bytes (map result_scalar rs)
join-answers [] = refl
join-answers (r ∷ rs) = ap (λ (l : List ℕ). bytes r ++ l) (join-answers rs)

-- of subcommands that come to `whole` on a buffer of n bytes, the ones ss are left: the buffer is b now, and the text of their answers, which is
-- written over `old`, is `text`
pub record Underway (whole : model.Ran) (n : ℕ) (old : List ℕ) (ss : List Sub) (b text : List ℕ) (r : Ran) : Type 0 where
  pub clean : Clean b r.len
  pub size : length b ≡ n
  pub room : length text ≡ length old
  pub typed : All Typed ss
  pub ends : all_end_within n ss ≡ true
  pub value : (run_subs ss (take r.len b)).value ≡ whole.value
  pub wrote : (r.wrote || (run_subs ss (take r.len b)).wrote) ≡ whole.wrote
  pub answers : Writing 0 (scalars_bytes (map result_scalar whole.results)) old (map bytes (run_subs ss (take r.len b)).results) text r.end

-- none has run yet
pub begin : {b old : List ℕ} {len : ℕ} (ss : List Sub) → Clean b len → All Typed ss → all_end_within (length b) ss ≡ true → 23 * length ss ≤ length old
    → Underway (run_subs ss (take len b)) (length b) old ss b old (record { len = len; wrote = false; end = 0 })
begin {b} {old} {len} ss c t e h =
    let rs = (run_subs ss (take len b)).results in
    record {
      clean = c;
      size = refl;
      room = refl;
      typed = t;
      ends = e;
      value = refl;
      wrote = refl;
      answers = written.begin (map bytes rs) (sym (join-answers rs)) (omega (arith, results-size rs (run_subs-signed ss (take len b) t), results-length ss (take len b)));
    }

module _ {whole : model.Ran} {n : ℕ} {old : List ℕ} {s : Sub} {ss : List Sub} {b text : List ℕ} {r : Ran} (u : Underway whole n old (s ∷ ss) b text r) where
  -- the next one may run
  pub may-run : ends_within (length b) s ≡ true
  may-run = rw u.size (and_left (ends_within n s) (all_end_within n ss) u.ends)

  module _ {after : List ℕ} {d : Done} (l : Leaves (run_sub s (take r.len b)) (length b) after d) where
    -- and its answer has room
    pub answer-room : r.end + length (bytes (to_model d.answered)) ≤ length text
    unfolding run_subs
    answer-room = rw l.answered (written.room u.answers)

    pub next : {later : List ℕ} {end : ℕ} {wrote : Bool} → Wrote r.end (bytes (to_model d.answered)) text later end → wrote ≡ r.wrote || d.wrote
        → Underway whole n old ss after later (record { len = d.len; wrote = wrote; end = end })
    unfolding run_subs
    next w e =
        let f : take d.len after ≡ (run_sub s (take r.len b)).value = front l.holds in
        record {
          clean = held-clean l.holds u.clean.small;
          size = length-held l.holds ∙ u.size;
          room = same_size answer-room w ∙ u.room;
          typed = u.typed.1;
          ends = and_right (ends_within n s) (all_end_within n ss) u.ends;
          value = rw f u.value;
          wrote = rw e (or_assoc r.wrote d.wrote _ ∙ rw (f, l.wrote) u.wrote);
          answers = rw f (written.next u.answers (wrote_as (ap bytes l.answered) w));
        }

-- all have run
pub finish : {whole : model.Ran} {n : ℕ} {old b text : List ℕ} {r : Ran} → Underway whole n old [] b text r → LeavesAll whole n b old text r
unfolding run_subs
finish {whole} {n} {old} {b} {text} {r} u = record {
  holds = subst (λ (v : List ℕ). Holds v n b r.len) u.value (rw u.size at u.clean.holds);
  wrote = sym (or-false r.wrote) ∙ u.wrote;
  answered = written.all u.answers;
}
