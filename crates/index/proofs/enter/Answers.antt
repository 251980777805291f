use Rattle.std.proofs.Common.{◌≡◌, ℕ, ◌-◌, cond, ltb, List, length, get_or, set, sym, refl, ap, ◌∙◌, arith, le-ltb, lt-ltb}
use lib.Seq.{set-get_or}
use lib.Bits.{bit_and}
use Rattle.index.specs.Index.{bucket_of, Enters}
use Rattle.index.proofs.enter.Goals as goal
use Rattle.index.proofs.enter.Goals.{Joined-slot-gt0, then-slot-gt0, else-slot-gt0}

-- the head of the bucket
head-told : (c : Joined-slot-gt0) → c.if-slot-gt0.heads ≡ cond (ltb 0 c.args.slot) (set c.args.heads.now c.bucket-at.result c.args.slot) c.args.heads.now
head-told c =
    let slot = c.args.slot in
    elim c.if-slot-gt0.branch [ then-slot-gt0 w ↦ rw (lt-ltb 0 slot (omega arith)) w.heads-is | else-slot-gt0 w ↦ rw (le-ltb 0 slot (omega arith)) w.heads-is ]

-- what is entered, with the entry that was at the head
entered : (c : Joined-slot-gt0) → let a = c.args in (first : ℕ) (next' : List ℕ)
    → first ≡ get_or a.heads.now c.bucket-at.result 0 → next' ≡ set a.next.now a.slot first
    → Enters a.slot a.key.now a.heads.now a.next.now first c.if-slot-gt0.heads next'
unfolding bucket_of
entered c first next' was link =
    let a = c.args in
    let bucket = c.bucket-at.ensures.0 ∙ ap (λ (h : ℕ). bit_and h (length a.heads.now - 1)) c.of_padded.ensures in
    record {
      was = was ∙ ap (λ (b : ℕ). get_or a.heads.now b 0) bucket;
      head = head-told c ∙ ap (λ (b : ℕ). cond (ltb 0 a.slot) (set a.heads.now b a.slot) a.heads.now) bucket;
      link = link;
    }

-- where no entry was at the head, that after the slot stays 0
pub returns-then-first-eq0-clause-entered : goal.returns-then-first-eq0-clause-entered
returns-then-first-eq0-clause-entered c =
    let a = c.args in
    entered (goal.at.returns-then-first-eq0-clause-entered c).Joined-slot-gt0 0 a.next.now (sym c.if-first-eq0.true)
    (sym (ap (set a.next.now a.slot) (sym c.requires.4) ∙ set-get_or a.next.now a.slot 0))

pub returns-clause-entered : goal.returns-clause-entered
returns-clause-entered c = entered (goal.at.returns-clause-entered c).Joined-slot-gt0 _ _ refl refl
