-- What a call at a time out of range tells of the table: it is refused by 1 where the table breaks a rule, and else by 2.
use Prim.Native.Nat.{ℕ, ◌<◌}
use mathlib.Core.Path.{◌≡◌, refl}
use mathlib.Core.Bool.{Bool, true, false, not}
use mathlib.Core.List.{List}
use lib.Dec.{eqb}
use denote.Enum.Bare.{sameb}
use borrow.Author.Tests.{lt-leb}
use Rattle.model.specs.Checked.{refuse}
use Rattle.model.specs.Table.{form128, time_limit}
use Rattle.model.specs.Gate.{gate}
use Rattle.outcome.specs.Outcome.{number_of}
use Rattle.outcome.specs.declared.Refusal.{Refusal}
use Rattle.outcome.specs.contracts.Refusal.{the_type}
use Rattle.integrity.specs.Check.{faultless}
use Rattle.integrity.proofs.Verdict.{good-slots, not_good}
use Rattle.entry.specs.declared.Query.{Query}
use Rattle.entry.specs.Gated.{gate_in}

module _ (q : Query) (t c : List ℕ) (late : time_limit < q.time) where
  late-good : faultless form128 t ≡ true → gate_in q t c ≡ refuse 2
  unfolding gate
  late-good h = rw (good-slots form128 t h, lt-leb q.time time_limit late)

  late-bad : faultless form128 t ≡ false → gate_in q t c ≡ refuse 1
  unfolding gate
  late-bad h = rw (not_good form128 t h)

  pub late-told : (n : ℕ) → gate_in q t c ≡ refuse n → not (eqb n 1) ≡ faultless form128 t
  late-told n e = go (faultless form128 t) refl
    where
      go : (b : Bool) → faultless form128 t ≡ b → not (eqb n 1) ≡ b
      go true h = let same : n ≡ 2 = cc (e, late-good h) in rw same
      go false h = let same : n ≡ 1 = cc (e, late-bad h) in rw same

-- a table that breaks a rule is refused by a number of its own
pub is-damaged : (r : Refusal) → sameb the_type r Refusal.Damaged ≡ eqb (number_of r) 1
is-damaged Refusal.Damaged = refl
is-damaged Refusal.Time = refl
is-damaged Refusal.Room = refl
is-damaged Refusal.Malformed = refl
is-damaged Refusal.Unknown = refl
is-damaged Refusal.Words = refl
is-damaged Refusal.Size = refl
is-damaged Refusal.Syntax = refl
is-damaged Refusal.Number = refl
is-damaged Refusal.Expiry = refl
is-damaged Refusal.Bounds = refl
is-damaged Refusal.Stale = refl
is-damaged Refusal.Stored = refl
is-damaged Refusal.Overflow = refl
is-damaged Refusal.Version = refl
is-damaged Refusal.Length = refl
is-damaged Refusal.Full = refl
is-damaged Refusal.Boundary = refl
