-- What is told of two tables, by what the check said of each.
use Prim.Native.Nat.{ℕ}
use mathlib.Core.Path.{◌≡◌, ap}
use mathlib.Core.Bool.{true, false}
use mathlib.Core.List.{List}
use Rattle.model.specs.Bytes.{text}
use Rattle.model.specs.Table.{form128}
use Rattle.model.specs.Gate.{good_table}
use Rattle.model.specs.Difference.{difference, lines_bytes, report_of, report}
use Rattle.table.specs.Slots.{slots_of}
use Rattle.integrity.specs.Check.{faultless}
use Rattle.integrity.proofs.Verdict.{good-slots, not_good}

module _ (a b : List ℕ) where
  pub first-bad : faultless form128 a ≡ false → report a b ≡ text "bad 1\n"
  unfolding report
  first-bad h = ap (λ o. report_of o (good_table form128 b)) (not_good form128 a h)

  module _ (h : faultless form128 a ≡ true) where
    pub second-bad : faultless form128 b ≡ false → report a b ≡ text "bad 2\n"
    unfolding report
    second-bad k = λ i. report_of (good-slots form128 a h i) (not_good form128 b k i)

    pub both-good : faultless form128 b ≡ true → report a b ≡ lines_bytes (difference (slots_of form128 a) (slots_of form128 b))
    unfolding report
    both-good k = λ i. report_of (good-slots form128 a h i) (good-slots form128 b k i)
