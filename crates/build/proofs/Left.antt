-- The words that are left to add, as they are counted: line and bulk strings are read at their places.
use Prim.Native.Nat.{ℕ, zero, suc, ◌-◌, ◌≤◌, ◌<◌}
use native.Mathlib.Omega.{arith}
use mathlib.Core.Path.{◌≡◌, refl, ap, ◌∙◌}
use mathlib.Core.Bool.{cond, ◌&&◌}
use mathlib.Core.List.{List, [], ◌∷◌}
use mathlib.Core.Option.{Option, none, some}
use lib.ListN.{length, drop, drop_of_length-le, length-drop}
use lib.Dec.{leb}
use borrow.Author.Tests.{le-leb, lt-leb}
use Rattle.model.specs.Optional.{◌>>=◌}
use Rattle.model.specs.Resp.{Taken, array_mark, read_line, read_bulk}
use Rattle.model.specs.Build.{bulks_left, words_left}
use Rattle.model.proofs.Build.{bulks_left-nil}
use Rattle.resp.specs.Words.{line_from, word_from}
use Rattle.std.specs.Prelude.{None}
use Rattle.resp.proofs.Lines.{LineAt, line-malformed}
use Rattle.resp.proofs.Bulks.{WordAt, word-malformed}

-- ---- bulk strings

module _ (s : List ℕ) (at n : ℕ) where
  pub left_end : length s ≤ at → bulks_left n (drop at s) ≡ some n
  left_end h = rw (drop_of_length-le s h) (bulks_left-nil n)

  pub left-past : at < length s → n ≡ 0 → bulks_left n (drop at s) ≡ none
  left-past h k = rw k (go (drop at s) refl)
    where
      go : (x : List ℕ) → drop at s ≡ x → bulks_left 0 x ≡ none
      go [] e = absurd (omega (arith, length-drop at s, ap length e))
      go (c ∷ x) e = refl

  module _ (h : at < length s) (k : 0 < n) where
    -- a word is to be read there
    reading : bulks_left n (drop at s) ≡ read_bulk (drop at s) >>= (λ w. bulks_left (n - 1) w.rest)
    reading = go n (drop at s) k refl
      where
        go : (n : ℕ) (x : List ℕ) → 0 < n → drop at s ≡ x → bulks_left n x ≡ read_bulk x >>= (λ w. bulks_left (n - 1) w.rest)
        go zero x k e = absurd (omega arith)
        go (suc n) [] k e = absurd (omega (arith, length-drop at s, ap length e))
        go (suc n) (c ∷ x) k e = let p : suc n - 1 ≡ n = omega arith in rw p

    pub left-malformed : word_from s at ≡ None → bulks_left n (drop at s) ≡ none
    left-malformed e = reading ∙ rw (word-malformed s at e)

    pub left-next : {start end next : ℕ} → WordAt s at start end next → bulks_left n (drop at s) ≡ bulks_left (n - 1) (drop next s)
    left-next w = reading ∙ rw w.reads

-- ---- the first line

module _ (s : List ℕ) where
  -- what a count of words makes of the words left
  abbrev counted : Taken ℕ → Option ℕ
  counted l = cond (leb 1 l.value && leb l.value 16) (bulks_left l.value l.rest) none

  too_many : (l : Taken ℕ) → 16 < l.value → counted l ≡ none
  too_many l h = rw (le-leb 1 l.value (omega arith), lt-leb l.value 16 h)

  pub left-unread : line_from array_mark s 0 ≡ None → words_left s ≡ none
  unfolding words_left
  left-unread e = go (read_line array_mark s) refl
    where
      go : (o : Option (Taken ℕ)) → read_line array_mark s ≡ o → o >>= counted ≡ none
      go none q = refl
      go (some l) q = too_many l (omega (arith, line-malformed array_mark s 0 e q))

  module _ {v next : ℕ} (l : LineAt array_mark s 0 v next) where
    pub left-many : 16 < v → words_left s ≡ none
    unfolding words_left
    left-many h = rw (l.reads, le-leb 1 v (omega arith), lt-leb v 16 h)

    pub left-zero : v < 1 → words_left s ≡ none
    unfolding words_left
    left-zero h = rw (l.reads, lt-leb 1 v h)

    pub left-few : 1 ≤ v → v ≤ 16 → words_left s ≡ bulks_left v (drop next s)
    unfolding words_left
    left-few k h = rw (l.reads, le-leb 1 v k, le-leb v 16 h)
