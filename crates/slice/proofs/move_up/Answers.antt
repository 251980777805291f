use Rattle.std.proofs.Common.{◌≡◌, ℕ, suc, ◌+◌, ◌-◌, ◌<◌, ◌≤◌, List, length, get_or, set, ◌∙◌, arith, length-set}
use native.Mathlib.Nat.{add-suc}
use lib.Seq.{slice, slice-cons}
use Rattle.model.specs.Bytes.{written}
use Rattle.slice.proofs.Written.{written-cons, get_or-written-before}
use Rattle.slice.proofs.move_up.Goals as goal

-- the bytes from i to n, moved
abbrev moved : List ℕ → (n by i : ℕ) → List ℕ
moved b n by i = written (by + i) (slice i n b) b

one_more : (b : List ℕ) (n by i j : ℕ) → i ≡ suc j → j < n → by + n ≤ length b
    → set (moved b n by i) (by + j) (get_or (moved b n by i) j 0) ≡ moved b n by j
one_more b n by i j e h fits =
    rw (e, get_or-written-before (by + suc j) (slice (suc j) n b) b j (omega arith) (omega arith), slice-cons j n b 0 h (omega arith), add-suc by j)
    (written-cons (by + j) (get_or b j 0) (slice (suc j) n b) b (omega arith))

pub loop-i-preserved : goal.loop-i-preserved
loop-i-preserved c =
    let a = c.args in (
      rw c.loop-i.invariant.0 (one_more a.buf.now a.n a.by c.loop-i.i (c.loop-i.i - 1) (omega arith) (omega arith) (omega arith)),
      length-set c.loop-i.buf _ _ ∙ c.loop-i.invariant.1,
    )
