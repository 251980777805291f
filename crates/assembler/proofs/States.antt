-- The model's machine, as the code goes over bytes: one step, and a scan that has come to a place of the bytes.
use Prim.Native.Nat.{ℕ, suc, ◌+◌, ◌≤◌}
use native.Mathlib.Numerals.{add-one}
use mathlib.Core.Path.{◌≡◌, sym, ap, ◌∙◌}
use mathlib.Core.Bool.{true, false, not}
use mathlib.Core.List.{List}
use mathlib.Core.Option.{none, some}
use lib.ListN.{drop}
use Rattle.model.specs.Resp.{command_limit}
use Rattle.stream.specs.Frame.{Place, next, need, fits}
use Rattle.assembler.specs.Places.{beyond}
use Rattle.assembler.proofs.Moves.{fits-beyond}
use Rattle.stream.specs.Machine.{State, at, step, behind, scan}

-- ---- one byte

module _ (st : State) (c : ℕ) where
  pub step-none : next st.place c ≡ none → step st c ≡ none
  unfolding step
  step-none e = rw e

  module _ (p : Place) (e : next st.place c ≡ some p) (h : st.used + need st.place ≤ command_limit) where
    -- the limit, as the code asks for it
    asked : fits (suc st.used) p ≡ not (beyond p (st.used + 1))
    asked = fits-beyond st.used st.place c p e h ∙ ap (λ (n : ℕ). not (beyond p n)) (sym (add-one st.used))

    pub step-beyond : beyond p (st.used + 1) ≡ true → step st c ≡ none
    unfolding step
    step-beyond k = rw (e, asked, k)

    pub step-at : beyond p (st.used + 1) ≡ false → step st c ≡ some (at p (st.used + 1))
    unfolding step
    step-at k = rw (e, asked, k, add-one st.used)

-- ---- a scan at place i

-- the scan of the bytes s from a state on has come to place i and to the state st
abbrev pub ComeTo : (from : State) (s : List ℕ) (st : State) (i : ℕ) → Type 0
ComeTo from s st i = scan from s ≡ behind i (scan st (drop i s))
