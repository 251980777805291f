-- The current value in a part of a table without faults is that of the part as a table of its own, so it depends on the part alone.
use mathlib.Core.Path.{◌≡◌, sym, ap, ◌∙◌}
use mathlib.Core.List.{List}
use Prim.Native.Nat.{ℕ}
use Rattle.model.specs.Table.{Form}
use Rattle.model.specs.Partition.{Party, shared_by, partition}
use Rattle.model.specs.CurrentValue.{place_in, current_value_in, current_value}
use Rattle.separation.specs.Separation.{Faultless}
use Rattle.separation.proofs.Reading.{shown-by-part}
use Rattle.separation.proofs.PartIsTable.{tests-of-part}

-- it is shown at the part's place in the table
pub shown-on-part : (f : Form) (n : ℕ) (t : List ℕ) → Faultless f n t → (p : Party) (now : ℕ) (c : List ℕ)
    → current_value_in f (shared_by p n) t now c ≡ place_in f (shared_by p n) (current_value f (partition f p n t) now c)
shown-on-part f n t z p = shown-by-part f (shared_by p n) t (tests-of-part f n t z p)

-- tables that are equal in the caller's part show the same
pub shown-separate : (f : Form) (n : ℕ) (t u : List ℕ) → Faultless f n t → Faultless f n u → (p : Party) → partition f p n t ≡ partition f p n u
    → (now : ℕ) (c : List ℕ) → current_value_in f (shared_by p n) t now c ≡ current_value_in f (shared_by p n) u now c
shown-separate f n t u zt zu p e now c =
    shown-on-part f n t zt p now c
    ∙ (ap (λ (x : List ℕ). place_in f (shared_by p n) (current_value f x now c)) e ∙ sym (shown-on-part f n u zu p now c))
