-- A reply is written piece by piece: its elements, of an array the first line before them.
use mathlib.Core.Path.{◌≡◌, refl, sym, ap, ◌∙◌}
use mathlib.Core.List.{List, [], ◌∷◌, ◌++◌, map, append-nil}
use Prim.Native.Nat.{ℕ}
use native.Mathlib.Nat.{zero-add}
use native.Mathlib.Omega.{arith}
use lib.ListN.{length}
use Rattle.model.specs.Resp.{array_mark, line, Scalar, Reply, one, array, scalar_bytes, scalars_bytes, reply_bytes}
use Rattle.slice.proofs.Pieces as written
use Rattle.slice.proofs.Pieces.{join, Writing, all}
pub use Rattle.slice.proofs.Pieces.{as_one, room, next}
use Rattle.reply.specs.Replied.{FitsIn, Replied}

abbrev pub pieces : Reply → List (List ℕ)
pieces (one x) = scalar_bytes x ∷ []
pieces (array xs) = line array_mark (length xs) ∷ map scalar_bytes xs

join-scalars : (xs : List Scalar) → join (map scalar_bytes xs) ≡ scalars_bytes xs
join-scalars [] = refl
join-scalars (x ∷ xs) = ap (λ (l : List ℕ). scalar_bytes x ++ l) (join-scalars xs)

-- the pieces one after another are the reply
join-pieces : (r : Reply) → join (pieces r) ≡ reply_bytes r
unfolding reply_bytes
join-pieces (one x) = append-nil (scalar_bytes x)
join-pieces (array xs) = ap (λ (l : List ℕ). line array_mark (length xs) ++ l) (join-scalars xs)

-- nothing is written yet
abbrev pub Begun : Reply → List ℕ → Type 0
Begun r old = Writing 0 (reply_bytes r) old (pieces r) old 0

pub begin : {r : Reply} {old : List ℕ} → FitsIn r old → Begun r old
begin {r} {old} h = written.begin {at = 0} {old = old} (pieces r) (sym (join-pieces r)) (omega (arith, h.room))

-- all pieces are written
pub replied : {r : Reply} {old b : List ℕ} {at n : ℕ} → Writing 0 (reply_bytes r) old [] b at → Replied n r old b (record { number = n; len = at })
replied {r} w =
    let e = zero-add (length (reply_bytes r)) in
    record { number = refl; len = (all w).place ∙ e; bytes = (all w).bytes ∙ rw e }
