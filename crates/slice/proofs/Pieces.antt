-- A text is written piece by piece: each begins where the one before ended, and where none is left the text stands.
use mathlib.Core.Path.{◌≡◌, refl, sym, subst}
use mathlib.Core.List.{List, [], ◌∷◌, ◌++◌, append_assoc}
use Prim.Native.Nat.{ℕ, ◌+◌, ◌≤◌}
use native.Mathlib.Nat.{add-zero}
use native.Mathlib.Omega.{arith}
use lib.ListN.{length, set}
use Rattle.slice.specs.Wrote.{Wrote}
use Rattle.slice.proofs.Written.{written-nil, written-set}
use Rattle.slice.proofs.Writing.{room-first, room_after, wrote_then}

pub wrote_nothing : (at : ℕ) (b : List ℕ) → Wrote at [] b b at
wrote_nothing at b = record { place = sym (add-zero at); bytes = sym (written-nil at b) }

-- the same text, however it is come by
pub wrote_as : {at : ℕ} {s t b after : List ℕ} {n : ℕ} → s ≡ t → Wrote at s b after n → Wrote at t b after n
wrote_as {at} {s} {t} {b} {after} {n} e w = subst (λ (x : List ℕ). Wrote at x b after n) e w

abbrev pub join : List (List ℕ) → List ℕ
join [] = []
join (p ∷ ps) = p ++ join ps

-- of the text s, to be written over the bytes `old` from place `at` on, the pieces ps are left: the bytes are b now, and the next piece begins at
-- `place`
pub record Writing (at : ℕ) (s old : List ℕ) (ps : List (List ℕ)) (b : List ℕ) (place : ℕ) : Type 0 where
  pub room : place + length (join ps) ≤ length b
  pub rest : {after : List ℕ} {end : ℕ} → Wrote place (join ps) b after end → Wrote at s old after end

module _ {at : ℕ} {s old : List ℕ} where
  -- nothing is written yet
  pub begin : (ps : List (List ℕ)) → s ≡ join ps → at + length s ≤ length old → Writing at s old ps old at
  begin ps e h = record { room = rw e at h; rest = λ w. rw e w }

  module _ {b : List ℕ} {place : ℕ} where
    module _ {p : List ℕ} {ps : List (List ℕ)} (w : Writing at s old (p ∷ ps) b place) where
      -- the next piece has room
      pub room : place + length p ≤ length b
      room = room-first place p (join ps) w.room

      -- and is written
      pub next : {after : List ℕ} {end : ℕ} → Wrote place p b after end → Writing at s old ps after end
      next q = record { room = room_after (join ps) w.room q; rest = λ r. w.rest (wrote_then (omega (arith, w.room)) q r) }

    -- the next piece is a byte, which is stored
    pub store : {x : ℕ} {ps : List (List ℕ)} → Writing at s old ((x ∷ []) ∷ ps) b place → Writing at s old ps (set b place x) (place + 1)
    store {x} w = next w (record { place = refl; bytes = sym (written-set place x b (omega (arith, room w))) })

    -- two pieces as one
    pub as_one : {p q : List ℕ} {ps : List (List ℕ)} → Writing at s old (p ∷ q ∷ ps) b place → Writing at s old ((p ++ q) ∷ ps) b place
    as_one {p} {q} {ps} w =
        let e = append_assoc p q (join ps) in
        record { room = rw e w.room; rest = λ r. w.rest (wrote_as e r) }

    -- all pieces are written
    pub all : Writing at s old [] b place → Wrote at s old b place
    all w = w.rest (wrote_nothing place b)
