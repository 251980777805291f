-- `difference::put_line` meets its contract: the mark, a blank, the key, the names and a line feed are pieces side by side.
use Prim.Native.Nat.{ℕ, ◌+◌}
use native.Mathlib.Omega.{arith}
use mathlib.Core.Path.{◌≡◌, refl}
use mathlib.Core.List.{List, [], ◌∷◌}
use lib.ListN.{length-set, set}
use borrow.Author.Rules.{rules}
use Rattle.model.specs.Difference.{hex, fields_text}
use Rattle.slice.proofs.Writing.{same_size}
use Rattle.difference.specs.Lines.{fields_of, line_bytes}
use Rattle.slice.proofs.Pieces.{Writing, begin, room, next, store, all}
use Rattle.difference.proofs.line.put_line.Statement.{statement}
use Rattle.difference.proofs.line.put_line.Tie as tie

-- the pieces ps of the line are left
abbrev Left : tie.Start → (ps : List (List ℕ)) (b : List ℕ) (place : ℕ) → Type 0
Left c = let a = c.args in Writing a.at (line_bytes a.mark a.key.now (fields_of a.d)) a.out.now

-- the pieces after the blank
abbrev later : tie.Start → List (List ℕ)
later c = hex c.args.key.now ∷ fields_text (fields_of c.args.d) ∷ (10 ∷ []) ∷ []

begun : (c : tie.Start) → let a = c.args in Left c ((a.mark ∷ []) ∷ (32 ∷ []) ∷ later c) a.out.now a.at
begun c = begin _ refl c.requires

marked : (c : tie.Start) → let a = c.args in Left c (later c) (set (set a.out.now a.at a.mark) (a.at + 1) 32) (a.at + 2)
marked c =
    let e : c.args.at + 1 + 1 ≡ c.args.at + 2 = omega arith in
    rw e at (store (store (begun c)))

-- all but the line feed
almost : (c : tie.After-put_fields-end)
    → Left c.before.before.before.before.before.before.before.before ((10 ∷ []) ∷ []) c.put_fields-end.new.out c.put_fields-end.result
almost c =
    next (next (marked c.before.before.before.before.before.before.before.before) c.put_hex-names.ensures) c.put_fields-end.ensures

put-fields-requires : tie.Need-put_fields-end-requires
put-fields-requires c κs =
    room (next (marked c.before.before.before.before.before.before.before) c.put_hex-names.ensures)

returns : tie.Need-returns
returns c = all (store (almost c.before.before))

same_length : tie.Need-shape_of-out
same_length c = same_size c.requires (returns c)

pub put_line_spec : {M : Type 1} → statement M
put_line_spec =
    tie.close
    (tie.spec
    (λ c. search rules)
    (λ c. search rules)
    (λ c. simp length-set (omega arith))
    (λ c. search rules)
    (λ c κs. room (marked c.before.before.before))
    put-fields-requires
    (λ c. omega (arith, room (almost c.before.before)))
    (λ c. omega (arith, room (almost c.before.before), simp length-set at (same_length c)))
    same_length
    returns)
