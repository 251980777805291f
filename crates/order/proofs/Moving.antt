-- A number put into a list: those from its place on move up by one.
use Prim.Native.Nat.{ℕ, suc, ◌+◌, ◌-◌, ◌≤◌, ◌<◌}
use native.Mathlib.Omega.{arith}
use mathlib.Core.Path.{◌≡◌, ap, ◌∙◌}
use mathlib.Core.List.{List, [], ◌∷◌, ◌++◌, append-nil}
use lib.ListN.{length, take, drop, set, length-append, drop_of_length-le}
use lib.Seq.{length-take-le, take-take, set_at}
use borrow.Rule.Slice.PartMut.{put_mid}
use Rattle.model.specs.Bytes.{part, written}
use Rattle.slice.proofs.Written.{part-is, part-back, length_part}

-- of d + 1 numbers the first d, moved up
moved_up : (m : List ℕ) (d : ℕ) → length m ≡ d + 1 → written 1 (take d m) m ≡ take 1 m ++ take d m
moved_up m d e =
    let k : length (take d m) ≡ d = length-take-le d m (omega arith) in
    let z : drop (1 + length (take d m)) m ≡ [] = drop_of_length-le m {i = 1 + length (take d m)} (omega arith) in
    ap (λ (s : List ℕ). take 1 m ++ (take d m ++ s)) z ∙ ap (λ (s : List ℕ). take 1 m ++ s) (append-nil (take d m))

-- the first of them is written over
put_first : (m : List ℕ) (d p x : ℕ) (l : List ℕ) → length m ≡ d + 1 → p ≤ length l
    → set (written p (take 1 m ++ take d m) l) p x ≡ written p (x ∷ take d m) l
put_first [] d p x l e h = absurd (omega arith)
put_first (y ∷ m) d p x l e h =
    set_at (take p l) y (take d (y ∷ m) ++ drop (p + suc (length (take d (y ∷ m)))) l) x p (length-take-le p l h)

-- the list after the move and the write
pub put-moved : (l r : List ℕ) (n p x : ℕ) → p ≤ n → n < length l → r ≡ written 1 (take (n - p) (take (n + 1 - p) (drop p l))) (take (n + 1 - p) (drop p l))
    → set (put_mid p (n + 1 - p) l r) p x ≡ written p (x ∷ part p (n - p) l) l
put-moved l r n p x h fits e =
    let d = n - p in
    let m = part p (d + 1) l in
    let size : n + 1 ≡ p + (d + 1) = omega arith in
    let whole : take (n + 1 - p) (drop p l) ≡ m = ap (λ (k : ℕ). take (k - p) (drop p l)) size ∙ part-is p (d + 1) l in
    let long : length m ≡ d + 1 = length_part p (d + 1) l (omega arith) in
    let is : r ≡ take 1 m ++ take d m = e ∙ (λ i. written 1 (take d (whole i)) (whole i)) ∙ moved_up m d long in
    let first : take d m ≡ part p d l = take-take d (d + 1) (drop p l) (omega arith) in
    let k : length (take 1 m ++ take d m) ≡ d + 1 = length-append (take 1 m) (take d m) ∙ (λ i. length-take-le 1 m (omega arith) i + length-take-le d m (omega arith) i) ∙ omega arith in
    ap (λ (s : List ℕ). set (put_mid p (n + 1 - p) l s) p x) is
    ∙ ap (λ (j : ℕ). set (put_mid p (j - p) l (take 1 m ++ take d m)) p x) size
    ∙ ap (λ (s : List ℕ). set s p x) (part-back p (d + 1) l (take 1 m ++ take d m) k)
    ∙ put_first m d p x l long (omega arith)
    ∙ ap (λ (s : List ℕ). written p (x ∷ s) l) first
