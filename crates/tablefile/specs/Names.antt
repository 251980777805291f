-- The names beside a table's.
use Rattle.std.specs.Prelude.{ℕ, suc, cond, ◌||◌, List, [], ◌∷◌, ◌++◌, eqb, ltb}
use Rattle.model.specs.Bytes.{text}

-- the new file stands in the table's folder, whose name ends in a slash or is empty; its own name does not depend on the table's
abbrev pub new_name : List ℕ → List ℕ
new_name folder = folder ++ text ".pietrunel.new.XXXXXX"

-- the place after the last slash of a path, 0 where there is none
unfoldable pub after_slash : List ℕ → ℕ
after_slash [] = 0
after_slash (c ∷ s) = let n = after_slash s in cond (eqb c 47 || ltb 0 n) (suc n) 0
