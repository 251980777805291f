-- Feeders that the request rules out, over any store.
use Rattle.std.specs.Prelude.{ℕ, cond, ◌||◌, not, List, [], ◌∷◌, ◌++◌, length, eqb}
use Rattle.model.specs.Checked.{Checked, refuse, ok}
use Rattle.model.specs.Table.{form128, Slot}
use Rattle.model.specs.Gate.{good_table}
use Rattle.model.specs.Call.{Store, untouched}
use Rattle.stream.specs.Frame.{viable}
use Rattle.stream.specs.Feed.{whole, holdable, Fed, more, complete, refused, further, feed, Given, Result, Feeder, ends, result_of, feeding}

-- refuses only at the end of a line
abbrev pub take_lines : (held piece : List ℕ) → Fed
take_lines held [] = more held
take_lines held (c ∷ piece) =
    let now = held ++ (c ∷ []) in
    let onward = further (take_lines now piece) in
    cond (whole now) (complete 1 now) (cond (viable now || not (eqb c 10)) onward (refused 1))

abbrev pub refuses_at_lines : Store → Feeder
refuses_at_lines s held g = result_of s g (cond (holdable held) (take_lines held g.piece) (refused 0))

-- takes the bytes past a whole command too
abbrev pub all_taken : (piece : List ℕ) → Fed → Fed
all_taken piece (more held) = more held
all_taken piece (complete n c) = complete (length piece) c
all_taken piece (refused n) = refused n

abbrev pub takes_past : Store → Feeder
takes_past s held g = result_of s g (all_taken g.piece (feed held g.piece))

-- looks at the table before the command is whole
abbrev pub if_good : Given → Result → Checked (List Slot) → Result
if_good g r (refuse n) = ends r.taken (untouched n g.table g.reply)
if_good g r (ok ss) = r

abbrev pub looks_early : Store → Feeder
looks_early s held g = if_good g (feeding s held g) (good_table form128 g.table)
