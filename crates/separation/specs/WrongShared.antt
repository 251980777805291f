-- Shared stores that request E6 rules out.
use Rattle.std.specs.Prelude.{cond, length, eqb}
use Rattle.model.specs.Checked.{ok, given, ◌>>=◌}
use Rattle.model.specs.Table.{form128, read_table}
use Rattle.model.specs.Gate.{gate}
use Rattle.model.specs.Parse.{parse}
use Rattle.model.specs.Execute.{execute}
use Rattle.model.specs.Call.{SharedStore, effect_on, or_untouched, call_in, call}

-- where the caller's part is full, makes the call on the whole table, and so takes a record of the other part
abbrev pub takes_anywhere : SharedStore
takes_anywhere v t now c b =
    let o = call_in form128 v t now c b in
    let p = call form128 t now c b in
    cond (eqb o.number 17) p o

-- makes every test as it should, and then looks for the key in both parts
abbrev pub finds_anywhere : SharedStore
finds_anywhere v t now c b = or_untouched t b (do
  i ← gate form128 v t now (length b) c
  ss ← given 1 (read_table form128 t)
  ok (effect_on form128 t b ss (parse form128 now i.words >>= execute form128 now ss)))

-- asks that keys are distinct over the whole table
abbrev pub compares_all_keys : SharedStore
compares_all_keys v t now c b =
    let o = call_in form128 v t now c b in
    let p = call form128 t now c b in
    cond (eqb p.number 1) p o
