-- Each wrong feeder falls at one call.
use mathlib.Core.Path.{◌≡◌, sym, ap}
use mathlib.Core.List.{[]}
use Prim.Native.Nat.{ℕ}
use native.Mathlib.Omega.{arith}
use Rattle.model.specs.Bytes.{text}
use Rattle.model.specs.Call.{Store}
use Rattle.model.proofs.Basics.{none-some}
use Rattle.stream.specs.Feed.{Result, Serves}
use Rattle.stream.specs.WrongFeeders.{refuses_at_lines, takes_past, looks_early}
use Rattle.stream.proofs.Rows.{walking, brought}
use Rattle.stream.proofs.Pieces.{serves-unique}

module _ (s : Store) where
  -- `*0` can't be made whole
  pub refuses_at_lines-falls : Serves s (refuses_at_lines s) → ⊥
  unfolding walking
  refuses_at_lines-falls h = none-some 4 (ap (λ (r : Result). r.number) (serves-unique s (refuses_at_lines s) h [] (brought (text "*0"))))

  -- ten bytes of eleven
  pub takes_past-falls : Serves s (takes_past s) → ⊥
  unfolding walking
  takes_past-falls h =
      let e : ◌≡◌ {A = ℕ} 11 10 = ap (λ (r : Result). r.taken) (serves-unique s (takes_past s) h [] (brought (text "*1\r\n$0\r\n\r\n*"))) in
      omega arith

  -- a table of no records is refused by 1, but only once the command is whole
  pub looks_early-falls : Serves s (looks_early s) → ⊥
  unfolding walking
  looks_early-falls h = none-some 1 (sym (ap (λ (r : Result). r.number) (serves-unique s (looks_early s) h [] (brought (text "*")))))
