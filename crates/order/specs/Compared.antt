-- Byte order of two keys, told three ways.
use Rattle.std.specs.Prelude.{ℕ, cond, List}
use Rattle.model.specs.Order.{before}
use Rattle.std.specs.declared.cmp.Ordering.{Ordering}
use Rattle.std.specs.declared.cmp.Ordering.TheVariants.{Less, Equal, Greater}

-- how s stands to t
unfoldable pub compared : (s t : List ℕ) → Ordering
compared s t = cond (before s t) Less (cond (before t s) Greater Equal)
