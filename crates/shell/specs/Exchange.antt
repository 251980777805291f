-- What an exchange promises: the store's call, and that the table's file is written only where the call was answered and the file lacks what
-- the table holds.
use Rattle.std.specs.Prelude.{ℕ, ◌≡◌, List}
use Rattle.model.specs.Call.{Outcome}
use Rattle.store.specs.Called.{Called}
use Rattle.status.specs.Status.{to_write}
use Rattle.shell.specs.declared.exchange.Exchange.{Exchange}

pub record Exchanged (o : Outcome) (old : List ℕ) (e : Exchange) (t b : List ℕ) : Type 0 where
  pub called : Called o e.answer t b
  pub writes : e.write ≡ to_write o.number old o.table
