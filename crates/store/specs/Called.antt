-- What a call promises: its number, its reply's length and all bytes of the table, t, and of the reply buffer, b, are the model's.
use Rattle.std.specs.Prelude.{ℕ, ◌≡◌, List}
use Rattle.model.specs.Call.{Outcome}
use Rattle.reply.specs.declared.Answer.{Answer}

pub record Called (o : Outcome) (a : Answer) (t b : List ℕ) : Type 0 where
  pub number : a.number ≡ o.number
  pub length : a.len ≡ o.length
  pub table : t ≡ o.table
  pub reply : b ≡ o.reply
