-- What answering by a whole reply asks and promises.
use Rattle.std.specs.Prelude.{ℕ, ◌≤◌, ◌≡◌, List, [], ◌++◌, length, drop}
use Rattle.model.specs.Table.{Record}
use Rattle.model.specs.Resp.{Reply, reply_bytes}
use Rattle.model.specs.Call.{Outcome}
use Rattle.reply.specs.declared.Answer.{Answer}

-- the buffer b has room for the reply r
pub record FitsIn (r : Reply) (b : List ℕ) : Type 0 where
  pub room : length (reply_bytes r) ≤ length b

-- the answer a has the number n and the length of the reply r, which stands at the front of the bytes `after`; the bytes behind it are the old ones
pub record Replied (n : ℕ) (r : Reply) (old after : List ℕ) (a : Answer) : Type 0 where
  pub number : a.number ≡ n
  pub len : a.len ≡ length (reply_bytes r)
  pub bytes : after ≡ reply_bytes r ++ drop (length (reply_bytes r)) old

-- an answer as an outcome of the model, with the bytes of the table and of the reply buffer after the call
abbrev pub outcome_of : Answer → (table reply : List ℕ) → Outcome
outcome_of a t b = record { number = a.number; length = a.len; reply = b; table = t }

-- a record with what a reply shows of it; no reply shows key or expiry
abbrev pub shown : (value : List ℕ) (version flags : ℕ) → Record
shown v n g = record { key = []; value = v; flags = g; version = n; expiry = 0 }
