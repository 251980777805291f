-- How a command that stored its value, or was refused in storing it, answers.
use Rattle.std.specs.Prelude.{ℕ, ◌≤◌, ◌<◌, List, Result, Ok, Err}
use Rattle.outcome.specs.declared.Refusal.{Refusal}
use Rattle.outcome.specs.Outcome.{number_of}
use Rattle.model.specs.Checked.{Checked, ok, ◌>>=◌}
use Rattle.model.specs.Number.{version_limit}
use Rattle.model.specs.Table.{Form}
use Rattle.model.specs.Search.{Placed}
use Rattle.model.specs.Resp.{Reply}
use Rattle.model.specs.Execute.{set_reply, count_reply, swap_reply, version_reply, storing}
use Rattle.put.specs.Put.{Puts}
use Rattle.reply.specs.declared.Answer.{Answer}
use Rattle.write.specs.Does.{held, Does}
use Rattle.write.specs.declared.Success.{Success}
use Rattle.write.specs.declared.Success.TheVariants.{Set, Count, Swap, Join}

-- the reply to the version stored
abbrev pub reply_of : Success → ℕ → Reply
reply_of (Set w) = set_reply w
reply_of (Count w z) = count_reply w z
reply_of Swap = swap_reply
reply_of Join = version_reply

-- a version is in range, and a refusal has an error reply
abbrev pub StoredOk : Result ℕ Refusal → Type 0
StoredOk (Ok n) = n < version_limit
StoredOk (Err r) = (5 ≤ number_of r) × (number_of r ≤ 17)

-- whatever was put into a table, and told by `stored`: the answer a and the buffer's bytes, from `old` to `new`, are those of its effect
pub record Finishes (old new : List ℕ) (stored : Result ℕ Refusal) (reply : ℕ → Reply) (a : Answer) : Type 0 where
  pub does : (f : Form) (t after : List ℕ) (x : Checked Placed) → Puts f t after stored x
      → Does f (held t old) (held after new) (x >>= λ (p : Placed). ok (storing reply p)) a
