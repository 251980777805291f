-- An answer whose reply was written is an outcome of the model.
use Prim.Native.Nat.{ℕ}
use mathlib.Core.Path.{◌≡◌}
use mathlib.Core.List.{List}
use Rattle.model.specs.Resp.{Reply}
use Rattle.model.specs.Call.{replied}
use Rattle.reply.specs.declared.Answer.{Answer}
use Rattle.reply.specs.Replied.{Replied, outcome_of}

pub answered-outcome : {n : ℕ} {r : Reply} {old after : List ℕ} {a : Answer} → Replied n r old after a → (t : List ℕ)
    → outcome_of a t after ≡ replied n r t old
answered-outcome h t = rw (h.number, h.len, h.bytes)
