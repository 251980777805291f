-- Flags fit 32 bits.
use Rattle.std.proofs.Common.{◌≡◌, arith, ℕ, Some}
use Rattle.std.proofs.Math.Option.{Option, none, some}
use Rattle.model.proofs.NumberWords.{read_flags-below}
use Rattle.outcome.specs.Outcome.{from_model}
use Rattle.values.proofs.flags_in.Goals as goal

known : (o : Option ℕ) {n : ℕ} → Some n ≡ from_model o → o ≡ some n
known none e = cc
known (some n) e = cc

pub overflow_cast-result : goal.overflow_cast-result
overflow_cast-result c = record { fits = omega (arith, read_flags-below _ _ (known _ c.in-Some-read_flags.ensures)) }
