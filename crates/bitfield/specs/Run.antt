-- A value in a buffer, and what subcommands by value leave of it.
use Rattle.std.specs.Prelude.{ℕ, ◌≤◌, ◌≡◌, List, map, length, take}
use Rattle.model.specs.Bytes.{padded}
use Rattle.model.specs.Search.{live_record}
use Rattle.model.specs.Resp.{scalars_bytes}
use Rattle.model.specs.Bitfield as model
use Rattle.model.specs.Execute.{value_or_empty}
use Rattle.model.specs.Bitfield.{result_scalar}
use Rattle.outcome.specs.Outcome.{to_model}
use Rattle.slice.specs.Wrote.{Wrote}
use Rattle.live.specs.declared.Target.{Target}
use Rattle.live.specs.Under.{lookup_in}
use Rattle.bitfield.specs.declared.Done.{Done}
use Rattle.bitfield.specs.declared.Ran.{Ran}

-- the live record's value, and no bytes under an absent key
abbrev pub stored_value : (t : List ℕ) → Target → List ℕ
stored_value t g = value_or_empty (live_record (lookup_in t g))

-- the buffer b of n bytes has the value v, of `len` bytes, and zeros after it
pub record Holds (v : List ℕ) (n : ℕ) (b : List ℕ) (len : ℕ) : Type 0 where
  pub bytes : b ≡ padded n v
  pub size : len ≡ length v
  pub within : length v ≤ n

-- the first `len` bytes of a buffer of at most 128 are a value, and the others zeros
pub record Clean (b : List ℕ) (len : ℕ) : Type 0 where
  pub holds : Holds (take len b) (length b) b len
  pub small : length b ≤ 128

-- what a subcommand that came to d leaves in a buffer of n bytes, b after it, and what is told of it
pub record Leaves (d : model.Done) (n : ℕ) (b : List ℕ) (r : Done) : Type 0 where
  pub holds : Holds d.value n b r.len
  pub wrote : r.wrote ≡ d.wrote
  pub answered : to_model r.answered ≡ d.result

-- what subcommands that came to d leave: the buffer b, and the text of their answers, from `old` to `text`
pub record LeavesAll (d : model.Ran) (n : ℕ) (b old text : List ℕ) (r : Ran) : Type 0 where
  pub holds : Holds d.value n b r.len
  pub wrote : r.wrote ≡ d.wrote
  pub answered : Wrote 0 (scalars_bytes (map result_scalar d.results)) old text r.end
