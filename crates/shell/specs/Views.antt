-- The part of a table that the calls of a command line mean, and what is listed of it.
use Rattle.std.specs.Prelude.{ℕ, ◌≡◌, Bool, cond, List, Option, Some, None}
use Rattle.model.specs.Table.{form128}
use Rattle.model.specs.Partition.{owner, installer, View, whole, shared_by}
use Rattle.model.specs.Gate.{good_part}
use Rattle.partition.specs.Parts.{refusal_of}
use Rattle.status.specs.Status.{status_of}

-- the place of the boundary, where --owner has its value at the first place and --installer at the second
abbrev pub boundary_place : (owner installer : Option ℕ) → Option ℕ
boundary_place (Some o) i = Some o
boundary_place None i = i

-- who calls: the owner by --owner, the installer by --installer; without either the whole table is meant
abbrev pub view_of : (owner installer : Option ℕ) (boundary : ℕ) → View
view_of (Some o) i n = shared_by owner n
view_of None (Some i) n = shared_by installer n
view_of None None n = whole

-- r is the exit status of a list: by the number of the tests before 2; 2 where the time is out of range or the list could not be written
pub record Listed (v : View) (t : List ℕ) (r : ℕ) : Type 0 where
  pub listed : Bool
  pub status : r ≡ cond listed (status_of (refusal_of (good_part form128 v t))) 2
