-- A buffer as long as a form's least reply buffer has room for every reply.
use Prim.Native.Nat.{ℕ, ◌≤◌}
use native.Mathlib.Omega.{arith}
use mathlib.Core.Path.{◌≡◌, refl}
use mathlib.Core.Bool.{Bool, true, false}
use mathlib.Core.List.{List}
use lib.ListN.{length}
use Rattle.model.specs.Table.{Form, Record}
use Rattle.model.specs.Resp.{Reply}
use Rattle.model.specs.Execute.{get_reply, stale_reply}
use Rattle.model.proofs.Records.{InRange}
use Rattle.model.proofs.Replies.{Roomy, Fits, get-fits, stale-fits}
use Rattle.reply.specs.Replied.{FitsIn, shown}

-- the replies that show a stored value do not depend on the record's key and expiry
pub get-shown : (b : Bool) (r : Record) → get_reply b (shown r.value r.version r.flags) ≡ get_reply b r
get-shown true r = refl
get-shown false r = refl

pub stale-shown : (r : Record) → stale_reply (shown r.value r.version 0) ≡ stale_reply r
stale-shown r = refl

module _ {f : Form} {b : List ℕ} (room : f.reply_room ≤ length b) (w : Roomy f) where
  pub fits_in : {r : Reply} → Fits f w r → FitsIn r b
  fits_in h = record { room = omega arith }

  pub get-fits-in : (with_flags : Bool) (r : Record) → InRange f r → FitsIn (get_reply with_flags (shown r.value r.version r.flags)) b
  get-fits-in true r h = fits_in (get-fits f w true r h)
  get-fits-in false r h = fits_in (get-fits f w false r h)

  pub stale-fits-in : (r : Record) → InRange f r → FitsIn (stale_reply (shown r.value r.version 0)) b
  stale-fits-in r h = fits_in (stale-fits f w r h)
