-- The premises of demand 3 of a shared table are met by a worked history, so the claim is not empty.
use Prim.Native.Nat.{ℕ}
use Prim.Native.String.{String}
use mathlib.Core.Path.{◌≡◌, refl}
use mathlib.Core.List.{List, [], ◌∷◌, map}
use native.Mathlib.Omega.{arith}
use lib.ListN.{replicate}
use Rattle.model.specs.Bytes.{text}
use Rattle.model.specs.Table.{form128, used, table_bytes}
use Rattle.model.specs.Resp.{encode}
use Rattle.model.specs.History.{Label, outside, reads, writes, committed}
use Rattle.model.specs.Serializable.{Holds, Lawful}
use Rattle.model.specs.Partition.{Party, owner, installer}
use Rattle.model.specs.Call.{call_in}
use Rattle.model.proofs.Compute.{computing}
use Rattle.model.proofs.Histories.{update, get, swap}
use Rattle.separation.specs.SharedHistory.{SharedEvent, run_shared, final_shared, own_entries, SharedSerial}
use Rattle.separation.proofs.SharedSerial.{shared-serializable128}

-- the owner's foo; the installer's foo, which expires at 5000, and bar; the boundary is 1
abbrev start : List ℕ
start =
    table_bytes form128
    (used (record { key = text "foo"; value = text "x"; flags = 0; version = 7; expiry = 0 })
    ∷ used (record { key = text "foo"; value = text "100"; flags = 9; version = 1; expiry = 5000 })
    ∷ used (record { key = text "bar"; value = text "x"; flags = 0; version = 7; expiry = 0 })
    ∷ [])

abbrev event : Party → Label → ℕ → List String → SharedEvent
event p l time ws = record { party = p; event = record { label = l; time = time; command = encode (map text ws); reply = replicate 128 0 } }

-- transactions 1 and 2 of the installer overlap and 2 is stale. Meanwhile the owner reads, writes and deletes its own foo, puts bar in its
-- place and sends a malformed command, labelled as it likes and after the expiry of the installer's foo
abbrev history : List SharedEvent
history =
    event installer (reads 1) 1000 ("EXGET" ∷ "foo" ∷ [])
    ∷ event owner (reads 1) 1001 ("EXGET" ∷ "foo" ∷ [])
    ∷ event owner (writes 1) 9000 ("EXSET" ∷ "foo" ∷ "y" ∷ [])
    ∷ event installer (reads 2) 1002 ("EXGET" ∷ "foo" ∷ [])
    ∷ event installer (writes 1) 1003 ("EXCAS" ∷ "foo" ∷ "1100" ∷ "1" ∷ "KEEPTTL" ∷ [])
    ∷ event owner outside 9000 ("DEL" ∷ "foo" ∷ [])
    ∷ event installer (writes 2) 1004 ("EXCAS" ∷ "foo" ∷ "2100" ∷ "1" ∷ "KEEPTTL" ∷ [])
    ∷ event owner outside 9000 []
    ∷ event owner (writes 2) 9000 ("EXSET" ∷ "bar" ∷ "z" ∷ [])
    ∷ []

history-holds : Holds form128 1 (text "foo") start
unfolding computing
history-holds = record { used = refl; key = refl }

-- only the installer's four calls are asked for anything
history-lawful : Lawful form128 1 (text "foo") update [] (own_entries installer (run_shared (call_in form128) 1 start history))
unfolding computing
history-lawful = (
  (λ z. refl),
  (refl, get _ (text "EXGET") [] refl refl),
  (
    (λ z. refl),
    (refl, get _ (text "EXGET") [] refl refl),
    (
      (λ z. refl),
      (λ z. swap 1 _ _ "100" 1 (text "EXCAS") (text "1") (text "KEEPTTL") refl refl refl refl refl),
      ((λ z. refl), (λ z. swap 2 _ _ "100" 1 (text "EXCAS") (text "1") (text "KEEPTTL") refl refl refl refl refl), tt),
    ),
  ),
)

-- the claim at this history
pub shared-history-serial : SharedSerial form128 installer 1 update start (run_shared (call_in form128) 1 start history)
shared-history-serial = shared-serializable128 installer 1 1 (text "foo") update start history (omega arith) history-holds history-lawful

pub shared-history-committed : committed (own_entries installer (run_shared (call_in form128) 1 start history)) ≡ 1 ∷ []
unfolding computing
shared-history-committed = refl

pub shared-history-table : final_shared start (run_shared (call_in form128) 1 start history)
    ≡ table_bytes form128
    (used (record { key = text "bar"; value = text "z"; flags = 0; version = 1; expiry = 0 })
    ∷ used (record { key = text "foo"; value = text "1100"; flags = 9; version = 2; expiry = 5000 })
    ∷ used (record { key = text "bar"; value = text "x"; flags = 0; version = 7; expiry = 0 })
    ∷ [])
unfolding computing
shared-history-table = refl
