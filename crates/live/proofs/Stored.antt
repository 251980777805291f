-- A write asks of a live record its attributes alone: what it makes of them is the same for the record at its slot.
use Prim.Native.Nat.{ℕ}
use mathlib.Core.Path.{◌≡◌, refl}
use mathlib.Core.List.{List}
use mathlib.Core.Option.{Option, none, some}
use Rattle.model.specs.Checked.{Checked}
use Rattle.model.specs.Table.{Form}
use Rattle.model.specs.Search.{live_record}
use Rattle.model.specs.Command.{Presence, always, if_absent, if_live, Change, raise, set, Expire, clear, keep, at, Terms}
use Rattle.model.specs.Execute.{Effect, version_after, flags_after, expiry_after, allowed, agrees, admit}
use Rattle.live.specs.declared.Lookup.{Lookup}
use Rattle.live.specs.declared.Lookup.TheVariants.{Live, Expired, Absent}
use Rattle.live.specs.Under.{model_lookup, stored_in}

module _ (f : Form) (t : List ℕ) where
  pub version-stored : (l : Lookup) (c : Change) → version_after c (stored_in l) ≡ version_after c (live_record (model_lookup f t l))
  version-stored (Live i a) (raise e) = refl
  version-stored (Live i a) (set n) = refl
  version-stored (Expired i) c = refl
  version-stored Absent c = refl

  pub flags-stored : (l : Lookup) (g : Option ℕ) → flags_after g (stored_in l) ≡ flags_after g (live_record (model_lookup f t l))
  flags-stored (Live i a) none = refl
  flags-stored (Live i a) (some g) = refl
  flags-stored (Expired i) g = refl
  flags-stored Absent g = refl

  pub expiry-stored : (l : Lookup) (e : Expire) → expiry_after e (stored_in l) ≡ expiry_after e (live_record (model_lookup f t l))
  expiry-stored (Live i a) clear = refl
  expiry-stored (Live i a) keep = refl
  expiry-stored (Live i a) (at n) = refl
  expiry-stored (Expired i) e = refl
  expiry-stored Absent e = refl

  allowed-stored : (l : Lookup) (p : Presence) → allowed p (stored_in l) ≡ allowed p (live_record (model_lookup f t l))
  allowed-stored (Live i a) always = refl
  allowed-stored (Live i a) if_absent = refl
  allowed-stored (Live i a) if_live = refl
  allowed-stored (Expired i) p = refl
  allowed-stored Absent p = refl

  agrees-stored : (l : Lookup) (c : Change) → agrees c (stored_in l) ≡ agrees c (live_record (model_lookup f t l))
  agrees-stored (Live i a) (raise none) = refl
  agrees-stored (Live i a) (raise (some n)) = refl
  agrees-stored (Live i a) (set n) = refl
  agrees-stored (Expired i) c = refl
  agrees-stored Absent c = refl

  pub admit-stored : (l : Lookup) (m : Terms) (next : Checked Effect) → admit m (stored_in l) next ≡ admit m (live_record (model_lookup f t l)) next
  admit-stored l m next = rw (allowed-stored l m.presence, agrees-stored l m.change)
