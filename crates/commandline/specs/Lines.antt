-- A command line, option by option.
use Rattle.std.specs.Prelude.{ℕ, Bool, true, false, Some}
use Rattle.commandline.specs.declared.line.Line.{Line}
use Rattle.commandline.specs.declared.switch.Switch.{Switch}
use Rattle.commandline.specs.declared.switch.Switch.TheVariants.{Table, Time, Init, Owner, Installer, List as Listing, Check, Diff, Keeper, End, Unknown, Word}

-- the line with the option at place `at` added, whose value stands at place `value`: of two equal options, the last counts; after -- the words begin
abbrev pub noted : Line → Switch → (at value : ℕ) → Line
noted l Table at value = record { table = Some value; time = l.time; init = l.init; owner = l.owner; installer = l.installer; list = l.list; check = l.check; diff = l.diff; keeper = l.keeper; unknown = l.unknown; words = l.words }
noted l Time at value = record { table = l.table; time = Some value; init = l.init; owner = l.owner; installer = l.installer; list = l.list; check = l.check; diff = l.diff; keeper = l.keeper; unknown = l.unknown; words = l.words }
noted l Init at value = record { table = l.table; time = l.time; init = Some value; owner = l.owner; installer = l.installer; list = l.list; check = l.check; diff = l.diff; keeper = l.keeper; unknown = l.unknown; words = l.words }
noted l Owner at value = record { table = l.table; time = l.time; init = l.init; owner = Some value; installer = l.installer; list = l.list; check = l.check; diff = l.diff; keeper = l.keeper; unknown = l.unknown; words = l.words }
noted l Installer at value = record { table = l.table; time = l.time; init = l.init; owner = l.owner; installer = Some value; list = l.list; check = l.check; diff = l.diff; keeper = l.keeper; unknown = l.unknown; words = l.words }
noted l Listing at value = record { table = l.table; time = l.time; init = l.init; owner = l.owner; installer = l.installer; list = Some at; check = l.check; diff = l.diff; keeper = l.keeper; unknown = l.unknown; words = l.words }
noted l Check at value = record { table = l.table; time = l.time; init = l.init; owner = l.owner; installer = l.installer; list = l.list; check = Some at; diff = l.diff; keeper = l.keeper; unknown = l.unknown; words = l.words }
noted l Diff at value = record { table = l.table; time = l.time; init = l.init; owner = l.owner; installer = l.installer; list = l.list; check = l.check; diff = Some at; keeper = l.keeper; unknown = l.unknown; words = l.words }
noted l Keeper at value = record { table = l.table; time = l.time; init = l.init; owner = l.owner; installer = l.installer; list = l.list; check = l.check; diff = l.diff; keeper = Some at; unknown = l.unknown; words = l.words }
noted l End at value = record { table = l.table; time = l.time; init = l.init; owner = l.owner; installer = l.installer; list = l.list; check = l.check; diff = l.diff; keeper = l.keeper; unknown = l.unknown; words = value }
noted l Unknown at value = record { table = l.table; time = l.time; init = l.init; owner = l.owner; installer = l.installer; list = l.list; check = l.check; diff = l.diff; keeper = l.keeper; unknown = Some at; words = l.words }
noted l Word at value = record { table = l.table; time = l.time; init = l.init; owner = l.owner; installer = l.installer; list = l.list; check = l.check; diff = l.diff; keeper = l.keeper; unknown = l.unknown; words = at }

-- after these the words of a command follow
abbrev pub is_last : Switch → Bool
is_last Table = false
is_last Time = false
is_last Init = false
is_last Owner = false
is_last Installer = false
is_last Listing = false
is_last Check = false
is_last Diff = false
is_last Keeper = false
is_last End = true
is_last Unknown = false
is_last Word = true
