-- The releases of a node and their statuses (release_handler(3)).
use Rattle.std.specs.Prelude.{ℕ, Bool, true, false, if◌then◌else◌, IsTrue, List, [], ◌∷◌, ◌++◌, map, remove, reverse}
use Rattle.std.specs.Prelude.{position, Option, None, Some, is_some, option_and_then, slice_get}
use Rattle.std.specs.List.{list_any}
use Rattle.std.specs.Option.{option_map}
use Rattle.std.specs.Str.{bytes_eq}
use Rattle.values.specs.Edits.{changed_at}
use Rattle.release_table.specs.declared.table.Release.{Release}
use Rattle.release_statuses.specs.declared.status.Status.{Status}
use Rattle.release_statuses.specs.declared.status.Status.TheVariants.{Unpacked, Current, Permanent, Old}
use Rattle.release_statuses.specs.declared.listed.Listed.{Listed}
use Rattle.release_statuses.specs.declared.error.RelError.{RelError}
use Rattle.release_statuses.specs.declared.error.RelError.TheVariants as refused

-- the version of a release that is listed: its characters
abbrev pub vsn_of : Listed → List ℕ
vsn_of it = it.release.rel.vsn

-- whether two statuses are one
abbrev pub is_status : Status → Status → Bool
is_status Unpacked Unpacked = true
is_status Unpacked Current = false
is_status Unpacked Permanent = false
is_status Unpacked Old = false
is_status Current Unpacked = false
is_status Current Current = true
is_status Current Permanent = false
is_status Current Old = false
is_status Permanent Unpacked = false
is_status Permanent Current = false
is_status Permanent Permanent = true
is_status Permanent Old = false
is_status Old Unpacked = false
is_status Old Current = false
is_status Old Permanent = false
is_status Old Old = true

abbrev pub has_status : Status → Listed → Bool
has_status status it = is_status status it.status

-- The releases stand in the order in which they were set unpacked; the one that booted stands first, as long as it is there. At
-- least one is permanent.
abbrev pub HasPermanent : List Listed → Type 0
HasPermanent releases = IsTrue (list_any (has_status Permanent) releases)

-- where the release of a version stands
abbrev pub index_of : List ℕ → List Listed → Option ℕ
index_of vsn releases = position (λ it. bytes_eq vsn (vsn_of it)) releases

-- the release of a version, with its status
abbrev pub listed : List ℕ → List Listed → Option Listed
listed vsn releases = option_and_then (slice_get releases) (index_of vsn releases)

abbrev pub status_of : List ℕ → List Listed → Option Status
status_of vsn releases = option_map (λ it. it.status) (listed vsn releases)

-- `which_releases`: the latest that was set unpacked first, the one that booted last.
abbrev pub which_releases : List Listed → List Listed
which_releases releases = reverse releases

-- The release that runs: the first that is current, else the first that is permanent.
abbrev pub index_with : Status → List Listed → Option ℕ
index_with status releases = position (has_status status) releases

abbrev pub first_with : Status → List Listed → Option Listed
first_with status releases = option_and_then (slice_get releases) (index_with status releases)

abbrev pub or_else : {A : Type 0} → Option A → Option A → Option A
or_else None other = other
or_else (Some one) other = Some one

abbrev pub running : List Listed → Option Listed
running releases = or_else (first_with Current releases) (first_with Permanent releases)

-- Booted: the one release is permanent.
abbrev pub booted : Release → List Listed
booted release = record { release = release; status = Permanent } ∷ []

-- Set unpacked: a release whose version is not there goes last, unpacked.

abbrev pub unpack_refusal : List ℕ → List Listed → Option RelError
unpack_refusal vsn releases = if is_some (index_of vsn releases) then Some refused.Exists else None

abbrev pub unpacked : Release → List Listed → List Listed
unpacked release releases = releases ++ record { release = release; status = Unpacked } ∷ []

-- Remove: any release but the permanent one leaves the list.

abbrev pub unless_permanent : Option Status → Option RelError
unless_permanent None = Some refused.NoSuchRelease
unless_permanent (Some Permanent) = Some refused.Permanent
unless_permanent (Some Unpacked) = None
unless_permanent (Some Current) = None
unless_permanent (Some Old) = None

abbrev pub remove_refusal : List ℕ → List Listed → Option RelError
remove_refusal vsn releases = unless_permanent (status_of vsn releases)

abbrev pub removed_at : Option ℕ → List Listed → List Listed
removed_at None releases = releases
removed_at (Some index) releases = remove releases index

abbrev pub removed : List ℕ → List Listed → List Listed
removed vsn releases = removed_at (index_of vsn releases) releases

-- Changes of statuses.

abbrev pub with_status : Status → Listed → Listed
with_status status it = record { release = it.release; status = status }

-- each release of the one status gets the other
abbrev pub status_changed : Status → Status → List Listed → List Listed
status_changed from to releases = map (λ it. if has_status from it then with_status to it else it) releases

abbrev pub set_at : Status → Option ℕ → List Listed → List Listed
set_at status None releases = releases
set_at status (Some index) releases = changed_at (with_status status) releases index

-- the release of a version gets a status
abbrev pub set_status : List ℕ → Status → List Listed → List Listed
set_status vsn status releases = set_at status (index_of vsn releases) releases

-- Installed: an install of it is finished. What was current is old, and the release is current; a permanent one stays permanent.

abbrev pub is_permanent : Option Status → Bool
is_permanent None = false
is_permanent (Some status) = is_status Permanent status

abbrev pub installed : List ℕ → List Listed → List Listed
installed vsn releases = if is_permanent (status_of vsn releases) then status_changed Current Old releases
    else set_status vsn Current (status_changed Current Old releases)

-- An install of it is refused where there is no such release, and where it runs already.

abbrev pub is_running : List ℕ → Option Listed → Bool
is_running vsn None = false
is_running vsn (Some it) = bytes_eq vsn (vsn_of it)

abbrev pub install_refusal : List ℕ → List Listed → Option RelError
install_refusal vsn releases = if is_some (index_of vsn releases)
    then (if is_running vsn (running releases) then Some refused.AlreadyInstalled else None) else Some refused.NoSuchRelease

-- Made permanent: a current release is, and what was permanent is old; of a permanent one nothing changes.

abbrev pub unless_installed : Option Status → Option RelError
unless_installed None = Some refused.NoSuchRelease
unless_installed (Some Unpacked) = Some (refused.BadStatus Unpacked)
unless_installed (Some Old) = Some (refused.BadStatus Old)
unless_installed (Some Current) = None
unless_installed (Some Permanent) = None

abbrev pub permanent_refusal : List ℕ → List Listed → Option RelError
permanent_refusal vsn releases = unless_installed (status_of vsn releases)

abbrev pub made_permanent : List ℕ → List Listed → List Listed
made_permanent vsn releases = if is_permanent (status_of vsn releases) then releases
    else set_status vsn Permanent (status_changed Permanent Old releases)

-- Rebooted old: the node restarts with an old release. It is permanent, and what was permanent or current is old.

abbrev pub unless_old : Option Status → Option RelError
unless_old None = Some refused.NoSuchRelease
unless_old (Some Unpacked) = Some (refused.BadStatus Unpacked)
unless_old (Some Current) = Some (refused.BadStatus Current)
unless_old (Some Permanent) = Some (refused.BadStatus Permanent)
unless_old (Some Old) = None

abbrev pub reboot_refusal : List ℕ → List Listed → Option RelError
reboot_refusal vsn releases = unless_old (status_of vsn releases)

-- at a restart what was current is old
abbrev pub restarted : List Listed → List Listed
restarted releases = status_changed Current Old releases

abbrev pub rebooted : List ℕ → List Listed → List Listed
rebooted vsn releases = set_status vsn Permanent (status_changed Permanent Old (restarted releases))
