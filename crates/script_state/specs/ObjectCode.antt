-- Object code that a script reads (appup(4), load_object_code), and then loads (load). Sources stand for object code here.
use Rattle.std.specs.Prelude.{ℕ, ◌-◌, Bool, not, ◌&&◌, if◌then◌else◌, List, [], ◌∷◌, ◌++◌, length, take, Option, None, is_some, option_and_then}
use Rattle.std.specs.List.{find, flat_map, list_any}
use Rattle.std.specs.Str.{bytes_eq}
use Rattle.code_server.specs.Modules.{Table as Loaded, current_of}
use Rattle.erl_ir.specs.Module.{Forms}
use Rattle.erl_term.specs.declared.term.Term.{Term}
use Rattle.release_table.specs.declared.table.AppFiles.{AppFiles}
use Rattle.release_table.specs.declared.table.Release.{Release}
use Rattle.script_state.specs.declared.noted.NotedVersion.{NotedVersion}

-- The files of an application of a name and a version, in a release.

abbrev pub is_files_of : List ℕ → List ℕ → AppFiles → Bool
is_files_of app vsn files = bytes_eq files.spec.name app && bytes_eq files.spec.vsn vsn

abbrev pub files_of : List ℕ → List ℕ → Release → Option AppFiles
files_of app vsn r = find (is_files_of app vsn) r.apps

-- The source of a module: among some, and among the files of an application.

abbrev pub source_in : List ℕ → List Forms → Option Forms
source_in m sources = find (λ source. bytes_eq source.name m) sources

abbrev pub source_of : List ℕ → Option AppFiles → Option Forms
source_of m files = option_and_then (λ f. source_in m f.modules) files

abbrev pub is_there : List ℕ → Option AppFiles → Bool
is_there m files = is_some (source_of m files)

-- The first of some modules that the application of a name and a version has no source of.
abbrev pub missing_object_code : List ℕ → List ℕ → List (List ℕ) → Release → Option (List ℕ)
missing_object_code app vsn modules r = find (λ m. not (is_there m (files_of app vsn r))) modules

-- What is noted of a module when its object code is read: the `-vsn` of its current code, and that of its source. A second
-- reading would note the same: before the point of no return nothing changes current code or the release.

abbrev pub is_noted : List ℕ → List NotedVersion → Bool
is_noted m versions = list_any (λ v. bytes_eq v.name m) versions

abbrev pub vsn_of_current : List ℕ → Loaded Forms → Option Term
vsn_of_current m modules = option_and_then (λ i. i.code.vsn) (current_of m modules)

abbrev pub vsn_of_source : List ℕ → Option AppFiles → Option Term
vsn_of_source m files = option_and_then (λ source. source.vsn) (source_of m files)

abbrev pub version_noted : Loaded Forms → Option AppFiles → List ℕ → NotedVersion
version_noted modules files m = record { name = m; current = vsn_of_current m modules; object = vsn_of_source m files }

abbrev pub with_noted : Loaded Forms → Option AppFiles → List ℕ → List NotedVersion → List NotedVersion
with_noted modules files m versions = if is_noted m versions then versions else versions ++ version_noted modules files m ∷ []

-- of several, in order
abbrev pub all_noted : Loaded Forms → Option AppFiles → List (List ℕ) → List NotedVersion → List NotedVersion
all_noted modules files [] versions = versions
all_noted modules files (m ∷ ms) versions = all_noted modules files ms (with_noted modules files m versions)

-- without the last `count` of them
abbrev pub but_last_noted : ℕ → List NotedVersion → List NotedVersion
but_last_noted count versions = take (length versions - count) versions

-- The object code that is at hand of a module: its source in the release that is being installed, where it is noted.

abbrev pub sources : Release → List Forms
sources r = flat_map (λ f. f.modules) r.apps

abbrev pub code_at_hand : List ℕ → List NotedVersion → Release → Option Forms
code_at_hand m versions r = if is_noted m versions then source_in m (sources r) else None
