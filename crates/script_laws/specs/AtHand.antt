-- What a load takes is what was read (appup(4), load_object_code, load), where modules of the release differ in name, as
-- they do in a release that was read.
use Rattle.std.specs.Prelude.{◌≡◌, ℕ, true, false, All, List, [], ◌∷◌}
use Rattle.std.specs.Str.{bytes_eq}
use Rattle.erl_ir.specs.Module.{Forms}
use Rattle.release_table.specs.declared.table.Release.{Release}
use Rattle.script_state.specs.ObjectCode.{code_at_hand, files_of, is_noted, is_there, source_of, sources}
use Rattle.script_state.specs.declared.noted.NotedVersion.{NotedVersion}

-- no two of these sources are of one name
abbrev pub DifferInName : List Forms → Type 0
DifferInName [] = Unit {0}
DifferInName (s ∷ ss) = All (λ other. bytes_eq s.name other.name ≡ false) ss × DifferInName ss

-- The source of a module that an application of a name and a version has is the one that is at hand, where it is noted.
pub record LoadsTakeWhatWasRead : Type 0 where
  pub takes : (app vsn m : List ℕ) (versions : List NotedVersion) (r : Release) → DifferInName (sources r) →
      is_there m (files_of app vsn r) ≡ true → is_noted m versions ≡ true →
      code_at_hand m versions r ≡ source_of m (files_of app vsn r)
