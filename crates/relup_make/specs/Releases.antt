-- What a release says of an application (rel(4), app(4)). Of two applications with one name the first counts.
use Rattle.std.specs.Prelude.{ℕ, Bool, List, [], Option, find, is_some, option_map}
use Rattle.std.specs.List.{list_any}
use Rattle.std.specs.Option.{option_map_or}
use Rattle.std.specs.Str.{bytes_eq}
use Rattle.release_words.specs.declared.start_type.StartType.{StartType}
use Rattle.release_words.specs.declared.start_type.StartType.TheVariants.{Permanent}
use Rattle.high_instructions.specs.Forms.{Name, Names}
use Rattle.otp_files.specs.declared.app.AppSpec.{AppSpec}
use Rattle.otp_files.specs.Distinct.{app_named}
use Rattle.relup_make.specs.declared.rel_apps.RelApps.{RelApps}

abbrev pub spec_named : Name → List AppSpec → Option AppSpec
spec_named name specs = find (λ spec. bytes_eq spec.name name) specs

-- whether the application is one of the release's
abbrev pub has_app : Name → RelApps → Bool
has_app name release = is_some (spec_named name release.apps)

-- its version there; none, which is no version, where it is not
abbrev pub version_in : Name → RelApps → List ℕ
version_in name release = option_map_or (λ spec. spec.vsn) (spec_named name release.apps) []

-- its modules there
abbrev pub modules_in : Name → RelApps → Names
modules_in name release = option_map_or (λ spec. spec.modules) (spec_named name release.apps) []

-- whether a module is one of them
abbrev pub has_module : Name → Name → RelApps → Bool
has_module m name release = list_any (λ other. bytes_eq other m) (modules_in name release)

-- how the release starts it: by the release's own file, where the default is `permanent`
abbrev pub start_type_in : Name → RelApps → StartType
start_type_in name release = option_map_or (λ app. app.start_type) (app_named name release.rel.apps) Permanent

-- the version of an application by the release's own file, if it stands there: of kernel, stdlib and sasl there is no other
abbrev pub listed_version : Name → RelApps → Option (List ℕ)
listed_version name release = option_map (λ app. app.vsn) (app_named name release.rel.apps)
