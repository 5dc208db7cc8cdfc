-- The specifications of the applications of a release (rel(4), app(4)).
use Rattle.std.specs.Prelude.{Bool, List, [], find, map, Option, None, Some}
use Rattle.std.specs.Str.{bytes_eq}
use Rattle.otp_files.specs.declared.app.AppSpec.{AppSpec}
use Rattle.otp_files.specs.declared.applications.RelApp.{RelApp}
use Rattle.release_table.specs.declared.table.AppFiles.{AppFiles}
use Rattle.release_table.specs.declared.table.Release.{Release}

-- The specification of an application: its file's; one that has no files has the defaults.

abbrev pub is_of : RelApp → AppFiles → Bool
is_of app f = bytes_eq f.spec.name app.name

abbrev pub default_spec : RelApp → AppSpec
default_spec app = record { name = app.name; vsn = app.vsn; modules = []; applications = []; start = None }

abbrev pub spec_from : RelApp → Option AppFiles → AppSpec
spec_from app None = default_spec app
spec_from app (Some f) = f.spec

abbrev pub spec_of : List AppFiles → RelApp → AppSpec
spec_of files app = spec_from app (find (is_of app) files)

-- those of all its applications, in the order of the `.rel`
abbrev pub specs_of : Release → List AppSpec
specs_of r = map (spec_of r.apps) r.rel.apps
