-- What a relup is made of, of a release: its `.rel` with the specifications of its applications, and their appups, in the
-- same order.
use Rattle.std.specs.Prelude.{List, Option, map}
use Rattle.release_table.specs.declared.table.Release.{Release}
use Rattle.relup_make.specs.Work.{Appup}
use Rattle.relup_make.specs.declared.rel_apps.RelApps.{RelApps}

abbrev pub rel_apps : Release → RelApps
rel_apps release = record { rel = release.rel; apps = map (λ app. app.spec) release.apps }

abbrev pub appups_of : Release → List (Option Appup)
appups_of release = map (λ app. app.appup) release.apps
