-- The next application, and then none is left.
use Rattle.std.proofs.Common.{◌≡◌, ◌∙◌, ◌++◌, ◌∷◌, [], List, append-nil, ap}
use Rattle.std.proofs.lemmas.List.Concat.{flat_map-append}
use Rattle.std.specs.List.{flat_map}
use Rattle.release_table.specs.declared.table.AppFiles.{AppFiles}
use Rattle.upgrade_review.proofs.Calling.{all_appended, item_appended}
use Rattle.upgrade_review.specs.Interfaces.{interfaces_in}
use Rattle.upgrade_review.specs.declared.interface.Interface.{Interface}
use Rattle.upgrade_review.proofs.interface.interfaces_of.Goals as goal

abbrev all_of : List AppFiles → List Interface
all_of apps = flat_map interfaces_in apps

apps_push : (apps : List AppFiles) (files : AppFiles) → all_of (apps ++ files ∷ []) ≡ all_of apps ++ interfaces_in files
apps_push apps files =
    flat_map-append interfaces_in apps (files ∷ []) ∙ ap (λ xs. all_of apps ++ xs) (append-nil (interfaces_in files))

pub loop-files-preserved : goal.loop-files-preserved
loop-files-preserved c =
    item_appended all_of interfaces_in apps_push c.as_slice-apps.result.now c.loop-files.files-index c.files-item.result []
    c.loop-files.found.items c.push_interfaces.new.found.items c.loop-files-test.true c.files-item.is c.loop-files.invariant
    c.in_ok-push_interfaces.ensures

pub returns : goal.returns
returns c =
    all_appended all_of c.as_slice-apps.result.now c.loop-files.files-index [] c.loop-files.found.items c.loop-files-test.false
    c.loop-files.invariant ∙ ap all_of c.as_slice-apps.ensures
