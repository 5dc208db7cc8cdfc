-- Children run again that have ended, or none has.
use Rattle.std.proofs.Common.{◌≡◌, List, Option, None, Some, IfSome, refl, ◌∙◌}
use Rattle.app_table.specs.Applications.{Application}
use Rattle.app_table.specs.Undo.{undone}
use Rattle.app_table.specs.declared.undo.AppsUndo.{AppsUndo}
use Rattle.code_replacement.specs.Undo.{ChildrenBack}

pub children_again : (o : Option AppsUndo) (before now after : List Application) → ChildrenBack o before now → IfSome o (λ it. after ≡ undone it now) → (o ≡ None → after ≡ now) → after ≡ before
children_again None before now after back some none = none refl ∙ back
children_again (Some undo) before now after back some none = some ∙ back
