-- Pieces of applications: specifications of applications and of children, each with whose it is. They tell how much of the
-- applications the record of a step may hold.
use Rattle.std.specs.Prelude.{◌≡◌, ◌==◌, if◌then◌else◌, ℕ, List, [], ◌∷◌, ◌++◌, map, IsPermutation, Option, None, Some, option_to_list, slice_get}
use Rattle.std.specs.List.{flat_map}
use Rattle.child_specs.specs.declared.child.ChildSpec.{ChildSpec}
use Rattle.otp_files.specs.declared.app.AppSpec.{AppSpec}
use Rattle.app_table.specs.Applications.{Application}
use Rattle.app_table.specs.declared.child.Child.{Child}
use Rattle.app_table.specs.declared.renewing.ChildEdit.{ChildEdit}
use Rattle.app_table.specs.declared.renewing.ChildEdit.TheVariants.{Added, Kept}
use Rattle.app_table.specs.declared.specs.FormerSpecs.{FormerSpecs}
use Rattle.app_table.specs.declared.undo.PutBack.{PutBack}
use Rattle.app_table.specs.declared.undo.AppsUndo.{AppsUndo}
use Rattle.app_table.specs.declared.undo.AppsUndo.TheVariants.{Started, Revived, AllEnded, AllRun, AppStopped, Renewed}
use Rattle.app_table.specs.declared.undo.Unloaded.{Unloaded}

-- A piece of an application.
pub data Piece : Type 0 where
  -- its specification
  of_app : AppSpec → Piece
  -- the specification of a child, and the name of its application
  of_child : List ℕ → ChildSpec → Piece

abbrev pub child_pieces : List ℕ → List Child → List Piece
child_pieces name children = map (λ c. of_child name c.spec) children

abbrev pub app_pieces : Application → List Piece
app_pieces a = of_app a.spec ∷ child_pieces a.spec.name a.children

abbrev pub pieces : List Application → List Piece
pieces apps = flat_map app_pieces apps

-- The pieces of children of the application at an index. Where no application stands they count too, as those of one without
-- a name.
abbrev pub child_pieces_at : Option Application → List Child → List Piece
child_pieces_at None children = child_pieces [] children
child_pieces_at (Some a) children = child_pieces a.spec.name children

-- the former specifications of children that were specified anew, where they are other ones

abbrev pub former_pieces : List ℕ → Option ChildSpec → List Piece
former_pieces name None = []
former_pieces name (Some s) = of_child name s ∷ []

abbrev pub edit_pieces : List ℕ → ChildEdit → List Piece
edit_pieces name Added = []
edit_pieces name (Kept from former) = former_pieces name former

abbrev pub renewal_pieces : Option Application → List ChildEdit → List Piece
renewal_pieces None edits = flat_map (edit_pieces []) edits
renewal_pieces (Some a) edits = flat_map (edit_pieces a.spec.name) edits

-- What an undo holds, by the applications after its step: where an application was started, the children that it had
-- before; where its children were specified anew, their former specifications that are other ones; else none.
abbrev pub held : AppsUndo → List Application → List Piece
held (Started app children) apps = child_pieces_at (slice_get apps app) children
held (Revived spot) apps = []
held (AllEnded cs) apps = []
held (AllRun rs) apps = []
held (AppStopped app states) apps = []
held (Renewed app edits) apps = renewal_pieces (slice_get apps app) edits

-- what is held of an application that was unloaded, of specifications that were replaced, and of those that were put back
abbrev pub held_unloaded : Unloaded → List Piece
held_unloaded u = app_pieces u.app

abbrev pub held_former : FormerSpecs → List Piece
held_former f = map (λ r. of_app r.spec) f.replaced

abbrev pub held_back : PutBack → List Piece
held_back p = map (λ r. of_app r.spec) p.replaced ++ pieces p.added

-- Children are specified anew. What is held is by the index of the application, counted from 0.

abbrev pub specs_in : List Child → List ChildSpec
specs_in children = map (λ c. c.spec) children

-- the children of the application at an index; none where no application stands

abbrev pub children_in : Option Application → List Child
children_in None = []
children_in (Some a) = a.children

abbrev pub children_at : ℕ → List Application → List Child
children_at index apps = children_in (slice_get apps index)

-- the former specifications that edits hold, in order

abbrev pub former_in : ChildEdit → List ChildSpec
former_in Added = []
former_in (Kept from former) = option_to_list former

abbrev pub formers : List ChildEdit → List ChildSpec
formers edits = flat_map former_in edits

-- what takes back that the children of the application at an index were specified anew
abbrev pub IsRenewal : ℕ → AppsUndo → Type 0
IsRenewal index u = (edits : List ChildEdit) × (u ≡ Renewed index edits)

-- the former specifications that it holds of the application at an index
abbrev pub formers_at : ℕ → AppsUndo → List ChildSpec
formers_at index (Started app children) = []
formers_at index (Revived spot) = []
formers_at index (AllEnded cs) = []
formers_at index (AllRun rs) = []
formers_at index (AppStopped app states) = []
formers_at index (Renewed app edits) = if app == index then formers edits else []

-- None of some specifications is among others.

abbrev pub IsNotAmong : List ChildSpec → ChildSpec → Type 0
IsNotAmong [] s = Unit {0}
IsNotAmong (other ∷ others) s = (other ≡ s → ⊥) × IsNotAmong others s

abbrev pub AreNotAmong : List ChildSpec → List ChildSpec → Type 0
AreNotAmong others [] = Unit {0}
AreNotAmong others (s ∷ specs) = IsNotAmong others s × AreNotAmong others specs

-- Specifications of children are lost: those before are these and others that stay, those after are new ones and the ones that
-- stay, and none of the new ones is one of these. So each stands there before as many times more than after as it is held.
pub record AreSpecsLost (held : List ChildSpec) (before after : List Child) : Type 0 where
  pub stay : List ChildSpec
  pub new : List ChildSpec
  pub were : IsPermutation (held ++ stay) (specs_in before)
  pub are : IsPermutation (new ++ stay) (specs_in after)
  pub lost : AreNotAmong new held
