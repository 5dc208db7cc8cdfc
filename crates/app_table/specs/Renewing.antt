-- The children of a supervisor are specified anew (appup(4), {update,Mod,supervisor}; supervisor(3), init/1): which they
-- are then, and what takes it back. Nothing starts or stops.
use Rattle.std.specs.Prelude.{◌≡◌, ◌+◌, ℕ, List, [], ◌∷◌, insert, position, remove, Option, None, Some, option_and_then, slice_get}
use Rattle.values.specs.Edits.{changed_at}
use Rattle.erl_term.specs.declared.term.Term.{Term}
use Rattle.child_specs.specs.declared.child.ChildSpec.{ChildSpec}
use Rattle.app_table.specs.Applications.{Application, has_id}
use Rattle.app_table.specs.declared.child.Child.{Child}
use Rattle.app_table.specs.declared.child.ChildState.TheVariants.{Stopped}
use Rattle.app_table.specs.declared.renewing.ChildEdit.{ChildEdit}
use Rattle.app_table.specs.declared.renewing.ChildEdit.TheVariants.{Added, Kept}

-- The child of an Id, the first, if there are several; and the others.

abbrev pub child_by_id : Term → List Child → Option Child
child_by_id id children = option_and_then (slice_get children) (position (has_id id) children)

abbrev pub without_at : Option ℕ → List Child → List Child
without_at None children = children
without_at (Some index) children = remove children index

abbrev pub without : Term → List Child → List Child
without id children = without_at (position (has_id id) children) children

-- The child of a specification: one that was there has its process, or none, and is due, or isn't, as before; a new one has no
-- process, and isn't due.

abbrev pub with_spec : ChildSpec → Child → Child
with_spec s c = record c { spec = s }

abbrev pub child_for : ChildSpec → Option Child → Child
child_for s None = record { spec = s; state = Stopped }
child_for s (Some c) = with_spec s c

-- The new specifications in their order, each with the child of its Id. The children that are nobody's are as they were,
-- behind the others.
abbrev pub renewed : List ChildSpec → List Child → List Child
renewed [] children = children
renewed (s ∷ specs) children = child_for s (child_by_id s.id children) ∷ renewed specs (without s.id children)

abbrev pub with_renewed : List ChildSpec → Application → Application
with_renewed specs a = record a { children = renewed specs a.children }

abbrev pub children_renewed : ℕ → List ChildSpec → List Application → List Application
children_renewed index specs apps = changed_at (with_renewed specs) apps index

-- What takes it back, from the last specification to the first: a child that is new goes; one that was there stands where
-- it stood, with its former specification, where that is another one.

abbrev pub moved_if : Option Child → Option Child → ℕ → ℕ → List Child → List Child
moved_if None there from to children = children
moved_if (Some c) None from to children = children
moved_if (Some c) (Some there) from to children = insert (remove children from) to c

abbrev pub moved : ℕ → ℕ → List Child → List Child
moved from to children = moved_if (slice_get children from) (slice_get children to) from to children

abbrev pub with_former : Option ChildSpec → Child → Child
with_former None c = c
with_former (Some s) c = with_spec s c

abbrev pub unedited : ℕ → ChildEdit → List Child → List Child
unedited index Added children = remove children index
unedited index (Kept from former) children = moved index from (changed_at (with_former former) children index)

abbrev pub unrenewed : ℕ → List ChildEdit → List Child → List Child
unrenewed index [] children = children
unrenewed index (e ∷ edits) children = unedited index e (unrenewed (index + 1) edits children)

abbrev pub with_unrenewed : List ChildEdit → Application → Application
with_unrenewed edits a = record a { children = unrenewed 0 edits a.children }

-- What is held of each new specification, in order: that its child is new; or where the child of its Id stood, and the former
-- specification of that child, where it is another one.

abbrev pub IsFormer : ChildSpec → Child → Option ChildSpec → Type 0
IsFormer s c None = c.spec ≡ s
IsFormer s c (Some former) = (former ≡ c.spec) × (c.spec ≡ s → ⊥)

abbrev pub IsEdit : ChildSpec → Option Child → ChildEdit → Type 0
IsEdit s None Added = Unit {0}
IsEdit s None (Kept from former) = ⊥
IsEdit s (Some c) Added = ⊥
IsEdit s (Some c) (Kept from former) = IsFormer s c former

abbrev pub AreEdits : List ChildSpec → List Child → List ChildEdit → Type 0
AreEdits [] children [] = Unit {0}
AreEdits [] children (e ∷ edits) = ⊥
AreEdits (s ∷ specs) children [] = ⊥
AreEdits (s ∷ specs) children (e ∷ edits) = IsEdit s (child_by_id s.id children) e × AreEdits specs (without s.id children) edits
