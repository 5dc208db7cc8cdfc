-- What ties the form of a supervision and its reading.
use Rattle.std.specs.Prelude.{◌≡◌, List, Some}
use Rattle.erl_term.specs.Tree.{Tree}
use Rattle.child_specs.specs.declared.child.ChildSpec.{ChildSpec}
use Rattle.child_specs.specs.Forms.{IsSupervision}
use Rattle.child_specs.specs.Reading.{children_of}

pub record SupervisionTable : Type 0 where
  -- what is read is a supervision of those children
  pub sound : (t : Tree) (cs : List ChildSpec) → children_of t ≡ Some cs → IsSupervision t cs
  -- and each supervision is read as its children
  pub complete : (t : Tree) (cs : List ChildSpec) → IsSupervision t cs → children_of t ≡ Some cs
