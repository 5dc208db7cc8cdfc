-- Children that run: none where no pid is left, or no child.
use Rattle.std.proofs.Common.{◌≡◌, ◌++◌, ◌∷◌, ◌∙◌, [], ℕ, List, append-nil, arith, length, refl, sym, subst}
use Rattle.sys_protocol.specs.RunningChildren.{all_running}
use Rattle.app_table.specs.declared.child.Child.{Child}
use Rattle.child_specs.specs.declared.child.ChildSpec.{ChildSpec}

pub no_pid : (cs : List ChildSpec) (ps : List ℕ) → length ps ≡ 0 → all_running cs ps ≡ []
no_pid [] ps none = refl
no_pid (c ∷ cs) [] none = refl
no_pid (c ∷ cs) (p ∷ ps) none = absurd (omega arith)

pub no_child : (cs : List ChildSpec) (ps : List ℕ) → length cs ≡ 0 → all_running cs ps ≡ []
no_child [] ps none = refl
no_child (c ∷ cs) ps none = absurd (omega arith)

pub all_there : (children : List Child) (cs : List ChildSpec) (ps : List ℕ) (all : List Child) → children ++ all_running cs ps ≡ all → all_running cs ps ≡ [] → children ≡ all
all_there children cs ps all is none = sym (append-nil children) ∙ subst (λ rest. children ++ rest ≡ all) none is
