-- Children of an application's supervisor that run as processes (supervisor(3)).
use Rattle.std.specs.Prelude.{ℕ, List, map, zip}
use Rattle.app_table.specs.Children.{running}
use Rattle.app_table.specs.declared.child.Child.{Child}
use Rattle.child_specs.specs.declared.child.ChildSpec.{ChildSpec}

-- children, each of which runs as the process of the pid at its index
abbrev pub all_running : List ChildSpec → List ℕ → List Child
all_running cs pids = map (λ it. running it.0 it.1) (zip cs pids)
