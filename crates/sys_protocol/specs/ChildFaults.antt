-- Why children fail to start.
use Rattle.std.specs.Prelude.{◌≡◌, List}
use Rattle.erl_semantics.specs.declared.instance.Instance.{Instance}
use Rattle.child_specs.specs.declared.child.ChildSpec.{ChildSpec}
use Rattle.process_store.specs.Table.{Table}
use Rattle.sys_protocol.specs.ChildStarts.{Fails, FirstFails}
use Rattle.sys_protocol.specs.declared.start_failed.StartFailed.{StartFailed}

-- one child
abbrev pub ChildFails : StartFailed → List Instance → ChildSpec → Table → Type 0
ChildFails failed code c t = (failed.child ≡ c.id) × Fails code c t failed.reason

-- the first that fails of several
abbrev pub StartFails : StartFailed → List Instance → List ChildSpec → Table → Type 0
StartFails failed code cs t = (c : ChildSpec) × (failed.child ≡ c.id) × FirstFails code cs t c failed.reason
