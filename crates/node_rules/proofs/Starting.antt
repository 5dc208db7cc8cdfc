-- Where applications start, or are passed over, each child that starts is a process of its own, which lives.
use Rattle.std.proofs.Common.{◌≡◌, ℕ, List, [], ◌∷◌, inl, inr, sym, subst}
use Rattle.app_table.specs.Applications.{Application}
use Rattle.children_live.proofs.Starting.{app_runs, started_live}
use Rattle.children_live.specs.Children.{ChildrenLive}
use Rattle.erl_semantics.specs.declared.instance.Instance.{Instance}
use Rattle.process_store.specs.Table.{Table}
use Rattle.release_boot.specs.Boot as boot
use Rattle.release_boot.specs.Boot.{EachStarts, StartsOrIsPassedOver}
use Rattle.sys_protocol.specs.Refusals.{module_of}

-- Where all start, each starts or is passed over.
pub all_as_each : (code : List Instance) (names : List (List ℕ)) (apps : List Application) (t : Table) →
    (apps_after : List Application) (after : Table) →
    boot.AllStart code names apps t apps_after after → EachStarts code names apps t apps_after after
all_as_each code [] apps t apps_after after all = all
all_as_each code (name ∷ names) apps t apps_after after (apps_next, next, starts, rest) =
    (apps_next, next, inl starts, all_as_each code names apps_next next apps_after after rest)

moved : (apps other : List Application) (t u : Table) → other ≡ apps → u ≡ t → ChildrenLive apps t → ChildrenLive other u
moved apps other t u same also kept =
    subst (λ (v : Table). ChildrenLive other v) (sym also) (subst (λ (xs : List Application). ChildrenLive xs t) (sym same) kept)

one_starts_live : (code : List Instance) (name : List ℕ) (apps : List Application) (t : Table) →
    (apps_after : List Application) (after : Table) →
    StartsOrIsPassedOver code name apps t apps_after after → ChildrenLive apps t → ChildrenLive apps_after after
one_starts_live code name apps t apps_after after (inl does) kept =
    let have = app_runs code (module_of name apps) t does.children after does.told does.runs in
    let here = started_live name does.children apps t after have kept in
    subst (λ (xs : List Application). ChildrenLive xs after) (sym does.starts) here
one_starts_live code name apps t apps_after after (inr passed) kept = moved apps apps_after t after passed.2 passed.3 kept

pub each_starts_live : (code : List Instance) (names : List (List ℕ)) (apps : List Application) (t : Table) →
    (apps_after : List Application) (after : Table) →
    EachStarts code names apps t apps_after after → ChildrenLive apps t → ChildrenLive apps_after after
each_starts_live code [] apps t apps_after after all kept = moved apps apps_after t after all.0 all.1 kept
each_starts_live code (name ∷ names) apps t apps_after after (apps_next, next, does, rest) kept =
    let here = one_starts_live code name apps t apps_next next does kept in
    each_starts_live code names apps_next next apps_after after rest here
