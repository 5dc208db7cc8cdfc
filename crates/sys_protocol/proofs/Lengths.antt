-- As many pids as children that start, and as many of these as spots.
use Rattle.std.proofs.Common.{◌≡◌, ◌∙◌, ℕ, suc, All, List, [], ◌∷◌, length, Option, None, Some, option_map, refl, ap}
use Rattle.std.proofs.lemmas.List.Elements.{All-head, All-tail}
use Rattle.std.proofs.lemmas.Option.{none-some}
use Rattle.std.specs.List.{cons_option}
use Rattle.app_table.specs.Applications.{Application, child_at}
use Rattle.app_table.specs.Changes.{IsIdleAt}
use Rattle.app_table.specs.declared.child.Child.{Child}
use Rattle.app_table.specs.declared.spot.Spot.{Spot}
use Rattle.child_specs.specs.declared.child.ChildSpec.{ChildSpec}
use Rattle.erl_semantics.specs.declared.instance.Instance.{Instance}
use Rattle.process_effects.specs.declared.told.Reply.{Reply}
use Rattle.process_store.specs.Table.{Table}
use Rattle.sys_protocol.specs.ChildStarts.{AllStart, after_start}
use Rattle.sys_protocol.specs.Stopping.{specs_at}

pub all_start_length : (code : List Instance) (cs : List ChildSpec) (t : Table) (pids : List ℕ) (after : Table) (told : List Reply) → AllStart code cs t pids after told → length pids ≡ length cs
all_start_length code [] t [] after told start = refl
all_start_length code [] t (p ∷ pids) after told start = absurd start
all_start_length code (c ∷ cs) t [] after told start = absurd start
all_start_length code (c ∷ cs) t (p ∷ pids) after told (is, (o, others, starts, rest, tells)) =
    ap suc (all_start_length code cs (after_start code o t) pids after others rest)

-- As many specifications as spots, where at each stands a child.

one_spec : (o : Option Child) (rest : List ChildSpec) → (child : Child) → o ≡ Some child → length (cons_option (option_map (λ c. c.spec) o) rest) ≡ suc (length rest)
one_spec None rest child there = absurd (none-some child there)
one_spec (Some c) rest child there = refl

pub specs_at_length : (spots : List Spot) (apps : List Application) → All (λ spot. IsIdleAt spot apps) spots → length (specs_at spots apps) ≡ length spots
specs_at_length [] apps all = refl
specs_at_length (spot ∷ spots) apps all =
    let (child, there, none) = All-head (λ s. IsIdleAt s apps) spot spots all in
    one_spec (child_at spot apps) (specs_at spots apps) child there ∙ ap suc (specs_at_length spots apps (All-tail (λ s. IsIdleAt s apps) spot spots all))
