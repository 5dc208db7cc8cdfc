-- The release that is being installed is known.
use Rattle.std.proofs.Common.{◌≡◌, ◌∙◌, ℕ, Option, None, Some, IsSome, option_map, option_and_then, slice_get, refl, ap}
use Rattle.release_statuses.proofs.Standing.{Stands-index}
use Rattle.release_statuses.specs.Statuses.{index_of}
use Rattle.release_table.specs.declared.table.Release.{Release}
use Rattle.script_state.specs.Runner.{RunnerState}
use Rattle.node_parts.specs.Node.{NodeState}
use Rattle.node_parts.specs.Scripts.{target_in}

known_at : (s : RunnerState) (n : NodeState) (o : Option ℕ) → index_of s.target n.releases ≡ o → IsSome o → (r : Release) × (target_in s n ≡ Some r)
known_at s n None at some = let never : ⊥ = cc in absurd never
known_at s n (Some index) at some =
    let stands = Stands-index s.target n.releases index at in
    (stands.it.release, ap (λ o. option_map (λ it. it.release) (option_and_then (slice_get n.releases) o)) at ∙ ap (option_map (λ it. it.release)) stands.there)

pub known_target : (s : RunnerState) (n : NodeState) → IsSome (index_of s.target n.releases) → (r : Release) × (target_in s n ≡ Some r)
known_target s n known = known_at s n (index_of s.target n.releases) refl known
