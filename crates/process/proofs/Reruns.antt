-- What a job has left behind, with its instances found again.
use Rattle.std.proofs.Common.{◌≡◌, map, Some, ap, ◌∙◌}
use Rattle.std.specs.Option.{option_map}
use Rattle.erl_semantics.specs.Views.{instance}
use Rattle.process.proofs.FoundAgain.{are_found_again}
use Rattle.process.specs.Named.{all_found, named_instance}
use Rattle.process.specs.Ended.{held}
use Rattle.process.specs.Rerun.{JobsRunAgain, ran_named, runs_by}
use Rattle.process.proofs.Living.{held-all, place-again}

pub jobs_run_again : JobsRunAgain
jobs_run_again t ran sound place code =
    let told = map named_instance (map instance ran.running.code) in
    let is : option_map (map held) (all_found told t) ≡ Some ran.running.code = ap (option_map (map held)) (are_found_again t (map instance ran.running.code) sound code) ∙ ap Some (held-all ran.running.code) in
    ap (λ o. runs_by o (option_map (map held) (all_found told t)) (ran_named ran)) (place-again t ran.rests_in sound place) ∙ ap (λ c. runs_by (Some ran.rests_in) c (ran_named ran)) is
