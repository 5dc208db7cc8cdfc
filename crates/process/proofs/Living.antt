-- The instances of a process that was taken out, found again.
use Rattle.std.proofs.Common.{◌≡◌, List, [], ◌∷◌, map, Option, None, Some, refl, ap, ◌∙◌}
use Rattle.std.specs.Option.{option_map}
use Rattle.erl_ir.specs.Module.{Forms}
use Rattle.erl_semantics.specs.Views.{instance}
use Rattle.erl_semantics.specs.declared.instance.Instance.{Instance}
use Rattle.code_server.specs.Modules.{IsModuleTable, Table}
use Rattle.process.proofs.FoundAgain.{are_found_again, found_again}
use Rattle.process.specs.declared.activity.Activity.{Activity}
use Rattle.process.specs.declared.activity.Activity.TheVariants.{Idle, Suspended, Runs}
use Rattle.process.specs.Process.{ProcessState}
use Rattle.process.specs.Ended.{CodeStands, EndedProcessesLive, EndedState, PlaceStands, code_found, ended, held, lives, lives_by, named, rests_found}

-- instances are what contracts see of them
pub held-all : (code : List Instance) → map held (map instance code) ≡ code
held-all [] = refl
held-all (i ∷ code) = ap (λ is. i ∷ is) (held-all code)

pub place-again : (t : Table Forms) (rests_in : Option Instance) → IsModuleTable t → PlaceStands t rests_in → rests_found t (option_map named rests_in) ≡ Some rests_in
place-again t None sound stands = refl
place-again t (Some i) sound stands = ap (option_map (λ s. Some (held s))) (found_again t (instance i) sound stands)

-- what a process was, by what it does
again : (t : Table Forms) (p : ProcessState) (a : Activity) → IsModuleTable t → PlaceStands t p.rests_in → CodeStands t a → lives t (ended (record p { activity = a })) ≡ Some (record p { activity = a })
again t p Idle sound place code =
    ap (λ o. lives_by o (Some []) (ended (record p { activity = Idle }))) (place-again t p.rests_in sound place)
again t p Suspended sound place code =
    ap (λ o. lives_by o (Some []) (ended (record p { activity = Suspended }))) (place-again t p.rests_in sound place)
again t p (Runs r) sound place code =
    let e : EndedState = ended (record p { activity = Runs r }) in
    let is : code_found t e.did ≡ Some r.code = ap (option_map (map held)) (are_found_again t (map instance r.code) sound code) ∙ ap Some (held-all r.code) in
    ap (λ o. lives_by o (code_found t e.did) e) (place-again t p.rests_in sound place) ∙ ap (λ c. lives_by (Some p.rests_in) c e) is

pub ended_processes_live : EndedProcessesLive
ended_processes_live t p sound place code = again t p p.activity sound place code
