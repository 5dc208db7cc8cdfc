-- A load that finds no memory finds no old code, so nobody was killed; else the old code is taken, and those who lingered in it.
use Rattle.std.proofs.Common.{◌∙◌, ℕ, List, subst, sym}
use Rattle.values.specs.Failure.{TellsFailure}
use Rattle.code_loading.proofs.CodePieces.{load_taken, takes_back}
use Rattle.code_loading.proofs.Users.{all_spared, memory_alone}
use Rattle.code_server.specs.Modules.{load_refusal, purged}
use Rattle.code_loading.proofs.loading.load.Goals as goal

pub returns-clause-err : goal.returns-clause-err
returns-clause-err c =
    let name = c.in-Ok.name in
    let modules = c.args.modules.now in
    let alone = memory_alone c.in-Err.failure (load_refusal name (purged name modules)) c.in-Err.ensures.refused (sym (c.in_default.ensures name)) in
    (c.in-Err.ensures.err, c.in-Ok-kill_lingering.ensures.spared ∙ all_spared name modules c.args.processes.now (c.in-Err.ensures.memory alone))

pub returns-clause-refused : goal.returns-clause-refused
returns-clause-refused c =
    subst (λ (name : List ℕ). TellsFailure c.in-Err.failure (load_refusal name (purged name c.args.modules.now))) (c.in-Ok.ensures ∙ c.name.ensures) c.in-Err.ensures.refused

pub returns-in-Ok-purge_and_load-clause-inverse : goal.returns-in-Ok-purge_and_load-clause-inverse
returns-in-Ok-purge_and_load-clause-inverse c =
    let name = c.in-Ok.name in
    let m = c.args.modules.now in
    let after = c.purge_and_load.new.self in
    let u = c.in-Ok-purge_and_load.modules in
    let it = c.in-Ok-purge_and_load.ensures in
    let kill = c.in-Ok-kill_lingering.ensures in
    let lost = load_taken name c.args.code c.args.post u m after it.inverse it.loaded it.pieces in
    takes_back name u c.in-Ok-kill_lingering.killed m after c.args.processes.now c.kill_lingering.new.processes it.inverse kill.inverse it.old_code lost kill.pieces
