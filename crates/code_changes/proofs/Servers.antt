-- Who is a gen_server process stays one, whatever is evaluated.
use Rattle.std.proofs.Common.{◌≡◌, ◌&&◌, ℕ, List, map, Option, None, Some, option_map, refl, sym, ap, ◌∙◌}
use Rattle.std.proofs.lemmas.List.Elements.{recursion_from_All}
use Rattle.std.proofs.lemmas.Option.{none-some, same_Some}
use Rattle.std.specs.List.{filter}
use Rattle.app_table.specs.Applications.{Application}
use Rattle.app_table.specs.Modules.{runs_with}
use Rattle.code_changes.specs.Changing.{Script, changes_in}
use Rattle.erl_semantics.specs.Acts.{act_of}
use Rattle.erl_semantics.specs.OutcomeLaws.{IsMessage}
use Rattle.erl_semantics.specs.declared.acts.Act.{Act}
use Rattle.erl_semantics.specs.declared.acts.Place.{Place}
use Rattle.erl_semantics.specs.declared.acts.Place.TheVariants.{Server, Loop}
use Rattle.erl_semantics.specs.declared.instance.Instance.{Instance}
use Rattle.erl_term.specs.declared.term.Term.{Term}
use Rattle.low_instructions.specs.declared.modules.ModuleChange.{ModuleChange}
use Rattle.process.specs.Process.{is_server_at, with_state}
use Rattle.process_store.specs.Table.{Table, living}
use Rattle.process_store.specs.declared.living.ProcessEntry.{ProcessEntry}
use Rattle.process_table.specs.States.{all_restated}
use Rattle.process_table.specs.declared.states.StateChange.{StateChange}
use Rattle.suspensions.specs.Suspending.{is_server}
use Rattle.suspensions.specs.Versions.{old_vsn}
use Rattle.upgrade_calls.proofs.NewStates.{restated, restated_by}
use Rattle.upgrade_calls.proofs.Seen.{seen, seen_begun}
use Rattle.upgrade_calls.specs.Evaluated.{AreEvaluated, Evaluated, processes_after}
use Rattle.upgrade_calls.specs.NewStates.{change_of}
use Rattle.upgrade_calls.specs.declared.changing.CodeChangeCall.{CodeChangeCall}

same_by_seen : (l m : Option ProcessEntry) → seen l ≡ seen m → is_server l ≡ is_server m
same_by_seen None None same = refl
same_by_seen None (Some m) same = absurd (none-some (m.process.place, m.process.turn) same)
same_by_seen (Some l) None same = absurd (none-some (l.process.place, l.process.turn) (sym same))
same_by_seen (Some l) (Some m) same =
    let places = same_Some (l.process.place, l.process.turn) (m.process.place, m.process.turn) same in
    ap (λ (x : Place × ℕ). is_server_at x.0) places

server_with : (state : Term) (at : Place) → is_server_at (with_state state at) ≡ is_server_at at
server_with state (Server m s) = refl
server_with state (Loop m serial f args) = refl

server_restated : (o : Option StateChange) (l : Option ProcessEntry) → is_server (option_map (restated_by o) l) ≡ is_server l
server_restated None None = refl
server_restated None (Some l) = refl
server_restated (Some c) None = refl
server_restated (Some c) (Some l) = server_with c.state l.process.place

pub servers_stay : (code : List Instance) (t : Table) (e : Evaluated) → AreEvaluated t e → (p : ℕ) →
    is_server (living p (processes_after code e t)) ≡ is_server (living p t)
servers_stay code t e it p =
    let only = recursion_from_All (λ (a : Act). IsMessage (act_of a)) e.acts it.messages in
    let stated = all_restated e.states t in
    same_by_seen (living p (processes_after code e t)) (living p stated) (seen_begun code p e.acts stated only)
    ∙ ap is_server (restated p e.states t it.rising)
    ∙ server_restated (change_of p e.states) (living p t)

-- So the processes that a module changes are the same.
pub changes_stay : (code : List Instance) (t : Table) (e : Evaluated) (s : Script) (m : ModuleChange) (apps : List Application) → AreEvaluated t e →
    changes_in s m apps t ≡ changes_in s m apps (processes_after code e t)
changes_stay code t e s m apps it = λ i.
    map (λ (p : ℕ). let c : CodeChangeCall = record { pid = p; vsn = old_vsn s.direction m.name s.versions; extra = m.extra } in c)
    (filter (λ (p : ℕ). sym (servers_stay code t e it p) i && runs_with m.name p apps) s.suspended)
