-- The name is asked for by its text.
use Rattle.std.proofs.Common.{◌≡◌, IfOk, Option, ap, option_map, subst, sym, ◌∙◌}
use Rattle.erl_term.specs.declared.term.Term.{Term}
use Rattle.process_store.specs.Table.{pid_of}
use Rattle.sys_protocol.specs.StartResults.{name_fault, taken_by}
use Rattle.sys_protocol.proofs.results.name_fault.Goals as goal

pub returns-in-Some : goal.returns-in-Some
returns-in-Some c =
    let t = c.args.processes.now in
    let there = ap (taken_by c.in-Some.by_register) (c.pid_of.ensures ∙ ap (λ name. pid_of name t) c.as_str.ensures.chars) in
    let asked = ap (λ o. name_fault (option_map (λ it. (it.0.now, it.1)) o) t) (sym c.in-Some.is) in
    subst (λ (o : Option Term). IfOk c.taken_by.result (λ it. it ≡ o)) (there ∙ asked) c.taken_by.ensures
