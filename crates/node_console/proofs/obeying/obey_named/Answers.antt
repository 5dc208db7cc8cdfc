-- A name that no mark has is dead; else its mark is what is meant.
use Rattle.std.proofs.Common.{ℕ, List, IfOk, Option, ap, refl, subst, ◌∙◌}
use Rattle.console_answers.specs.Journal.{mark_named}
use Rattle.console_answers.specs.declared.journal.NamedMark.{NamedMark}
use Rattle.line_server.specs.Session.{IsExchange}
use Rattle.node_console.proofs.Answering.{IfOk-then}
use Rattle.node_console.specs.Console.{ObeysNamed}
use Rattle.node_console.specs.Held.{console_of}
use Rattle.std.specs.Str.{chars}
use Rattle.node_console.proofs.obeying.obey_named.Goals as goal

pub returns-in-Some : goal.returns-in-Some
returns-in-Some c =
    let found = c.in-Some.ensures ∙ (λ i. mark_named (chars (c.as_str.ensures i)) (c.as_slice.ensures.value i)) in
    subst (λ (o : Option ℕ). IfOk c.obey_mark.result (λ fate. IsExchange (ObeysNamed (console_of c.args.held.now c.args.books.now) c.args.line.now c.args.kind o fate) (console_of c.obey_mark.new.held c.obey_mark.new.books) c.args.out.now.items c.obey_mark.new.out.items)) found c.obey_mark.ensures

pub returns-in-None : goal.returns-in-None
returns-in-None c =
    let found = c.in-None.ensures ∙ (λ i. mark_named (chars (c.as_str.ensures i)) (c.as_slice.ensures.value i)) in
    subst (λ (o : Option ℕ). IfOk c.say.result (λ fate. IsExchange (ObeysNamed (console_of c.args.held.now c.args.books.now) c.args.line.now c.args.kind o fate) (console_of c.args.held.now c.args.books.now) c.args.out.now.items c.say.new.out.items)) found
    (IfOk-then c.say.result _ _ c.say.ensures (λ fate told. (_, (told.0, refl), refl, told.1)))
