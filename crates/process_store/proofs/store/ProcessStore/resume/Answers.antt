-- The process keeps its name, its pid and its calls.
use Rattle.std.proofs.Common.{refl, sym, subst}
use Rattle.process_store.specs.Changes.{resume_living}
use Rattle.process_store.specs.Indexed.{IsIndexed}
use Rattle.process_store.proofs.Indexes.{IsIndexed-kept}
use Rattle.process_store.proofs.Suspending.{resume_back}
use Rattle.process_store.proofs.store.ProcessStore.resume.Goals as goal

pub invariant_of-self : goal.invariant_of-self
invariant_of-self c =
    let i = c.self.inside in
    subst (IsIndexed i.names i.open_calls) (sym c.resume_at.ensures) (IsIndexed-kept resume_living (λ l. refl) (λ l. refl) (λ l. refl) i.names i.open_calls i.slots c.args.pid c.self.invariant)

pub returns-clause-back : goal.returns-clause-back
returns-clause-back c = resume_back c.self.inside.slots c.resume_at.new.slots c.args.self.now c.args.pid c.was_suspended-was.result c.self.view_is c.was_suspended-was.ensures c.resume_at.ensures
