-- A message leaves names alone.
use Rattle.std.proofs.Common.{◌≡◌, ℕ, List, Option, None, Some, is_some, refl, ap}
use Rattle.erl_term.specs.declared.term.Term.{Term}
use Rattle.process_effects.proofs.Commuting.{names_kept}
use Rattle.process_effects.specs.Acts.{sent}
use Rattle.process_store.specs.Living.{arrived}
use Rattle.process_store.specs.Table.{Table, is_taken}

pub sent_free : (name : Option (List ℕ)) (message : Term) (r : Option ℕ) (t : Table) → is_taken name (sent message r t) ≡ is_taken name t
sent_free None message r t = refl
sent_free (Some name) message None t = refl
sent_free (Some name) message (Some pid) t = ap is_some (names_kept (arrived message None) (λ l. refl) name t pid)
