-- What the indexes tell of the table.
use Rattle.std.proofs.Common.{◌≡◌, ℕ, true, List, Option, None, Some, ap, subst, ◌∙◌, arith}
use Rattle.std.proofs.lemmas.Bool.Decides.{nat_tests}
use Rattle.std.proofs.lemmas.Grind.{common_steps}
use Rattle.std.specs.FinMap.{get}
use Rattle.process_index.specs.Index.{Names}
use Rattle.process_index.specs.Numbers.{Owners}
use Rattle.process_index.specs.declared.numbers.Owner.{Owner}
use Rattle.process_store.specs.declared.living.ProcessEntry.{ProcessEntry}
use Rattle.process_store.specs.Indexed.{IsIndexed, is_owner, is_pid}
use Rattle.process_store.specs.Sound.{IsProcessTable}
use Rattle.process_store.specs.Table.{Table}

-- a name is registered for one pid
pid_once : (there : Option ℕ) (pid other : ℕ) → is_pid pid there ≡ true → is_pid other there ≡ true → pid ≡ other
pid_once None pid other one two = absurd (grind (arith, common_steps, one))
pid_once (Some p) pid other one two = grind (arith, nat_tests, one, two)

-- a number is open to one process, for one client
owner_once : (there : Option Owner) (pid other client second : ℕ) → is_owner pid client there ≡ true → is_owner other second there ≡ true → (pid ≡ other) × (client ≡ second)
owner_once None pid other client second one two = absurd (grind (arith, common_steps, one))
owner_once (Some o) pid other client second one two = (grind (arith, nat_tests, one, two), grind (arith, nat_tests, one, two))

pub is_sound : (names : Names) (open_calls : Owners) (slots : List (Option ProcessEntry)) (t : Table) → IsIndexed names open_calls slots → record { slots = slots } ≡ t → IsProcessTable t
is_sound names open_calls slots t indexed is = subst IsProcessTable is (record {
  owned = indexed.owned;
  named = λ name pid other here there. pid_once (get names name) pid other (indexed.named name pid ∙ here) (indexed.named name other ∙ there);
  asked = λ c d pid other here there same. owner_once (get open_calls c.number) pid other c.client d.client (indexed.asked c.number c.client pid ∙ here)
      (ap (λ n. is_owner other d.client (get open_calls n)) same ∙ indexed.asked d.number d.client other ∙ there);
  ordered = indexed.ordered;
  nobody = indexed.nobody;
})
