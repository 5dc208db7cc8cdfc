-- The open call of a number has that number.
use Rattle.std.proofs.Common.{◌≡◌, ℕ, true, false, cond, nat_eq, List, [], ◌∷◌, position, Option, None, Some, option_map, refl, sym, ap, ◌∙◌, arith}
use Rattle.std.proofs.lemmas.Bool.Decides.{nat_tests}
use Rattle.std.proofs.lemmas.Grind.{common_steps}
use Rattle.process_index.specs.declared.calls.Call.{Call}
use Rattle.process_store.specs.Changes.{call_at, numbered, owner_at, owner_of}
use Rattle.process_store.specs.declared.living.ProcessEntry.{ProcessEntry}
use Rattle.process_store.specs.Table.{Table, is_asked, living_at}

numbered_is : (number : ℕ) (cs : List Call) (c : Call) → numbered number cs ≡ Some c → c.number ≡ number
numbered_is number [] c is = absurd (grind (arith, common_steps, is))
numbered_is number (d ∷ ds) c is =
    elim (nat_eq d.number number) as (λ b. nat_eq d.number number ≡ b → cond b (Some d) (numbered number ds) ≡ Some c → c.number ≡ number) [
      | true ↦ λ e first. let same : d ≡ c = grind (arith, common_steps, first) in sym (ap (λ (x : Call). x.number) same) ∙ grind (arith, nat_tests, e)
      | false ↦ λ e later. numbered_is number ds c later
    ] refl is

in_process : (number : ℕ) (o : Option ProcessEntry) (c : Call) → call_at number o ≡ Some c → c.number ≡ number
in_process number None c is = absurd (grind (arith, common_steps, is))
in_process number (Some l) c is = numbered_is number l.calls c is

of_call : (number pid : ℕ) (o : Option Call) (it : ℕ × Call) → ((c : Call) → o ≡ Some c → c.number ≡ number) → option_map (λ (c : Call). (pid, c)) o ≡ Some it → it.1.number ≡ number
of_call number pid None it has is = absurd (grind (arith, common_steps, is))
of_call number pid (Some c) it has is =
    let same : (pid, c) ≡ it = grind (arith, common_steps, is) in
    sym (ap (λ (x : ℕ × Call). x.1.number) same) ∙ has c refl

of_pid : (number : ℕ) (p : Option ℕ) (t : Table) (it : ℕ × Call) → owner_at number p t ≡ Some it → it.1.number ≡ number
of_pid number None t it is = absurd (grind (arith, common_steps, is))
of_pid number (Some pid) t it is =
    of_call number pid (call_at number (living_at t.slots pid)) it (in_process number (living_at t.slots pid)) is

pub owner_number : (number : ℕ) (t : Table) (it : ℕ × Call) → owner_of number t ≡ Some it → it.1.number ≡ number
owner_number number t it is = of_pid number (position (is_asked number) t.slots) t it is
