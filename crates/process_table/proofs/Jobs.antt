-- A process takes a message: the table then, and the job that it runs.
use Rattle.std.proofs.Common.{◌≡◌, ℕ, List, Option, Some, option_map, slice_get, sym, ap, ◌∙◌}
use Rattle.erl_semantics.specs.declared.jobs.Job.{Job}
use Rattle.erl_semantics.specs.declared.instance.Instance.{Instance}
use Rattle.process.specs.Process.{job_of, run_by}
use Rattle.process_store.specs.declared.living.ProcessEntry.{ProcessEntry}
use Rattle.process_store.specs.Living.{run, takes_next}
use Rattle.process_store.specs.Table.{Table, changed, living}
use Rattle.process_effects.specs.Commits.{job_at}
use Rattle.process_table.specs.Steps.{taken, taken_at}

-- the table after a take
pub taken_is : (t now : Table) (o : Option ProcessEntry) (pid position entry_serial : ℕ) (code : List Instance) → living pid t ≡ o → takes_next o ≡ Some position → now ≡ changed (run position entry_serial code) pid t → now ≡ taken pid entry_serial code t
taken_is t now o pid position entry_serial code lives takes is =
    is ∙ ap (λ x. taken_at x pid entry_serial code t) (sym (ap takes_next lives ∙ takes))

-- the job that the process runs then
pub job_is : (o : Option ProcessEntry) (l : ProcessEntry) (position : ℕ) (job : Job) → o ≡ option_map (run position job.entry_serial job.code) (Some l) → slice_get l.process.mailbox position ≡ Some job.message → job.pid ≡ l.process.pid → job.turn ≡ l.process.turn → job.place ≡ l.process.place → job_at o ≡ Some job
job_is o l position job now at same_pid same_turn same_place =
    ap job_at now ∙ ap (λ m. job_of (run_by m position job.entry_serial job.code l.process)) at ∙ (λ i. Some (record job { pid = sym same_pid i; turn = sym same_turn i; place = sym same_place i }))
