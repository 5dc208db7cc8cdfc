-- The job that a process takes up: words of the table's own functions.
use Rattle.std.specs.Prelude.{◌≡◌, ℕ, slice_get, Option, None, Some}
use Rattle.erl_ir.specs.Module.{Forms}
use Rattle.erl_semantics.specs.declared.jobs.Job.{Job}
use Rattle.code_server.specs.Modules.{Table as Loaded}
use Rattle.process_store.specs.declared.living.ProcessEntry.{ProcessEntry}
use Rattle.process_table.specs.Steps.{IsCodeOf}

-- the job of the message at a position of the mailbox, where there is one
abbrev pub IsJobFor : Loaded Forms → ProcessEntry → ℕ → Option Job → Type 0
IsJobFor modules l position None = slice_get l.process.mailbox position ≡ None
IsJobFor modules l position (Some job) =
    (slice_get l.process.mailbox position ≡ Some job.message) × (job.pid ≡ l.process.pid) × (job.turn ≡ l.process.turn) ×
    (job.place ≡ l.process.place) × IsCodeOf modules (Some l) job
