-- The process runs its job, and the undo takes the message back.
use Rattle.std.proofs.Common.{◌≡◌, List, Some, option_map, sym, ap, subst, ◌∙◌}
use Rattle.std.specs.Option.{option_copied}
use Rattle.erl_semantics.specs.declared.instance.Instance.{Instance}
use Rattle.process.specs.Process.{next_message}
use Rattle.process_store.specs.declared.living.ProcessEntry.{ProcessEntry}
use Rattle.process_store.specs.Living.{run, takes_next}
use Rattle.process_store.specs.Table.{Table, changed, living}
use Rattle.process_table.proofs.Jobs.{job_is, taken_is}
use Rattle.process_table.specs.Steps.{IsCodeOf}
use Rattle.process_table.proofs.processes.Processes.take_up.Goals as goal

pub run-requires : goal.run-requires
run-requires c = ap takes_next (sym c.get.ensures ∙ ap option_copied c.in-Some.is) ∙ sym c.next_message.ensures ∙ c.in-Some-next_message.is

pub returns-clause-taken : goal.returns-clause-taken
returns-clause-taken c =
    let pid = c.args.pid in
    let t : Table = c.args.self.now in
    let l : ProcessEntry = c.in-Some.living.now in
    let there : living pid c.self.inside.store ≡ Some l = sym c.get.ensures ∙ ap option_copied c.in-Some.is in
    let lives : living pid t ≡ Some l = ap (living pid) (sym c.self.view_is) ∙ there in
    let takes : next_message l.process ≡ Some c.in-Some-next_message.position = sym c.next_message.ensures ∙ c.in-Some-next_message.is in
    let job = c.in-Some-2.job in
    let position = c.in-Some-next_message.position in
    let code : List Instance = c.in-Some-2.code in
    let same : code ≡ job.code = rw c.in-Some-2.is at c.in_ok-job.ensures.code in
    let is : c.run.new.self ≡ changed (run position job.entry_serial job.code) pid t = c.run.ensures.runs ∙ ap (changed (run position job.entry_serial code) pid) c.self.view_is ∙ ap (λ (x : List Instance). changed (run position job.entry_serial x) pid t) same in
    let now : living pid c.run.new.self ≡ option_map (run position job.entry_serial job.code) (Some l) = c.run.ensures.process ∙ ap (option_map (run position job.entry_serial code)) there ∙ ap (λ (x : List Instance). option_map (run position job.entry_serial x) (Some l)) same in
    let told = rw c.in-Some-2.is at c.in_ok-job.ensures.job in
    record {
      job = job;
      told = c.in_ok-jobs.ensures;
      code = subst (λ o. IsCodeOf c.args.modules.now o job) (sym lives) told.4;
      table = taken_is t c.run.new.self (Some l) pid position job.entry_serial job.code lives takes is;
      runs = job_is (living pid c.run.new.self) l position job now told.0 told.1 told.2 told.3;
    }

pub returns-clause-inverse : goal.returns-clause-inverse
returns-clause-inverse c = λ modules. (c.run.ensures.fits, c.run.ensures.back ∙ c.self.view_is)
