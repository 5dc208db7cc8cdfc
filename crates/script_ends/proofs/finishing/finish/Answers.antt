-- The row is what is noted of those that were resumed.
use Rattle.std.proofs.Common.{length, drop, refl, ap, ◌∙◌}
use Rattle.std.proofs.lemmas.List.{take_at}
use Rattle.process_table.specs.States.{all_unresumed}
use Rattle.script_ends.proofs.finishing.finish.Goals as goal

pub returns-clause-back : goal.returns-clause-back
returns-clause-back c =
    let noted = c.resume_noting.new.resumed in
    let installed = c.in-Ok-installed in
    let row_is = c.new.ensures ∙ take_at noted (drop (length noted) c.in-Ok.resumed.items) c.in-Ok.resumed.len
    (c.resume_noting.auto.resumed ∙ c.as_mut_slice.ensures.len) in
    record {
      processes = ap (λ row. all_unresumed row c.resume_noting.new.self) row_is ∙ c.resume_noting.ensures.back;
      releases = installed.ensures.takes_back;
      kept = installed.ensures.statuses;
      runner = refl;
    }
