-- Each kind of file, by the tables of instructions.
use Rattle.low_instructions.specs.Reading.{low_result}
use Rattle.instructions.specs.Instructions.{instruction_result}
use Rattle.otp_files.specs.Apps.{AppRefused, IsApp}
use Rattle.otp_files.specs.Reading.{app_of, appup_draft_of, rel_of, relup_draft_of, upgrades_of}
use Rattle.otp_files.specs.Rels.{IsRel, RelRefused}
use Rattle.otp_files.specs.Upgrades.{AppupRefused, IsAppup, IsAppupDraft, IsAppupInstruction, IsExcluded, IsRelup, IsRelupDraft, IsRelupInstruction, RelupRefused}
use Rattle.otp_files.proofs.Applied.{app_done, app_judged, app_refused}
use Rattle.otp_files.proofs.Files.{one_of}
use Rattle.otp_files.proofs.Released.{rel_done, rel_judged, rel_refused}
use Rattle.otp_files.proofs.Tables.{instruction_tells, low_tells}
use Rattle.otp_files.proofs.Upgraded.{appup_draft_reads, relup_draft_reads, upgrades_done, upgrades_judged, upgrades_refused}
use Rattle.otp_files.proofs.laws.terms_say_one_record_or_have_one_fault.Goals as goal

pub returns : goal.returns
returns c = λ t.
    let high = instruction_tells c.instruction_forms_are_read.ensures in
    let low = low_tells c.low_forms_are_read.ensures in
    record {
      app = one_of IsApp AppRefused app_of app_judged app_done app_refused t;
      rel = one_of IsRel RelRefused rel_of rel_judged rel_done rel_refused t;
      appup = one_of IsAppup AppupRefused (upgrades_of appup_draft_of instruction_result) (upgrades_judged appup_draft_of instruction_result IsAppupDraft IsAppupInstruction IsExcluded appup_draft_reads high) (upgrades_done appup_draft_of instruction_result IsAppupDraft IsAppupInstruction IsExcluded appup_draft_reads high) (upgrades_refused appup_draft_of instruction_result IsAppupDraft IsAppupInstruction IsExcluded appup_draft_reads high) t;
      relup = one_of IsRelup RelupRefused (upgrades_of relup_draft_of low_result) (upgrades_judged relup_draft_of low_result IsRelupDraft IsRelupInstruction IsExcluded relup_draft_reads low) (upgrades_done relup_draft_of low_result IsRelupDraft IsRelupInstruction IsExcluded relup_draft_reads low) (upgrades_refused relup_draft_of low_result IsRelupDraft IsRelupInstruction IsExcluded relup_draft_reads low) t;
    }
