-- What is read of the one term is what is read of the bytes.
use Rattle.erl_term.specs.Term.{tree}
use Rattle.low_instructions.specs.Reading.{low_result}
use Rattle.otp_files.specs.Reading.{relup_draft_of, upgrades_of}
use Rattle.otp_files.specs.Texts.{IsFileError, term}
use Rattle.otp_files.specs.Upgrades.{IsExcluded, IsRelup, IsRelupDraft, IsRelupInstruction, RelupRefused}
use Rattle.otp_files.proofs.Files.{read_file, text_wrong}
use Rattle.otp_files.proofs.Tables.{low_tells}
use Rattle.otp_files.proofs.Upgraded.{relup_draft_reads, upgrades_judged}
use Rattle.otp_files.proofs.relup.read_relup.Goals as goal

pub returns-in-Ok : goal.returns-in-Ok
returns-in-Ok c =
    let t = tree c.in-Ok.term in
    let bytes = c.args.text.now in
    let judged = upgrades_judged relup_draft_of low_result IsRelupDraft IsRelupInstruction IsExcluded relup_draft_reads (low_tells c.low_forms_are_read.ensures) t in
    read_file IsRelup RelupRefused (upgrades_of relup_draft_of low_result) (IsFileError RelupRefused bytes) bytes t c.upgrades_from_term.result c.with_memory.result judged (λ e wrong. term t c.in-Ok.ensures wrong) c.in-Ok.ensures c.upgrades_from_term.ensures c.with_memory.ensures

pub returns-in-Err : goal.returns-in-Err
returns-in-Err c = text_wrong RelupRefused c.args.text.now _ c.in-Err.ensures
