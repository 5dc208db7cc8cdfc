-- What is read of the one term is what is read of the bytes.
use Rattle.erl_term.specs.Term.{tree}
use Rattle.erl_term.specs.Tree.{more, none}
use Rattle.instructions.specs.Instructions.{instruction_result}
use Rattle.otp_files.specs.Reading.{appup_draft_of, upgrades_of}
use Rattle.otp_files.specs.Texts.{IsAppupError, no_pattern, term}
use Rattle.otp_files.specs.Upgrades.{AppupRefused, IsAppup, IsAppupDraft, IsAppupInstruction, IsExcluded}
use Rattle.otp_files.proofs.Files.{no_pattern_in, read_file}
use Rattle.otp_files.proofs.Tables.{instruction_tells}
use Rattle.otp_files.proofs.Upgraded.{appup_draft_reads, upgrades_judged}
use Rattle.otp_files.proofs.appup.read_appup.Goals as goal

pub returns-in-Ok : goal.returns-in-Ok
returns-in-Ok c =
    let t = tree c.in-Ok.term in
    let bytes = c.args.text.now in
    let judged = upgrades_judged appup_draft_of instruction_result IsAppupDraft IsAppupInstruction IsExcluded appup_draft_reads (instruction_tells c.instruction_forms_are_read.ensures) t in
    let none_in = no_pattern_in bytes (c.texts_read_one_way.ensures bytes) (more t none) c.in-Ok.ensures in
    read_file IsAppup AppupRefused (upgrades_of appup_draft_of instruction_result) (IsAppupError AppupRefused bytes) bytes t c.upgrades_from_term.result c.with_memory.result judged (λ e wrong. no_pattern none_in (term t c.in-Ok.ensures wrong)) c.in-Ok.ensures c.upgrades_from_term.ensures c.with_memory.ensures

pub returns-in-Err : goal.returns-in-Err
returns-in-Err c = c.appup_error.ensures c.in-Err.ensures
