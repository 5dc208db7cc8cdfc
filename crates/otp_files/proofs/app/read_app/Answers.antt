-- What is read of the one term is what is read of the bytes.
use Rattle.erl_term.specs.Term.{tree}
use Rattle.otp_files.specs.Apps.{AppRefused, IsApp}
use Rattle.otp_files.specs.Reading.{app_of}
use Rattle.otp_files.specs.Texts.{IsFileError, term}
use Rattle.otp_files.proofs.Applied.{app_judged}
use Rattle.otp_files.proofs.Files.{read_file, text_wrong}
use Rattle.otp_files.proofs.app.read_app.Goals as goal

pub returns-in-Ok : goal.returns-in-Ok
returns-in-Ok c =
    let t = tree c.in-Ok.term in
    let bytes = c.args.text.now in
    read_file IsApp AppRefused app_of (IsFileError AppRefused bytes) bytes t c.app_from_term.result c.with_memory.result (app_judged t) (λ e wrong. term t c.in-Ok.ensures wrong) c.in-Ok.ensures c.app_from_term.ensures c.with_memory.ensures

pub returns-in-Err : goal.returns-in-Err
returns-in-Err c = text_wrong AppRefused c.args.text.now _ c.in-Err.ensures
