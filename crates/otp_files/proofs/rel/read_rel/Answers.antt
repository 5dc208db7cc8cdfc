-- What is read of the one term is what is read of the bytes.
use Rattle.erl_term.specs.Term.{tree}
use Rattle.otp_files.specs.Rels.{IsRel, RelRefused}
use Rattle.otp_files.specs.Reading.{rel_of}
use Rattle.otp_files.specs.Texts.{IsFileError, term}
use Rattle.otp_files.proofs.Files.{read_file, text_wrong}
use Rattle.otp_files.proofs.Released.{rel_judged}
use Rattle.otp_files.proofs.rel.read_rel.Goals as goal

pub returns-in-Ok : goal.returns-in-Ok
returns-in-Ok c =
    let t = tree c.in-Ok.term in
    let bytes = c.args.text.now in
    read_file IsRel RelRefused rel_of (IsFileError RelRefused bytes) bytes t c.rel_from_term.result c.with_memory.result (rel_judged t) (λ e wrong. term t c.in-Ok.ensures wrong) c.in-Ok.ensures c.rel_from_term.ensures c.with_memory.ensures

pub returns-in-Err : goal.returns-in-Err
returns-in-Err c = text_wrong RelRefused c.args.text.now _ c.in-Err.ensures
