-- What holds of the one term holds of the bytes.
use Rattle.otp_files.specs.Apps.{AppRefused, IsApp}
use Rattle.otp_files.specs.Rels.{IsRel, RelRefused}
use Rattle.otp_files.specs.Upgrades.{AppupRefused, IsAppup, IsRelup, RelupRefused}
use Rattle.otp_files.proofs.Files.{one_appup, one_file}
use Rattle.otp_files.proofs.laws.files_are_read_one_way.Goals as goal

pub returns : goal.returns
returns c = λ bytes.
    let one = c.texts_read_one_way.ensures bytes in
    let terms = c.terms_say_one_record_or_have_one_fault.ensures in
    record {
      app = one_file IsApp AppRefused bytes one (λ t. (terms t).app);
      rel = one_file IsRel RelRefused bytes one (λ t. (terms t).rel);
      appup = one_appup IsAppup AppupRefused bytes one (λ t. (terms t).appup);
      relup = one_file IsRelup RelupRefused bytes one (λ t. (terms t).relup);
    }
