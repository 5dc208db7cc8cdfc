-- The written parts say the relup.
use Rattle.std.proofs.Common.{subst, sym}
use Rattle.otp_files.specs.Upgrades.{IsRelup}
use Rattle.otp_files.proofs.Kept.{relup_kept, with_both}
use Rattle.otp_files.proofs.relup.relup_term.Goals as goal

pub returns-clause-read_back : goal.returns-clause-read_back
returns-clause-read_back c =
    let r = c.args.relup.now in
    with_both c.to_term.result c.to_term.ensures.written c.to_term.ensures.kept (λ t is kept. subst (λ u. IsRelup u r) (sym is) (relup_kept r kept.0 kept.1 kept.2))
