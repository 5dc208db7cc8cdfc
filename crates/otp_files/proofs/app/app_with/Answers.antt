-- The version is there, and no key stands twice.
use Rattle.std.proofs.Common.{◌≡◌, [], None, sym, ap, ◌∙◌}
use Rattle.std.specs.Option.{unwrap_or}
use Rattle.otp_files.specs.Reading.{first_in}
use Rattle.otp_files.proofs.Making.{made}
use Rattle.otp_files.proofs.app.app_with.Goals as goal

pub returns : goal.returns
returns c =
    let used = c.args.used in
    let empty = c.new-2.ensures ∙ c.new.ensures.items in
    let empty' = c.new-4.ensures ∙ c.new-3.ensures.items in
    let modules : c.unwrap_or.result ≡ unwrap_or (first_in used.modules) [] = c.unwrap_or.ensures ∙ ap (λ o. unwrap_or o c.new-2.result) c.first_in-2.ensures ∙ ap (λ d. unwrap_or (first_in used.modules) d) empty in
    let applications : c.unwrap_or-2.result ≡ unwrap_or (first_in used.applications) [] = c.unwrap_or-2.ensures ∙ ap (λ o. unwrap_or o c.new-4.result) c.first_in-3.ensures ∙ ap (λ d. unwrap_or (first_in used.applications) d) empty' in
    let start : c.unwrap_or-3.result ≡ unwrap_or (first_in used.starts) None = c.unwrap_or-3.ensures ∙ ap (λ o. unwrap_or o None) c.first_in-4.ensures in
    rw (modules, applications, start) (sym (made c.args.name used c.in-Some.vsn (sym c.in-Some.ensures) (sym c.has_duplicate-is_twice.ensures ∙ c.if-is_twice.false)))
