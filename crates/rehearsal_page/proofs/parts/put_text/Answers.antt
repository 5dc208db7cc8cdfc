-- The text is shown, and what is shown is escaped.
use Rattle.std.proofs.Common.{◌++◌, ◌∙◌, refl, ap}
use Rattle.std.proofs.lemmas.Result.{on_ok_weaker}
use Rattle.std.proofs.lemmas.Str.{IsUtf8-string_bytes}
use Rattle.std.specs.Prelude.{string_bytes}
use Rattle.rehearsal_page.specs.Escaping.{escaped}
use Rattle.rehearsal_page.specs.Parts.{IsShown}
use Rattle.rehearsal_page.proofs.Showing.{read-text, shown-of}
use Rattle.rehearsal_page.proofs.Written.{plain-behind, text-is-plain}
use Rattle.rehearsal_page.proofs.parts.put_text.Goals as goal

pub returns-clause-written : goal.returns-clause-written
returns-clause-written c =
    let begun = string_bytes c.new-shown.result in
    let shown = string_bytes c.push_shown.new.out in
    let is : IsShown c.args.text.now shown = shown-of c.args.text.now c.unwrap_or.result.now begun shown (read-text (λ s. s.now) c.args.text.now c.from_utf8.result _ c.unwrap_or.result _ c.from_utf8.ensures.cases c.unwrap_or.ensures) c.new-shown.ensures.bytes (IsUtf8-string_bytes c.push_shown.new.out) c.in_ok-push_shown.ensures.one_line c.in_ok-push_shown.ensures.plain in
    on_ok_weaker c.put_escaped.result (λ wrote. (escaped shown, (shown, is, refl), wrote ∙ ap (λ l. c.args.out.now.items ++ escaped l) c.as_bytes.ensures.value)) c.put_escaped.ensures

pub returns-clause-brackets : goal.returns-clause-brackets
returns-clause-brackets c =
    on_ok_weaker c.put_escaped.result (λ wrote. plain-behind c.args.out.now.items c.put_escaped.new.out.items (escaped c.as_bytes.result.now) wrote (text-is-plain c.as_bytes.result.now)) c.put_escaped.ensures
