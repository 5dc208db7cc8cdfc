-- Bytes are compared, which are the characters' own.
use Rattle.std.proofs.Common.{codes, IsTrue, ap, ◌∙◌, rules}
use Rattle.std.proofs.lemmas.Str.{IsUtf8-from_ascii}
use Rattle.std.specs.Str.{bytes_eq}
use Rattle.erl_term.specs.Ascii.{is_ascii_text}
use Rattle.erl_term.proofs.Ascii.{is_word, IsAscii-from_test}
use Rattle.erl_lint.proofs.binding.is_anonymous.Goals as goal

pub returns : goal.returns
returns c =
    let ascii : IsTrue (is_ascii_text (codes "_")) = search rules in
    is_word c.as_str.result.now (codes "_") c.eq.result c.as_str.utf8 (IsUtf8-from_ascii (codes "_") (IsAscii-from_test (codes "_") ascii)) ascii c.eq.ensures ∙
    ap (λ cs. bytes_eq cs (codes "_")) c.as_str.ensures
