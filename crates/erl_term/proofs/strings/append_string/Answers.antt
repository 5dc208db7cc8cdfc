-- Quotes or brackets round it.
use Rattle.std.proofs.Common.{ap, sym, ◌∙◌, arith}
use Rattle.std.specs.List.{flat_map}
use Rattle.std.specs.Str.{chars}
use Rattle.erl_term.specs.Rows.{integers}
use Rattle.erl_term.specs.Text.{utf8, text, elements_text, string_char}
use Rattle.erl_term.specs.Tree.{list}
use Rattle.erl_term.proofs.Appending.{joined, last, stopped}
use Rattle.erl_term.proofs.StringTexts.{string-elements, string-text}
use Rattle.erl_term.proofs.Texts.{between-bytes}
use Rattle.erl_term.proofs.strings.append_string.Goals as goal

pub returns-in_err-append_string_chars : goal.returns-in_err-append_string_chars
returns-in_err-append_string_chars c =
    stopped c.from_residual-in_err-append_string_chars.result c.args.out.now.items c.put.new.out.items c.append_string_chars.new.out.items _ _ c.from_residual-in_err-append_string_chars.ensures.0 c.in_ok-put.ensures c.in_err-append_string_chars.ensures

pub returns-in_ok-append_string_chars : goal.returns-in_ok-append_string_chars
returns-in_ok-append_string_chars c =
    let old = c.args.out.now.items in
    let cs = chars c.args.characters.now in
    let end = c.put-then-prints_as_string in
    last end.result old c.append_string_chars.new.out.items end.new.out.items _ _ (utf8 (text (list (integers cs)))) (joined old c.put.new.out.items c.append_string_chars.new.out.items _ _ c.in_ok-put.ensures c.in_ok-append_string_chars.ensures) end.ensures
    (between-bytes 34 34 (flat_map string_char cs) (omega arith) (omega arith) ∙ ap utf8 (sym (string-text cs (sym c.prints_as_string.ensures ∙ c.if-prints_as_string.true))))

pub returns-in_err-append_code_points : goal.returns-in_err-append_code_points
returns-in_err-append_code_points c =
    stopped c.from_residual-in_err-append_code_points.result c.args.out.now.items c.put-else-prints_as_string.new.out.items c.append_code_points.new.out.items _ _ c.from_residual-in_err-append_code_points.ensures.0 c.in_ok-put-2.ensures c.in_err-append_code_points.ensures

pub returns-in_ok-append_code_points : goal.returns-in_ok-append_code_points
returns-in_ok-append_code_points c =
    let old = c.args.out.now.items in
    let cs = chars c.args.characters.now in
    let end = c.put-else-prints_as_string-2 in
    last end.result old c.append_code_points.new.out.items end.new.out.items _ _ (utf8 (text (list (integers cs)))) (joined old c.put-else-prints_as_string.new.out.items c.append_code_points.new.out.items _ _ c.in_ok-put-2.ensures c.in_ok-append_code_points.ensures) end.ensures
    (between-bytes 91 93 (elements_text (integers cs)) (omega arith) (omega arith) ∙ ap utf8 (sym (string-elements cs (sym c.prints_as_string.ensures ∙ c.if-prints_as_string.false))))
