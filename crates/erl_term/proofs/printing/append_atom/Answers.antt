-- Plain atoms are their bytes, and others stand between quotes.
use Rattle.std.proofs.Common.{ap, sym, ◌∙◌, arith}
use Rattle.std.specs.List.{flat_map}
use Rattle.std.specs.Str.{chars}
use Rattle.erl_term.specs.Text.{utf8, atom_text, quoted_char}
use Rattle.erl_term.proofs.Appending.{joined, last, renamed, stopped}
use Rattle.erl_term.proofs.Texts.{between-bytes, atom-plain, atom-quoted}
use Rattle.erl_term.proofs.printing.append_atom.Goals as goal

pub returns-then-is_plain : goal.returns-then-is_plain
returns-then-is_plain c =
    let name = c.args.name.now in
    renamed c.put.result c.args.out.now.items c.put.new.out.items c.as_bytes.result.now (utf8 (atom_text (chars name))) c.put.ensures (c.as_bytes.ensures.value ∙ sym (atom-plain name c.utf8.name (sym c.is_plain.ensures ∙ c.if-is_plain.true)))

pub returns-in_err-append_quoted : goal.returns-in_err-append_quoted
returns-in_err-append_quoted c =
    stopped c.from_residual-in_err-append_quoted.result c.args.out.now.items c.put-else-is_plain.new.out.items c.append_quoted.new.out.items _ _ c.from_residual-in_err-append_quoted.ensures.0 c.in_ok-put.ensures c.in_err-append_quoted.ensures

pub returns-in_ok-append_quoted : goal.returns-in_ok-append_quoted
returns-in_ok-append_quoted c =
    let old = c.args.out.now.items in
    let first = c.put-else-is_plain.new.out.items in
    let mid = c.append_quoted.new.out.items in
    let cs = chars c.args.name.now in
    last c.put-else-is_plain-2.result old mid c.put-else-is_plain-2.new.out.items _ _ (utf8 (atom_text cs)) (joined old first mid _ _ c.in_ok-put.ensures c.in_ok-append_quoted.ensures) c.put-else-is_plain-2.ensures
    (between-bytes 39 39 (flat_map quoted_char cs) (omega arith) (omega arith) ∙ ap utf8 (sym (atom-quoted cs (sym c.is_plain.ensures ∙ c.if-is_plain.false))))
