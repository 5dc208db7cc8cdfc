-- At most one character more in each turn, and all of them at the end.
use Rattle.std.proofs.Common.{◌≡◌, ◌++◌, ap, sym, ◌∙◌}
use Rattle.std.specs.Option.{option_to_list}
use Rattle.std.specs.List.{flat_map}
use Rattle.std.proofs.lemmas.List.{append-nil, take_all}
use Rattle.erl_term.specs.Term.{tree, trees}
use Rattle.erl_term.specs.Text.{utf8, printable_char, string_char}
use Rattle.erl_term.specs.Strings.{printable_chars}
use Rattle.erl_term.proofs.Appending.{joined_as, stopped}
use Rattle.erl_term.proofs.Texts.{nothing-yet, char-added, none-added, chars-more}
use Rattle.erl_term.proofs.term.printing.append_chars.Goals as goal
use Rattle.erl_term.proofs.term.printing.append_chars.Goals.{in-Some+in_ok-append_string_char, in_default}

pub loop-term-init : goal.loop-term-init
loop-term-init c = nothing-yet c.args.out.now.items

pub loop-term-preserved : goal.loop-term-preserved
loop-term-preserved c =
    let term = c.term-item.result in
    let out = c.loop-term.out.items in
    let new = c.match-printable_char.out.items in
    let added : new ≡ out ++ utf8 (flat_map string_char (option_to_list (printable_char (tree term)))) = elim c.match-printable_char.branch [
      | in-Some+in_ok-append_string_char w ↦
          ap (λ o. o.items) w.out-is ∙ w.in_ok-append_string_char.ensures ∙ ap (λ d. out ++ utf8 (string_char d)) w.from.ensures ∙ ap (λ bs. out ++ bs) (char-added (printable_char (tree term)) w.in-Some.c (sym c.printable_char.ensures ∙ w.in-Some.is))
      | in_default w ↦
          ap (λ o. o.items) w.out-is ∙ sym (append-nil out) ∙ ap (λ bs. out ++ bs) (none-added (printable_char (tree term)) (sym c.printable_char.ensures ∙ w.in_default.is))
    ] in
    joined_as c.args.out.now.items out new _ _ _ c.loop-term.invariant added (chars-more c.args.terms.now c.loop-term.term-index term c.loop-term-test.true c.term-item.is)

pub returns-in_err-append_string_char : goal.returns-in_err-append_string_char
returns-in_err-append_string_char c =
    stopped c.from_residual.result c.args.out.now.items c.loop-term.out.items c.append_string_char.new.out.items _ _ c.from_residual.ensures.0 c.loop-term.invariant c.in_err-append_string_char.ensures

pub returns : goal.returns
returns c =
    c.loop-term.invariant ∙ ap (λ ts. c.args.out.now.items ++ utf8 (flat_map string_char (printable_chars (trees ts)))) (take_all c.loop-term.term-index c.args.terms.now c.loop-term-test.false)
