-- Brackets round the elements, and a comma before each but the first.
use Rattle.std.proofs.Common.{◌≡◌, [], ◌∷◌, ◌++◌, max, ap, sym, ◌∙◌, arith, rules}
use Rattle.std.specs.List.{flat_map}
use Rattle.std.proofs.lemmas.List.{take_all}
use Rattle.erl_term.specs.Tree.{tuple, list, depth, greatest_depth}
use Rattle.erl_term.specs.Term.{tree, trees}
use Rattle.erl_term.specs.Text.{utf8, text, elements_text, others_text, string_char}
use Rattle.erl_term.specs.Strings.{printable_chars}
use Rattle.erl_term.proofs.Appending.{joined, joined_as, last, stopped}
use Rattle.erl_term.proofs.Rows.{depth_in}
use Rattle.erl_term.proofs.StringTexts.{chars-both, elements-both, some-terms}
use Rattle.erl_term.proofs.Texts.{between-bytes, list-string, list-elements, no-elements, nothing-yet, others-more, utf8-append, utf8-cons-byte}
use Rattle.erl_term.proofs.term.+print.Goals as goal

pub printing::append_list-returns-in_err-append_chars : goal.printing::append_list-returns-in_err-append_chars
printing::append_list-returns-in_err-append_chars t c =
    stopped c.from_residual-in_err-append_chars.result c.args.out.now.items c.put.new.out.items c.append_chars.new.out.items _ _ c.from_residual-in_err-append_chars.ensures.0 c.in_ok-put.ensures c.in_err-append_chars.ensures

pub printing::append_list-returns-in_err-append_chars-2 : goal.printing::append_list-returns-in_err-append_chars-2
printing::append_list-returns-in_err-append_chars-2 t c =
    let old = c.args.out.now.items in
    let mid = c.append_chars.new.out.items in
    stopped c.from_residual-in_err-append_chars-2.result old mid c.append_chars-then-prints_as_string.new.out.items _ _ c.from_residual-in_err-append_chars-2.ensures.0 (joined old c.put.new.out.items mid _ _ c.in_ok-put.ensures c.in_ok-append_chars.ensures) c.in_err-append_chars-2.ensures

pub printing::append_list-returns-in_ok-append_chars-2 : goal.printing::append_list-returns-in_ok-append_chars-2
printing::append_list-returns-in_ok-append_chars-2 t c =
    let old = c.args.out.now.items in
    let first = c.put.new.out.items in
    let mid = c.append_chars-then-prints_as_string.new.out.items in
    let row = c.args.front.now ++ c.args.back.now in
    let end = c.put-then-prints_as_string in
    let written = joined_as first c.append_chars.new.out.items mid _ _ _ c.in_ok-append_chars.ensures c.in_ok-append_chars-2.ensures (chars-both c.args.front.now c.args.back.now) in
    last end.result old mid end.new.out.items _ _ (utf8 (text (list (trees row)))) (joined old first mid _ _ c.in_ok-put.ensures written) end.ensures
    (between-bytes 34 34 (flat_map string_char (printable_chars (trees row))) (omega arith) (omega arith) ∙ ap utf8 (sym (list-string (trees row) (sym c.prints_as_string.ensures ∙ c.if-prints_as_string.true))))

pub printing::append_list-returns-in_err-append_both : goal.printing::append_list-returns-in_err-append_both
printing::append_list-returns-in_err-append_both t c =
    stopped c.from_residual-in_err-append_both.result c.args.out.now.items c.put-else-prints_as_string.new.out.items c.append_both.new.out.items _ _ c.from_residual-in_err-append_both.ensures.0 c.in_ok-put-2.ensures c.in_err-append_both.ensures

pub printing::append_list-returns-in_ok-append_both : goal.printing::append_list-returns-in_ok-append_both
printing::append_list-returns-in_ok-append_both t c =
    let old = c.args.out.now.items in
    let first = c.put-else-prints_as_string.new.out.items in
    let mid = c.append_both.new.out.items in
    let ts = trees (c.args.front.now ++ c.args.back.now) in
    let end = c.put-else-prints_as_string-2 in
    last end.result old mid end.new.out.items _ _ (utf8 (text (list ts))) (joined old first mid _ _ c.in_ok-put-2.ensures c.in_ok-append_both.ensures) end.ensures
    (between-bytes 91 93 (elements_text ts) (omega arith) (omega arith) ∙ ap utf8 (sym (list-elements ts (sym c.prints_as_string.ensures ∙ c.if-prints_as_string.false))))

pub printing::append_both-returns : goal.printing::append_both-returns
printing::append_both-returns t c =
    last c.append_others.result c.args.out.now.items c.append_elements-2.new.out.items c.append_others.new.out.items _ _ (utf8 (elements_text (trees (c.args.front.now ++ c.args.back.now)))) c.in_ok-append_elements.ensures c.append_others.ensures
    (elements-both c.args.front.now c.args.back.now (some-terms c.args.front.now (sym c.is_empty.ensures ∙ c.if-is_empty.false)))

pub Terms::append_as_tuple-returns-in_err-append_elements : goal.Terms::append_as_tuple-returns-in_err-append_elements
Terms::append_as_tuple-returns-in_err-append_elements t c =
    stopped c.from_residual-in_err-append_elements.result c.args.out.now.items c.put.new.out.items c.append_elements.new.out.items _ _ c.from_residual-in_err-append_elements.ensures.0 c.in_ok-put.ensures c.in_err-append_elements.ensures

pub Terms::append_as_tuple-returns : goal.Terms::append_as_tuple-returns
Terms::append_as_tuple-returns t c =
    let old = c.args.out.now.items in
    let first = c.put.new.out.items in
    let mid = c.append_elements.new.out.items in
    let ts = trees c.as_slice.result.now in
    let end = c.put-2 in
    last end.result old mid end.new.out.items _ _ (utf8 (text (tuple c.args.self.now))) (joined old first mid _ _ c.in_ok-put.ensures c.in_ok-append_elements.ensures) end.ensures
    (between-bytes 123 125 (elements_text ts) (omega arith) (omega arith) ∙ ap (λ us. utf8 (text (tuple us))) c.as_slice.ensures)

pub printing::append_elements-returns-in_default : goal.printing::append_elements-returns-in_default
printing::append_elements-returns-in_default t c =
    let old = c.args.out.now.items in
    nothing-yet old ∙ ap (λ cs. old ++ utf8 cs) (sym (no-elements c.args.terms.now c.in_default.ensures.cases))

pub printing::append_elements-returns : goal.printing::append_elements-returns
printing::append_elements-returns t c =
    let one = text (tree c.in-Some.first.now) in
    let others = others_text (trees c.in-Some.others.now) in
    last c.append_others.result c.args.out.now.items c.append_text.new.out.items c.append_others.new.out.items (utf8 one) (utf8 others) (utf8 (elements_text (trees c.args.terms.now))) c.in_ok-append_text.ensures c.append_others.ensures
    (sym (utf8-append one others) ∙ ap (λ ts. utf8 (elements_text (trees ts))) (sym c.in-Some.ensures.cases.0))

pub printing::append_elements-append_others-requires : goal.printing::append_elements-append_others-requires
printing::append_elements-append_others-requires t c =
    let whole : greatest_depth (trees c.args.terms.now) ≡ max (depth (tree c.in-Some.first.now)) (greatest_depth (trees c.in-Some.others.now)) = ap (λ ts. greatest_depth (trees ts)) c.in-Some.ensures.cases.0 in
    search rules

pub printing::append_other-returns : goal.printing::append_other-returns
printing::append_other-returns t c =
    let cs = text (tree c.args.term.now) in
    last c.append_text.result c.args.out.now.items c.put.new.out.items c.append_text.new.out.items (44 ∷ []) (utf8 cs) (utf8 (44 ∷ cs)) c.in_ok-put.ensures c.append_text.ensures (sym (utf8-cons-byte 44 cs (omega arith)))

pub printing::append_others-loop-term-init : goal.printing::append_others-loop-term-init
printing::append_others-loop-term-init t c = nothing-yet c.args.out.now.items

pub printing::append_others-loop-term-preserved : goal.printing::append_others-loop-term-preserved
printing::append_others-loop-term-preserved t c =
    joined_as c.args.out.now.items c.loop-term.out.items c.append_other.new.out.items _ _ _ c.loop-term.invariant c.in_ok-append_other.ensures (others-more c.args.terms.now c.loop-term.term-index c.term-item.result c.loop-term-test.true c.term-item.is)

pub printing::append_others-returns-in_err-append_other : goal.printing::append_others-returns-in_err-append_other
printing::append_others-returns-in_err-append_other t c =
    stopped c.from_residual.result c.args.out.now.items c.loop-term.out.items c.append_other.new.out.items _ _ c.from_residual.ensures.0 c.loop-term.invariant c.in_err-append_other.ensures

pub printing::append_others-returns : goal.printing::append_others-returns
printing::append_others-returns t c =
    c.loop-term.invariant ∙ ap (λ ts. c.args.out.now.items ++ utf8 (others_text (trees ts))) (take_all c.loop-term.term-index c.args.terms.now c.loop-term-test.false)

pub printing::append_others-append_other-requires : goal.printing::append_others-append_other-requires
printing::append_others-append_other-requires t c =
    let smaller = depth_in c.args.terms.now c.loop-term.term-index c.term-item.result c.loop-term-test.true c.term-item.is in
    search rules
