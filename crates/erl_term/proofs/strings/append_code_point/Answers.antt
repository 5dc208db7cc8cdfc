-- A comma first, where it is not the first.
use Rattle.std.proofs.Common.{◌≡◌, ◌++◌, pos, w64, ap, sym, ◌∙◌}
use Rattle.std.specs.Fmt.{decimal, signed_decimal}
use Rattle.std.proofs.lemmas.Int.{to_z-of_z}
use Rattle.std.proofs.lemmas.List.{append-nil}
use Rattle.erl_term.specs.Strings.{comma}
use Rattle.erl_term.specs.Text.{utf8}
use Rattle.erl_term.proofs.Appending.{last, renamed}
use Rattle.erl_term.proofs.StringTexts.{comma-bytes}
use Rattle.erl_term.proofs.strings.append_code_point.Goals as goal
use Rattle.erl_term.proofs.strings.append_code_point.Goals.{then-not-is_first+in_ok-put, else-not-is_first}

pub returns : goal.returns
returns c =
    let old = c.args.out.now.items in
    let b = c.args.is_first in
    let first : c.if-not-is_first.out.items ≡ old ++ comma b = elim c.if-not-is_first.branch [
      | then-not-is_first+in_ok-put w ↦
          ap (λ o. o.items) w.out-is ∙ w.in_ok-put.ensures ∙ ap (λ d. old ++ comma d) (sym w.if-not-is_first.true)
      | else-not-is_first w ↦
          ap (λ o. o.items) w.out-is ∙ sym (append-nil old) ∙ ap (λ d. old ++ comma d) (sym w.if-not-is_first.false)
    ] in
    let point = to_z-of_z w64 c.from-2.result (record { sfits = c.from-2.type_inv }) ∙ c.from-2.ensures ∙ ap pos c.from.ensures in
    let written = renamed c.append_integer.result c.if-not-is_first.out.items c.append_integer.new.out.items _ (utf8 (decimal c.args.c)) c.append_integer.ensures (ap (λ n. utf8 (signed_decimal n)) point) in
    last c.append_integer.result old c.if-not-is_first.out.items c.append_integer.new.out.items (comma b) (utf8 (decimal c.args.c)) (utf8 (comma b ++ decimal c.args.c)) first written (comma-bytes b (decimal c.args.c))
