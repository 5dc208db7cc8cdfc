-- One code point more in each turn, and all of them at the end.
use Rattle.std.proofs.Common.{◌≡◌, ◌++◌, refl, ap, sym, ◌∙◌}
use Rattle.std.specs.Str.{chars}
use Rattle.std.proofs.lemmas.List.{map-id}
use Rattle.std.proofs.lemmas.Iterator.{YieldsList-from_chars}
use Rattle.std.proofs.lemmas.Iterator.Consumers.{YieldsList-end}
use Rattle.erl_term.specs.Rows.{integers}
use Rattle.erl_term.specs.Text.{utf8, elements_text}
use Rattle.erl_term.proofs.Appending.{joined_as, stopped}
use Rattle.erl_term.proofs.StringTexts.{code_points-more, others-follow}
use Rattle.erl_term.proofs.Texts.{nothing-yet}
use Rattle.erl_term.proofs.strings.append_code_points.Goals as goal

pub loop-c-init : goal.loop-c-init
loop-c-init c = (nothing-yet c.args.out.now.items, refl)

pub loop-c-preserved : goal.loop-c-preserved
loop-c-preserved c =
    (joined_as c.args.out.now.items c.loop-c.out.items c.append_code_point.new.out.items _ _ _ c.loop-c.invariant.0 c.in_ok-append_code_point.ensures (code_points-more c.loop-c.yielded c.in-Some.c c.loop-c.is_first c.loop-c.invariant.1), others-follow c.loop-c.yielded c.in-Some.c)

pub returns-in_err-append_code_point : goal.returns-in_err-append_code_point
returns-in_err-append_code_point c =
    stopped c.from_residual.result c.args.out.now.items c.loop-c.out.items c.append_code_point.new.out.items _ _ c.from_residual.ensures.0 c.loop-c.invariant.0 c.in_err-append_code_point.ensures

pub returns : goal.returns
returns c =
    let whole = YieldsList-end (YieldsList-from_chars c.args.characters.now c.utf8.characters cc) c.loop-c.yielded _ c.loop-c.yielded_by _ _ c.in-None.is c.next.ensures.steps in
    let all : c.loop-c.yielded ≡ chars c.args.characters.now = sym (map-id c.loop-c.yielded) ∙ whole.0 in
    c.loop-c.invariant.0 ∙ ap (λ cs. c.args.out.now.items ++ utf8 (elements_text (integers cs))) all
