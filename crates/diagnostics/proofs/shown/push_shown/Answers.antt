-- A hidden character comes as an escape, and any other as it stands.
use Rattle.std.proofs.Common.{◌≡◌, ◌++◌, ◌∷◌, [], true, false, append_assoc, append-nil, map-id, string_bytes, sym, ap, subst, ◌∙◌}
use Rattle.std.specs.Str.{chars}
use Rattle.std.proofs.lemmas.Bool.{true≢false}
use Rattle.std.proofs.lemmas.Iterator.{YieldsList-from_chars}
use Rattle.std.proofs.lemmas.Iterator.Consumers.{YieldsList-end}
use Rattle.diagnostics.specs.Shown.{IsOneLine}
use Rattle.diagnostics.proofs.OneLine.{front-plain, last-plain}
use Rattle.diagnostics.proofs.shown.push_shown.Goals as goal

pub loop-c-init : goal.loop-c-init
loop-c-init c = (λ so. so, λ plain. sym (append-nil (chars (string_bytes c.args.out.now))))

pub loop-c-preserved-in-Continue-1 : goal.loop-c-preserved-in-Continue-1
loop-c-preserved-in-Continue-1 c =
    (λ so. c.push_escape.ensures (c.loop-c.invariant.0 so), λ plain. absurd (true≢false (sym c.if-is_hidden.true ∙ c.is_hidden.ensures ∙ last-plain c.loop-c.yielded c.in-Some.c plain)))

pub loop-c-preserved : goal.loop-c-preserved
loop-c-preserved c =
    (λ so. c.push_plain.ensures.one_line (c.loop-c.invariant.0 so), λ plain. c.in_ok-push_plain.ensures.more ∙ ap (λ l. l ++ c.in-Some.c ∷ []) (c.loop-c.invariant.1 (front-plain c.loop-c.yielded c.in-Some.c plain)) ∙ append_assoc (chars (string_bytes c.args.out.now)) c.loop-c.yielded (c.in-Some.c ∷ []))

pub returns-clause-plain : goal.returns-clause-plain
returns-clause-plain c =
    let whole = YieldsList-end (YieldsList-from_chars c.args.text.now c.utf8.text cc) c.loop-c.yielded _ c.loop-c.yielded_by _ _ c.in-None.is c.next.ensures.steps in
    let all : c.loop-c.yielded ≡ chars c.args.text.now = sym (map-id c.loop-c.yielded) ∙ whole.0 in
    λ plain. c.loop-c.invariant.1 (subst (λ cs. IsOneLine cs) (sym all) plain) ∙ ap (λ cs. chars (string_bytes c.args.out.now) ++ cs) all
