-- A character more in each turn, and all of them at the end.
use Rattle.std.proofs.Common.{◌≡◌, [], ◌∷◌, sym, ap, ◌∙◌, refl, append_assoc}
use base.Stored.{gnum, gcons}
use Rattle.erl_ir.specs.ModuleBytes.{written}
use Rattle.std.specs.Str.{chars}
use Rattle.std.proofs.lemmas.List.{map-id, append-nil}
use Rattle.std.proofs.lemmas.Iterator.{YieldsList-from_chars}
use Rattle.std.proofs.lemmas.Iterator.Consumers.{YieldsList-end}
use Rattle.erl_term.specs.TreeCode.{chars_code}
use Rattle.erl_ir.proofs.Written.{written-nil}
use Rattle.erl_ir.proofs.bytes.write_name.Goals as goal

pub loop-c-init : goal.loop-c-init
loop-c-init c =
    λ rest. refl

pub loop-c-preserved : goal.loop-c-preserved
loop-c-preserved c =
    λ rest. sym (c.in_ok-write_front.ensures (chars_code rest)) ∙
    ap (λ n. written (gcons (gnum n) (chars_code rest)) c.loop-c.out.items) c.from.ensures ∙
    c.loop-c.invariant (c.in-Some.c ∷ rest) ∙
    ap (λ l. written (chars_code l) c.args.out.now.items) (sym (append_assoc c.loop-c.yielded (c.in-Some.c ∷ []) rest))

pub returns : goal.returns
returns c =
    let whole = YieldsList-end (YieldsList-from_chars c.as_str-text.result.now c.as_str-text.utf8 cc) c.loop-c.yielded _ c.loop-c.yielded_by _ _ c.in-None.is c.next.ensures.steps in
    let all : c.loop-c.yielded ≡ chars c.as_str-text.result.now = sym (map-id c.loop-c.yielded) ∙ whole.0 in
    c.in_ok-push.ensures.items ∙ sym (written-nil c.loop-c.out.items) ∙ c.loop-c.invariant [] ∙
    ap (λ l. written (chars_code l) c.args.out.now.items) (append-nil c.loop-c.yielded ∙ all ∙ c.as_str-text.ensures.chars)
