-- The kind, and the parts.
use Rattle.std.proofs.Common.{sym, ap, ◌∙◌, lit<}
use base.Stored.{gnum, gcons}
use Rattle.erl_ir.specs.ExpressionForms.{guards, clauses}
use Rattle.erl_ir.specs.PatternCode.{pats_code}
use Rattle.erl_ir.specs.PatternForms.{pats}
use Rattle.erl_ir.specs.FormsCode.{clauses_code, definition_code, guards_code}
use Rattle.erl_ir.proofs.Written.{both_is, front_is, guards-parts, last, like, pats-parts}
use Rattle.erl_ir.proofs.bytes.functions.write_definition.Goals as goal

pub returns-in_ok-push-in-Clauses : goal.returns-in_ok-push-in-Clauses
returns-in_ok-push-in-Clauses c =
    last c.write_clauses.result (clauses_code (clauses c.as_slice.result.now)) (definition_code c.args.definition.now) c.write_clauses.new.out.items c.push.new.self.items c.args.out.now.items (
    front_is 0 (clauses_code (clauses c.as_slice.result.now)) c.args.out.now.items c.push.new.self.items (lit< tt) c.in_ok-push-in-Clauses.ensures.items ∙
    like (gcons (gnum 0) (clauses_code (clauses c.as_slice.result.now))) (definition_code c.args.definition.now) c.args.out.now.items (ap (λ r. gcons (gnum 0) (clauses_code r)) c.as_slice.ensures ∙ sym (ap (λ x. definition_code x) c.in-Clauses.is))
    ) c.write_clauses.ensures

pub returns-in_ok-write_guards-in-Loop : goal.returns-in_ok-write_guards-in-Loop
returns-in_ok-write_guards-in-Loop c =
    last c.write_clauses-in-Loop.result (clauses_code (clauses c.as_slice-in-Loop-3.result.now)) (definition_code c.args.definition.now) c.write_clauses-in-Loop.new.out.items c.write_guards.new.out.items c.args.out.now.items (
    both_is (guards_code (guards c.as_slice-in-Loop-2.result.now)) (clauses_code (clauses c.as_slice-in-Loop-3.result.now)) c.write_patterns.new.out.items c.push-in-Loop-3.new.self.items c.write_guards.new.out.items (guards-parts (guards c.as_slice-in-Loop-2.result.now)) c.in_ok-push-in-Loop-3.ensures.items c.in_ok-write_guards-in-Loop.ensures ∙
    both_is (pats_code (pats c.as_slice-in-Loop.result.now)) (gcons (guards_code (guards c.as_slice-in-Loop-2.result.now)) (clauses_code (clauses c.as_slice-in-Loop-3.result.now))) c.push-in-Loop.new.self.items c.push-in-Loop-2.new.self.items c.write_patterns.new.out.items (pats-parts (pats c.as_slice-in-Loop.result.now)) c.in_ok-push-in-Loop-2.ensures.items c.in_ok-write_patterns-in-Loop.ensures ∙
    front_is 1 (gcons (pats_code (pats c.as_slice-in-Loop.result.now)) (gcons (guards_code (guards c.as_slice-in-Loop-2.result.now)) (clauses_code (clauses c.as_slice-in-Loop-3.result.now)))) c.args.out.now.items c.push-in-Loop.new.self.items (lit< tt) c.in_ok-push-in-Loop.ensures.items ∙
    like (gcons (gnum 1) (gcons (pats_code (pats c.as_slice-in-Loop.result.now)) (gcons (guards_code (guards c.as_slice-in-Loop-2.result.now)) (clauses_code (clauses c.as_slice-in-Loop-3.result.now))))) (definition_code c.args.definition.now) c.args.out.now.items ((λ i. gcons (gnum 1) (gcons (pats_code (c.as_slice-in-Loop.ensures i)) (gcons (guards_code (c.as_slice-in-Loop-2.ensures i)) (clauses_code (c.as_slice-in-Loop-3.ensures i))))) ∙ sym (ap (λ x. definition_code x) c.in-Loop.is))
    ) c.write_clauses-in-Loop.ensures
