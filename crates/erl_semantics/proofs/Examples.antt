-- Derivations of the examples.
use Rattle.std.specs.Prelude.{refl, false}
use Rattle.erl_term.specs.Tree as term
use Rattle.erl_term.specs.Tree.{Tree}
use Rattle.erl_ir.specs.Expression as form
use Rattle.erl_ir.specs.Expression.{Expr}
use Rattle.erl_semantics.specs.State.{World, Activation, State, value}
use Rattle.erl_semantics.specs.Guards.{all}
use Rattle.erl_semantics.specs.Evaluation.{Eval, Operands}
use Rattle.erl_semantics.specs.Evaluation as rule
use Rattle.erl_semantics.specs.Jobs as job
use Rattle.erl_semantics.specs.Examples.{CallsAreAdded, ZeroDividesNothing, IntegersEnd, OneIsNoTruth, NoClauseFits}
use Rattle.erl_semantics.specs.Examples.{GuardsThatFailAreFalse, VariablesCompare, StartStandsBeforeItsActs}
use Rattle.erl_semantics.specs.Examples.{OtherMessagesAreDropped, SendsBeforeItsReply, RestsWithItsArguments, StartsWithAName}
use Rattle.erl_semantics.specs.Examples.{StopsWithAReply, OddValueIsBad, RestsWithoutReply, StopsByItself}

-- the values of one operand, of two, and of three

one : {w : World} {a : Activation} {e : Expr} {s s1 : State} {t : Tree} → Eval w a false e s (value t) s1 →
    Operands w a (form.more e form.none) s (all (term.more t term.none)) s1
one d = rule.operand d (rule.others (rule.no_operands refl refl) refl)

two : {w : World} {a : Activation} {e f : Expr} {s s1 s2 : State} {t u : Tree} →
    Eval w a false e s (value t) s1 → Eval w a false f s1 (value u) s2 →
    Operands w a (form.more e (form.more f form.none)) s (all (term.more t (term.more u term.none))) s2
two d e = rule.operand d (rule.others (one e) refl)

three : {w : World} {a : Activation} {e f g : Expr} {s s1 s2 s3 : State} {t u v : Tree} →
    Eval w a false e s (value t) s1 → Eval w a false f s1 (value u) s2 → Eval w a false g s2 (value v) s3 →
    Operands w a (form.more e (form.more f (form.more g form.none))) s
    (all (term.more t (term.more u (term.more v term.none)))) s3
three d e f = rule.operand d (rule.others (two e f) refl)

pub calls : CallsAreAdded
calls = job.called (rule.clauses (rule.taken (rule.last (rule.apply (two (rule.literal (refl, refl)) (rule.apply (one
    (rule.apply (two (rule.variable (refl, refl)) (rule.literal (refl, refl))) (rule.operator (refl, refl))))
    (rule.local (rule.called (rule.clauses (rule.taken (rule.last (rule.apply (two (rule.literal (refl, refl))
    (rule.apply (one (rule.apply (two (rule.variable (refl, refl)) (rule.literal (refl, refl)))
    (rule.operator (refl, refl))))
    (rule.local (rule.called (rule.clauses (rule.taken (rule.last (rule.literal (refl, refl))) refl)) refl))))
    (rule.operator (refl, refl)))) refl)) refl)))) (rule.operator (refl, refl)))) refl)) refl

pub divides : ZeroDividesNothing
divides = job.called (rule.clauses (rule.taken (rule.last (rule.apply
    (two (rule.variable (refl, refl)) (rule.variable (refl, refl))) (rule.operator (refl, refl)))) refl)) refl

pub ends : IntegersEnd
ends = job.called (rule.clauses (rule.taken (rule.last (rule.apply
    (two (rule.variable (refl, refl)) (rule.literal (refl, refl))) (rule.operator (refl, refl)))) refl)) refl

pub no_truth : OneIsNoTruth
no_truth = job.called (rule.clauses (rule.taken (rule.last (rule.short_circuit (rule.last (rule.literal (refl, refl)))
    (rule.no_truth refl (refl, refl)))) refl)) refl

pub fits_none : NoClauseFits
fits_none = job.called (rule.clauses (rule.taken (rule.last (rule.case (rule.last (rule.variable (refl, refl)))
    (rule.cased (rule.no_clause (refl, refl))))) refl)) refl

pub rings : SendsBeforeItsReply
rings = job.handled (rule.clauses (rule.taken (rule.next
    (rule.apply (two (rule.literal (refl, refl)) (rule.literal (refl, refl))) (rule.operator (refl, refl)))
    (rule.onward (rule.last (rule.apply
    (three (rule.literal (refl, refl)) (rule.literal (refl, refl)) (rule.variable (refl, refl)))
    (rule.tuple (refl, refl)))))) refl)) refl

pub loops : RestsWithItsArguments
loops = job.received (rule.last (rule.apply (one (rule.variable (refl, refl)))
    (rule.local (rule.called (rule.loop refl (refl, refl)) refl)))) refl

pub starts : StartsWithAName
starts = job.called (rule.clauses (rule.taken (rule.next (rule.match (rule.last (rule.apply
    (three (rule.literal (refl, refl)) (rule.literal (refl, refl))
    (rule.apply (one (rule.literal (refl, refl))) (rule.list (refl, refl))))
    (rule.built_in (rule.built_in_called (rule.starts (rule.started_by (rule.loop refl (refl, refl)) (refl, refl)))))))
    (rule.matched_to (refl, refl)))
    (rule.onward (rule.next (rule.apply (two (rule.literal (refl, refl)) (rule.variable (refl, refl)))
    (rule.built_in (rule.built_in_called (rule.named (refl, refl)))))
    (rule.onward (rule.last (rule.apply (two (rule.literal (refl, refl)) (rule.variable (refl, refl)))
    (rule.tuple (refl, refl)))))))) refl)) refl

pub guards_fail : GuardsThatFailAreFalse
guards_fail = (
  job.called (rule.clauses (rule.taken (rule.last (rule.literal (refl, refl))) refl)) refl,
  job.called (rule.clauses (rule.taken (rule.last (rule.literal (refl, refl))) refl)) refl,
  job.called (rule.clauses (rule.taken (rule.last (rule.literal (refl, refl))) refl)) refl,
)

pub compares : VariablesCompare
compares = (
  job.called (rule.clauses (rule.taken (rule.last (rule.apply (two (rule.variable (refl, refl)) (rule.variable (refl, refl)))
      (rule.tuple (refl, refl)))) refl)) refl,
  job.called (rule.clauses (rule.no_clause (refl, refl))) refl,
)

pub drops : OtherMessagesAreDropped
drops = job.not_exported refl

four : {w : World} {a : Activation} {e f g h : Expr} {s s1 s2 s3 s4 : State} {t u v x : Tree} →
    Eval w a false e s (value t) s1 → Eval w a false f s1 (value u) s2 → Eval w a false g s2 (value v) s3 →
    Eval w a false h s3 (value x) s4 →
    Operands w a (form.more e (form.more f (form.more g (form.more h form.none)))) s
    (all (term.more t (term.more u (term.more v (term.more x term.none))))) s4
four d e f g = rule.operand d (rule.others (three e f g) refl)

pub stands_before : StartStandsBeforeItsActs
stands_before = job.called (rule.clauses (rule.taken
    (rule.next (rule.apply (two (rule.literal (refl, refl)) (rule.literal (refl, refl))) (rule.operator (refl, refl)))
    (rule.onward (rule.next (rule.match (rule.last (rule.apply
    (four (rule.apply (two (rule.literal (refl, refl)) (rule.literal (refl, refl))) (rule.tuple (refl, refl)))
    (rule.literal (refl, refl)) (rule.literal (refl, refl)) (rule.literal (refl, refl)))
    (rule.built_in (rule.built_in_called (rule.starts (rule.started_by (rule.clauses (rule.taken
    (rule.next (rule.apply (two (rule.literal (refl, refl)) (rule.literal (refl, refl))) (rule.operator (refl, refl)))
    (rule.onward (rule.last (rule.apply (two (rule.literal (refl, refl)) (rule.literal (refl, refl)))
    (rule.tuple (refl, refl)))))) refl)) (refl, refl)))))))
    (rule.matched_to (refl, refl)))
    (rule.onward (rule.next (rule.apply (two (rule.literal (refl, refl)) (rule.literal (refl, refl))) (rule.operator (refl, refl)))
    (rule.onward (rule.last (rule.variable (refl, refl))))))))) refl)) refl

pub stops_with_reply : StopsWithAReply
stops_with_reply = job.handled (rule.clauses (rule.taken (rule.last (rule.literal (refl, refl))) refl)) refl

pub odd_is_bad : OddValueIsBad
odd_is_bad = job.handled (rule.clauses (rule.taken (rule.last (rule.literal (refl, refl))) refl)) refl

pub rests_silently : RestsWithoutReply
rests_silently = job.handled (rule.clauses (rule.taken (rule.last (rule.apply
    (two (rule.literal (refl, refl)) (rule.variable (refl, refl))) (rule.tuple (refl, refl)))) refl)) refl

pub stops_itself : StopsByItself
stops_itself = job.handled (rule.clauses (rule.taken (rule.last (rule.literal (refl, refl))) refl)) refl
