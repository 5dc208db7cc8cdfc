-- The first character tells which word the text can be.
use Rattle.std.proofs.Common.{Some, refl, sym, ap, ◌∙◌, ◌≡◌, arith}
use Rattle.erl_chars.specs.Cursor.{first_of}
use Rattle.erl_scan.specs.declared.word.Word.TheVariants.{After, And, AndAlso, BitAnd, Begin, BitNot, BitOr, ShiftLeft, ShiftRight, BitXor, Case, Catch, Cond, Div, End, Fun, If, Let, Not, Of, Or, OrElse, Receive, Rem, Try, When, Xor}
use Rattle.erl_scan.proofs.Reserved.{letter, is_only, is_none_else, is_no_text}
use Rattle.erl_scan.proofs.word.Word.reserved.Goals as goal

pub returns-in_err-first : goal.returns-in_err-first
returns-in_err-first c =
    c.from_residual.ensures ∙ is_no_text c.args.text.now (sym c.in_err-first.was ∙ c.peek.ensures ∙ ap first_of c.new.ensures.left)

pub returns-in-d : goal.returns-in-d
returns-in-d c =
    is_only Div 100 c.args.text.now c.only.result c.utf8.text (sym (ap first_of c.new.ensures.left) ∙ sym c.peek.ensures ∙ c.in_ok-first.was ∙ ap Some c.in-d.is) refl c.only.ensures

pub returns-in-e : goal.returns-in-e
returns-in-e c =
    is_only End 101 c.args.text.now c.only-in-e.result c.utf8.text (sym (ap first_of c.new.ensures.left) ∙ sym c.peek.ensures ∙ c.in_ok-first.was ∙ ap Some c.in-e.is) refl c.only-in-e.ensures

pub returns-in-f : goal.returns-in-f
returns-in-f c =
    is_only Fun 102 c.args.text.now c.only-in-f.result c.utf8.text (sym (ap first_of c.new.ensures.left) ∙ sym c.peek.ensures ∙ c.in_ok-first.was ∙ ap Some c.in-f.is) refl c.only-in-f.ensures

pub returns-in-i : goal.returns-in-i
returns-in-i c =
    is_only If 105 c.args.text.now c.only-in-i.result c.utf8.text (sym (ap first_of c.new.ensures.left) ∙ sym c.peek.ensures ∙ c.in_ok-first.was ∙ ap Some c.in-i.is) refl c.only-in-i.ensures

pub returns-in-l : goal.returns-in-l
returns-in-l c =
    is_only Let 108 c.args.text.now c.only-in-l.result c.utf8.text (sym (ap first_of c.new.ensures.left) ∙ sym c.peek.ensures ∙ c.in_ok-first.was ∙ ap Some c.in-l.is) refl c.only-in-l.ensures

pub returns-in-n : goal.returns-in-n
returns-in-n c =
    is_only Not 110 c.args.text.now c.only-in-n.result c.utf8.text (sym (ap first_of c.new.ensures.left) ∙ sym c.peek.ensures ∙ c.in_ok-first.was ∙ ap Some c.in-n.is) refl c.only-in-n.ensures

pub returns-in-t : goal.returns-in-t
returns-in-t c =
    is_only Try 116 c.args.text.now c.only-in-t.result c.utf8.text (sym (ap first_of c.new.ensures.left) ∙ sym c.peek.ensures ∙ c.in_ok-first.was ∙ ap Some c.in-t.is) refl c.only-in-t.ensures

pub returns-in-w : goal.returns-in-w
returns-in-w c =
    is_only When 119 c.args.text.now c.only-in-w.result c.utf8.text (sym (ap first_of c.new.ensures.left) ∙ sym c.peek.ensures ∙ c.in_ok-first.was ∙ ap Some c.in-w.is) refl c.only-in-w.ensures

pub returns-in-x : goal.returns-in-x
returns-in-x c =
    is_only Xor 120 c.args.text.now c.only-in-x.result c.utf8.text (sym (ap first_of c.new.ensures.left) ∙ sym c.peek.ensures ∙ c.in_ok-first.was ∙ ap Some c.in-x.is) refl c.only-in-x.ensures

pub returns-in_default : goal.returns-in_default
returns-in_default c =
    is_none_else c.in_ok-first.first c.args.text.now c.utf8.text (sym (ap first_of c.new.ensures.left) ∙ sym c.peek.ensures ∙ c.in_ok-first.was) (λ w. elim w as (λ v. letter v ≡ c.in_ok-first.first → ⊥) [ After ↦ (λ e. omega arith) | And ↦ (λ e. omega arith) | AndAlso ↦ (λ e. omega arith) | BitAnd ↦ (λ e. omega arith) | Begin ↦ (λ e. omega arith) | BitNot ↦ (λ e. omega arith) | BitOr ↦ (λ e. omega arith) | ShiftLeft ↦ (λ e. omega arith) | ShiftRight ↦ (λ e. omega arith) | BitXor ↦ (λ e. omega arith) | Case ↦ (λ e. omega arith) | Catch ↦ (λ e. omega arith) | Cond ↦ (λ e. omega arith) | Div ↦ (λ e. omega arith) | End ↦ (λ e. omega arith) | Fun ↦ (λ e. omega arith) | If ↦ (λ e. omega arith) | Let ↦ (λ e. omega arith) | Not ↦ (λ e. omega arith) | Of ↦ (λ e. omega arith) | Or ↦ (λ e. omega arith) | OrElse ↦ (λ e. omega arith) | Receive ↦ (λ e. omega arith) | Rem ↦ (λ e. omega arith) | Try ↦ (λ e. omega arith) | When ↦ (λ e. omega arith) | Xor ↦ (λ e. omega arith) ])
