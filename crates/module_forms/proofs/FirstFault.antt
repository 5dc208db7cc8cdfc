-- Where the first faulty form begins.
use Rattle.std.proofs.Common.{◌≡◌, ℕ, ◌+◌, ◌≤◌, List, [], ◌∷◌, ◌++◌, length, Some, None, ap, subst, sym, ◌∙◌, refl, arith}
use Rattle.std.proofs.lemmas.Option.{none-some}
use Rattle.erl_scan.specs.declared.token.Spot.{Spot}
use Rattle.erl_ast.specs.declared.leaf.Named.{Named}
use Rattle.erl_ast.specs.declared.form.FormTree.{FormTree}
use Rattle.erl_ast.specs.Terminal.{Terminal, terminals}
use Rattle.erl_ast.specs.Forms.{BeginsForm}
use Rattle.erl_expressions.specs.declared.refusal.Refusal.{Refusal}
use Rattle.erl_expressions.specs.Refusing.{IsToldOf}
use Rattle.erl_expressions.proofs.Strings.{terminals_length}
use Rattle.module_forms.specs.FirstFault.{AreFormsTo, no_head, no_form, IsToldFirst, FaultsBehind}
use Rattle.module_forms.specs.FormReading.{form, module_head}
use Rattle.module_forms.proofs.Sound.{form_sound}
use Rattle.module_forms.proofs.ReadBack.{form_whole}
use Rattle.module_forms.proofs.Modules.{head_sound, head_whole, form_shorter}

one_more : (fs : List FormTree) (ts mid rest : List Terminal) (f : FormTree) → AreFormsTo fs ts mid → BeginsForm f mid rest →
    AreFormsTo (fs ++ f ∷ []) ts rest
one_more [] ts mid rest f are begins = (rest, subst (λ us. BeginsForm f us rest) (sym are) begins, refl)
one_more (g ∷ fs) ts mid rest f are begins = (are.0, are.1, one_more fs are.0 mid rest f are.2 begins)

-- What is kept from turn to turn: these forms stand before what is left, and there is a turn for each token that is left.
pub record AreRead (all left : List Spot) (fs : List FormTree) (turn : ℕ) : Type 0 where
  pub forms : AreFormsTo fs (terminals all) (terminals left)
  pub room : length left + turn ≤ length all

pub none_are_read : (all : List Spot) → AreRead all all [] 0
none_are_read all = record { forms = refl; room = omega arith }

pub one_is_read : (all left rest : List Spot) (fs : List FormTree) (f : FormTree) (turn : ℕ) → AreRead all left fs turn →
    form (terminals left) ≡ Some (f, terminals rest) → AreRead all rest (fs ++ f ∷ []) (turn + 1)
one_is_read all left rest fs f turn are is =
    let begins : BeginsForm f (terminals left) (terminals rest) = form_sound (terminals left) f (terminals rest) is in
    let less = form_shorter f (terminals left) (terminals rest) begins in
    record {
      forms = one_more fs (terminals all) (terminals left) (terminals rest) f are.forms begins;
      room = omega (arith, less, are.room, terminals_length left, terminals_length rest);
    }

pub told_in_form : (all left : List Spot) (fs : List FormTree) (turn : ℕ) (r : Refusal) → AreRead all left fs turn →
    form (terminals left) ≡ None → IsToldOf left r → FaultsBehind (terminals all) r
told_in_form all left fs turn r are nothing told = record {
  forms = fs;
  form = left;
  before = are.forms;
  none_begins = λ f rest begins. none-some (f, rest) (sym nothing ∙ form_whole f (terminals left) rest begins);
  shorter = omega (arith, are.room, terminals_length all);
  told = told;
}

pub told_at_head : (ss : List Spot) (r : Refusal) → module_head (terminals ss) ≡ None → IsToldOf ss r → IsToldFirst ss r
told_at_head ss r nothing told = record {
  form = ss;
  first = no_head refl (λ name at word_at rest is.
      none-some (record { name = name; at = at }, rest) (sym nothing ∙ ap module_head is ∙ head_whole (record { name = name; at = at }) word_at rest));
  shorter = omega arith;
  told = told;
}

pub told_behind_head : (ss us : List Spot) (n : Named) (r : Refusal) → module_head (terminals ss) ≡ Some (n, terminals us) →
    length us ≤ length ss → FaultsBehind (terminals us) r → IsToldFirst ss r
told_behind_head ss us n r is fewer faults =
    let head = head_sound (terminals ss) n (terminals us) is in
    record {
      form = faults.form;
      first = no_form {name = n.name} {at = n.at} {word_at = head.0} {rest = terminals us} faults.forms head.1 faults.before faults.none_begins;
      shorter = omega (arith, faults.shorter, terminals_length us, fewer);
      told = faults.told;
    }
