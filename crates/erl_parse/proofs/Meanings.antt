-- Bytes mean one module at most, and what is told of them says that they mean none.
use Rattle.std.proofs.Common.{◌≡◌, ℕ, ◌≤◌, List, [], ◌∷◌, length, Option, Some, None, ap, subst, sym, ◌∙◌, refl, arith}
use Rattle.std.specs.Prelude.{Result, Ok, Err, IfErr}
use Rattle.std.proofs.lemmas.Option.{none-some}
use Rattle.std.specs.Str.{chars, IsUtf8}
use Rattle.erl_chars.proofs.Characters.{one-reading}
use Rattle.erl_scan.specs.declared.error.ReadError.{ReadError}
use Rattle.erl_scan.specs.declared.token.Spot.{Spot}
use Rattle.erl_scan.specs.Scan.{IsScanOf}
use Rattle.erl_scan.proofs.WholeTexts.{one_scan}
use Rattle.erl_ast.specs.declared.form.ModuleTree.{ModuleTree}
use Rattle.erl_ast.specs.declared.form.FormTree.{FormTree}
use Rattle.erl_ast.specs.Terminal.{Terminal, terminals}
use Rattle.erl_ast.specs.Forms.{IsModule, AreForms}
use Rattle.erl_expressions.specs.declared.refusal.Refusal.{Refusal}
use Rattle.module_forms.specs.Brackets.{innermost}
use Rattle.module_forms.specs.FirstFault.{AreFormsTo, Reaches, at_head, at_form, IsFirstFaulty, no_head, no_form, IsToldFirst}
use Rattle.erl_lint.specs.declared.fault.StaticFault.{StaticFault}
use Rattle.erl_lint.specs.First.{IsFirstFault}
use Rattle.erl_lint.specs.Faults.{faults_of}
use Rattle.module_forms.proofs.Modules.{one_module}
use Rattle.erl_lower.specs.Meaning.{IsMeaning}
use Rattle.erl_parse.proofs.Apart.{functions_apart}
use Rattle.erl_parse.specs.declared.error.LangError.{LangError}
use Rattle.erl_parse.specs.Sources.{IsWritten, IsNoSource, OneModule, FaultlessMean}
use Rattle.erl_parse.specs.Telling.{StopsAt, AreNoModule, EndsInForm, Says, not_utf8, faulty, misplaced, unclosed, no_dot, static}
use Rattle.erl_parse.specs.Telling.{cut_off, TellsEnd, stopped, at_end, TellsRefusal, at_token, of_end, TellsTokens, TellsTree, has_fault, has_no_meaning}
use Rattle.values.specs.Failure.{Fails}
use Rattle.values.specs.declared.failure.Failure.{Failure}
use Rattle.values.specs.declared.failure.Failure.TheVariants.{Refused, Memory}

-- a text has one list of tokens and one stop
tokens_one : (cs : List ℕ) (ts us : List Spot) (s t : Option ReadError) → IsScanOf cs ts s → IsScanOf cs us t → (ts ≡ us) × (s ≡ t)
tokens_one cs ts us s t one other =
    let all = one_scan one-reading cs in
    let a = all.only ts s one in
    let b = all.only us t other in
    (a.0 ∙ sym b.0, a.1 ∙ sym b.1)

-- bytes are written as one module
tree_one : (bytes : List ℕ) (t u : ModuleTree) → IsWritten bytes t → IsWritten bytes u → t ≡ u
tree_one bytes t u one other =
    let same = tokens_one (chars bytes) other.tokens one.tokens None None other.scan one.scan in
    one_module (terminals one.tokens) t u one.is_module
    (subst (λ ts. IsModule (terminals ts) u) same.0 other.is_module)

pub one_meaning : OneModule
one_meaning bytes m n one other =
    let same = tree_one bytes other.tree one.tree other.written one.written in
    let means : IsMeaning one.tree n = subst (λ t. IsMeaning t n) same other.means in
    one.means.1 ∙ sym means.1

-- and a module without static fault means one
pub faultless_mean : FaultlessMean
faultless_mean bytes tree written none = record {
  tree = tree;
  written = written;
  faultless = none;
  means = (functions_apart tree written.is_module.1 written.is_module.3 none, refl);
}

-- what stands against bytes that mean a module

against_stop : (bytes : List ℕ) (e : ReadError) → StopsAt bytes e → IsNoSource bytes
against_stop bytes e stops m source =
    none-some e (sym (tokens_one (chars bytes) stops.tokens source.written.tokens (Some e) None stops.scan source.written.scan).1)

against_tokens : (bytes : List ℕ) (stop : Option ReadError) (tokens form : List Spot) → AreNoModule bytes stop tokens form → IsNoSource bytes
against_tokens bytes stop tokens form none m source =
    let same = tokens_one (chars bytes) source.written.tokens tokens None stop source.written.scan none.scan in
    none.none source.tree (subst (λ ts. IsModule (terminals ts) source.tree) same.0 source.written.is_module)

against_fault : (bytes : List ℕ) (f : StaticFault) (tree : ModuleTree) → IsWritten bytes tree → IsFirstFault (Some f) (faults_of tree) → IsNoSource bytes
against_fault bytes f tree written first m source =
    let same = tree_one bytes tree source.tree written source.written in
    let empty : length (faults_of tree) ≡ 0 = ap (λ t. length (faults_of t)) same ∙ ap length source.faultless in
    omega (arith, empty, first.0.1)

pub says_none : (bytes : List ℕ) (error : LangError) → Says bytes error → IsNoSource bytes
says_none bytes error (not_utf8 is none valid) = λ m source. none source.written.utf8
says_none bytes error (faulty {e} is stops) = against_stop bytes e stops
says_none bytes error (misplaced reason is there) = against_tokens bytes there.stop there.tokens there.form there.no_module
says_none bytes error (unclosed is ends) = against_tokens bytes None ends.tokens ends.form ends.no_module
says_none bytes error (no_dot is ends) = against_tokens bytes None ends.tokens ends.form ends.no_module
says_none bytes error (static {fault} is first) = against_fault bytes fault first.tree first.written first.first

-- what is told of tokens and of trees, as told of the bytes

-- what stands before the first form that is none, and before the end of a module

reached_by : (ts form : List Terminal) → IsFirstFaulty ts form → Reaches ts form
reached_by ts form (no_head is none) = at_head is
reached_by ts form (no_form {name} {at} {word_at} {rest} fs is before none) =
    at_form {name = name} {at = at} {word_at = word_at} {rest = rest} fs is before

all_forms_to : (fs : List FormTree) (ts : List Terminal) → AreForms fs ts → AreFormsTo fs ts []
all_forms_to [] ts are = are
all_forms_to (f ∷ fs) ts are = (are.0, are.1, all_forms_to fs are.0 are.2)

reached_end : (ts : List Terminal) (tree : ModuleTree) → IsModule ts tree → Reaches ts []
reached_end ts tree is =
    at_form {name = tree.name.name} {at = tree.name.at} {word_at = is.0} {rest = is.1} tree.forms is.2 (all_forms_to tree.forms is.1 is.3)

pub stops_behind : (bytes : List ℕ) (tokens : List Spot) (tree : ModuleTree) (e : ReadError) → IsUtf8 bytes →
    IsScanOf (chars bytes) tokens (Some e) → IsModule (terminals tokens) tree → StopsAt bytes e
stops_behind bytes tokens tree e utf8 scan is = record {
  utf8 = utf8;
  tokens = tokens;
  scan = scan;
  form = [];
  reached = reached_end (terminals tokens) tree is;
  no_dot = refl;
}

module _ (bytes : List ℕ) (tokens : List Spot) (stop : Option ReadError) (error : LangError) (utf8 : IsUtf8 bytes)
    (scan : IsScanOf (chars bytes) tokens stop) (none : (tree : ModuleTree) → IsModule (terminals tokens) tree → ⊥)
    (r : Refusal) (first : IsToldFirst tokens r) where
  are_none : AreNoModule bytes stop tokens first.form
  are_none = record { utf8 = utf8; scan = scan; none = none; first = first.first }

  ends_in : stop ≡ None → r.left ≡ 0 → (bracket : Option ℕ) → innermost tokens ≡ bracket → EndsInForm bytes bracket
  ends_in is zero bracket there = record {
    tokens = tokens;
    form = first.form;
    no_module = subst (λ s. AreNoModule bytes s tokens first.form) is are_none;
    no_dot = omega (arith, zero, first.told.before_dot);
    is_innermost = there;
  }

  cut_says : stop ≡ None → r.left ≡ 0 → (bracket : Option ℕ) → innermost tokens ≡ bracket → error ≡ cut_off bracket (length bytes) →
      Says bytes error
  cut_says is zero (Some at) there told = unclosed {at = at} told (ends_in is zero (Some at) there)
  cut_says is zero None there told = no_dot told (ends_in is zero None there)

  end_says : r.left ≡ 0 → TellsEnd tokens stop (length bytes) error → Says bytes error
  end_says zero (stopped {e} is told) = faulty {e = e} told (record {
    utf8 = utf8;
    tokens = tokens;
    scan = subst (IsScanOf (chars bytes) tokens) is scan;
    form = first.form;
    reached = reached_by (terminals tokens) (terminals first.form) first.first;
    no_dot = omega (arith, zero, first.told.before_dot);
  })
  end_says zero (at_end is told) = cut_says is zero (innermost tokens) refl told

  refused_says : TellsRefusal tokens r stop (length bytes) error → Says bytes error
  refused_says (of_end zero ends) = end_says zero ends
  refused_says (at_token {spot} stands told) = misplaced r.reason {at = spot.at} told (record {
    stop = stop;
    tokens = tokens;
    form = first.form;
    no_module = are_none;
    spot = spot;
    left = r.left;
    stands = stands;
    behind_start = first.told.within;
    before_dot = first.told.before_dot;
    offset = refl;
  })

pub tokens_say : (bytes : List ℕ) (tokens : List Spot) (stop : Option ReadError) (error : LangError) → IsUtf8 bytes →
    IsScanOf (chars bytes) tokens stop → TellsTokens tokens stop (length bytes) error → Says bytes error
tokens_say bytes tokens stop error utf8 scan tells =
    refused_says bytes tokens stop error utf8 scan tells.none tells.refusal tells.first tells.told

pub tree_says : (bytes : List ℕ) (tree : ModuleTree) (error : LangError) → IsWritten bytes tree → TellsTree tree error → Says bytes error
tree_says bytes tree error written (has_fault is first) = static is (record { tree = tree; written = written; first = first })
tree_says bytes tree error written (has_no_meaning none nothing is) =
    absurd (nothing (functions_apart tree written.is_module.1 written.is_module.3 none))

-- the same of results, of which lack of memory says nothing

pub token_results_say : {A : Type 0} (bytes : List ℕ) (tokens : List Spot) (stop : Option ReadError) → IsUtf8 bytes →
    IsScanOf (chars bytes) tokens stop → (r : Result A (Failure LangError)) →
    IfErr r (Fails (TellsTokens tokens stop (length bytes)) (Unit {0})) → IfErr r (Fails (Says bytes) (Unit {0}))
token_results_say bytes tokens stop utf8 scan (Ok x) told = told
token_results_say bytes tokens stop utf8 scan (Err (Refused e)) told = tokens_say bytes tokens stop e utf8 scan told
token_results_say bytes tokens stop utf8 scan (Err Memory) told = told

pub results_say : {A : Type 0} (bytes : List ℕ) (tree : ModuleTree) → IsWritten bytes tree → (r : Result A (Failure LangError)) →
    IfErr r (Fails (TellsTree tree) (Unit {0})) → IfErr r (Fails (Says bytes) (Unit {0}))
results_say bytes tree written (Ok x) told = told
results_say bytes tree written (Err (Refused e)) told = tree_says bytes tree e written told
results_say bytes tree written (Err Memory) told = told

pub errors_deny : {A : Type 0} (bytes : List ℕ) (r : Result A (Failure LangError)) → IfErr r (Fails (Says bytes) (Unit {0})) →
    IfErr r (Fails (λ _. IsNoSource bytes) (Unit {0}))
errors_deny bytes (Ok x) said = said
errors_deny bytes (Err (Refused e)) said = says_none bytes e said
errors_deny bytes (Err Memory) said = said
