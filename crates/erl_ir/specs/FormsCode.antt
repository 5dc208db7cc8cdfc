-- Definitions, functions and modules as ghost values.
use Rattle.std.specs.Prelude.{◌≡◌, ℕ, pos, negsuc, Option, None, Some, List, [], ◌∷◌, ◌++◌, refl}
use Rattle.std.proofs.Common.{ap, arith, sym, ◌∙◌}
use base.Stored.{Gv, gnil, gnum, gcons, num}
use Rattle.erl_term.specs.declared.term.Term.{Term}
use Rattle.erl_term.specs.declared.term.Term.TheVariants.{Int, Atom, Pid, Tuple, List as ListOf}
use Rattle.erl_term.specs.Term.{tree, term_of, term_of-tree}
use Rattle.erl_term.specs.TreeCode.{chars_code, chars_back, chars_back-code, tree_code, tree_back, tree_back-code}
use Rattle.erl_ir.specs.declared.function.Definition.{Definition}
use Rattle.erl_ir.specs.declared.function.Definition.TheVariants as definition
use Rattle.erl_ir.specs.declared.function.Function.{Function}
use Rattle.erl_ir.specs.Expression.{Expr, Exprs, Guards, Clauses}
use Rattle.erl_ir.specs.PatternCode.{pats_code, pats_code-injective}
use Rattle.erl_ir.specs.ExpressionCode as row
use Rattle.erl_ir.specs.ExpressionCode.{front, behind, kind, IsPair}
use Rattle.erl_ir.specs.Module.{Key, Forms}
use Rattle.erl_ir.specs.ModuleBytes.{written}
use Rattle.erl_ir.specs.OperationCode.{operation_coded, flag, flag_of, flag_of-flag}

abbrev pub expr_code : Expr → Gv
expr_code e = row.expr_code operation_coded e

abbrev pub exprs_code : Exprs → Gv
exprs_code es = row.exprs_code operation_coded es

abbrev pub guards_code : Guards → Gv
guards_code gs = row.guards_code operation_coded gs

abbrev pub clauses_code : Clauses → Gv
clauses_code cs = row.clauses_code operation_coded cs

abbrev pub definition_code : Definition → Gv
definition_code (definition.Clauses cs) = gcons (gnum 0) (clauses_code cs)
definition_code (definition.Loop ps g cs) = gcons (gnum 1) (gcons (pats_code ps) (gcons (guards_code g) (clauses_code cs)))

definition_code-injective : (x y : Definition) → definition_code x ≡ definition_code y → x ≡ y
definition_code-injective (definition.Clauses cs) (definition.Clauses ds) same =
    ap definition.Clauses (row.clauses_code-injective operation_coded cs ds (ap behind same))
definition_code-injective (definition.Loop ps g cs) (definition.Loop qs h ds) same = λ i. definition.Loop
    (pats_code-injective ps qs (ap (λ x. front (behind x)) same) i)
    (row.guards_code-injective operation_coded g h (ap (λ x. front (behind (behind x))) same) i)
    (row.clauses_code-injective operation_coded cs ds (ap (λ x. behind (behind (behind x))) same) i)
definition_code-injective _ _ same = absurd (omega (arith, ap kind same))

-- a function under its name and number of arguments
abbrev pub entry_code : Key × Function → Gv
entry_code e = gcons (chars_code e.0.0) (gcons (gnum e.0.1) (gcons (gnum (flag e.1.exported)) (definition_code e.1.definition)))

chars_code-injective : (x y : List ℕ) → chars_code x ≡ chars_code y → x ≡ y
chars_code-injective x y same = sym (chars_back-code x) ∙ ap chars_back same ∙ chars_back-code y

entry_code-injective : (x y : Key × Function) → entry_code x ≡ entry_code y → x ≡ y
entry_code-injective x y same =
    let name : x.0.0 ≡ y.0.0 = chars_code-injective x.0.0 y.0.0 (ap front same) in
    let arity : x.0.1 ≡ y.0.1 = ap (λ g. num (front (behind g))) same in
    let exported : x.1.exported ≡ y.1.exported = sym (flag_of-flag x.1.exported) ∙
    ap (λ g. flag_of (num (front (behind (behind g))))) same ∙ flag_of-flag y.1.exported in
    let body : x.1.definition ≡ y.1.definition = definition_code-injective x.1.definition y.1.definition
    (ap (λ g. behind (behind (behind g))) same) in
    λ i. ((name i, arity i), record { exported = exported i; definition = body i })

-- functions in a row
abbrev pub functions_code : List (Key × Function) → Gv
functions_code [] = gnil
functions_code (f ∷ fs) = gcons (entry_code f) (functions_code fs)

-- the bytes of functions that others may follow, behind other bytes
abbrev pub begun : List (Key × Function) → List ℕ → List ℕ
begun [] out = out
begun (f ∷ fs) out = begun fs (written (entry_code f) (out ++ 1 ∷ []))

functions_code-injective : (x y : List (Key × Function)) → functions_code x ≡ functions_code y → x ≡ y
functions_code-injective [] [] same = refl
functions_code-injective (f ∷ fs) (g ∷ gs) same = λ i.
    entry_code-injective f g (ap front same) i ∷ functions_code-injective fs gs (ap behind same) i
functions_code-injective _ _ same = absurd (omega (arith, ap IsPair same))

-- the term of an attribute, if there is one
abbrev pub vsn_code : Option Term → Gv
vsn_code None = gnil
vsn_code (Some t) = tree_code (tree t)

tree_is_pair : (t : Term) → IsPair (tree_code (tree t)) ≡ 1
tree_is_pair (Int (pos n)) = refl
tree_is_pair (Int (negsuc n)) = refl
tree_is_pair (Atom name) = refl
tree_is_pair (Pid n) = refl
tree_is_pair (Tuple ts) = refl
tree_is_pair (ListOf ts) = refl

vsn_code-injective : (x y : Option Term) → vsn_code x ≡ vsn_code y → x ≡ y
vsn_code-injective None None same = refl
vsn_code-injective (Some t) (Some u) same = ap Some (sym (term_of-tree t) ∙
    ap term_of (sym (tree_back-code (tree t)) ∙ ap tree_back same ∙ tree_back-code (tree u)) ∙ term_of-tree u)
vsn_code-injective None (Some u) same = absurd (omega (arith, ap IsPair same, tree_is_pair u))
vsn_code-injective (Some t) None same = absurd (omega (arith, ap IsPair same, tree_is_pair t))

-- a module: its functions, its name and the term of its attribute `-vsn`
abbrev pub forms_code : Forms → Gv
forms_code m = gcons (functions_code m.functions) (gcons (chars_code m.name) (vsn_code m.vsn))

-- the bytes of a module
abbrev pub forms_bytes : Forms → List ℕ
forms_bytes m = written (forms_code m) []

pub forms_code-injective : (x y : Forms) → forms_code x ≡ forms_code y → x ≡ y
forms_code-injective x y same =
    let functions : x.functions ≡ y.functions = functions_code-injective x.functions y.functions (ap front same) in
    let name : x.name ≡ y.name = chars_code-injective x.name y.name (ap (λ g. front (behind g)) same) in
    let vsn : x.vsn ≡ y.vsn = vsn_code-injective x.vsn y.vsn (ap (λ g. behind (behind g)) same) in
    λ i. record { name = name i; vsn = vsn i; functions = functions i }
