-- Expressions as ghost values: what a model whose value is expressions needs. The code of an operation is found where the
-- model stands.
use Rattle.std.specs.Prelude.{◌≡◌, ℕ, refl}
use Rattle.std.proofs.Common.{ap, arith, sym, ◌∙◌}
use base.Stored.{Gv, gnil, gnum, gcons, num, Coded}
use Rattle.erl_term.specs.TreeCode.{tree_code, tree_back, tree_back-code}
use Rattle.erl_ir.specs.declared.operation.Operation.{Operation}
use Rattle.erl_ir.specs.declared.operation.Connective.{Connective}
use Rattle.erl_ir.specs.declared.operation.Connective.TheVariants.{AndAlso, OrElse}
use Rattle.erl_ir.specs.Expression.{Expr, Exprs, Guards, Clauses}
use Rattle.erl_ir.specs.Expression.{literal, variable, apply, match, block, case, short_circuit}
use Rattle.erl_ir.specs.Expression.{none, more, no_guards, guard, no_clauses, clause}
use Rattle.erl_ir.specs.PatternCode.{pat_code, pat_back, pat_back-code, pats_code, pats_code-injective}

-- a code's two parts
abbrev pub front : Gv → Gv
front gnil = gnil
front (gnum n) = gnil
front (gcons a b) = a

abbrev pub behind : Gv → Gv
behind gnil = gnil
behind (gnum n) = gnil
behind (gcons a b) = b

-- the number in front of a code; 1 and it in front of a row's
abbrev pub kind : Gv → ℕ
kind g = num (front g)

abbrev pub IsPair : Gv → ℕ
IsPair gnil = 0
IsPair (gnum n) = 0
IsPair (gcons a b) = 1

abbrev pub connective_number : Connective → ℕ
connective_number AndAlso = 0
connective_number OrElse = 1

connective_number-injective : (x y : Connective) → connective_number x ≡ connective_number y → x ≡ y
connective_number-injective AndAlso AndAlso same = refl
connective_number-injective OrElse OrElse same = refl
connective_number-injective AndAlso OrElse same = absurd (omega (arith, same))
connective_number-injective OrElse AndAlso same = absurd (omega (arith, same))

module _ (operations : Coded Operation) where
  abbrev mutual
    pub expr_code : Expr → Gv
    expr_code (literal t) = gcons (gnum 0) (tree_code t)
    expr_code (variable index) = gcons (gnum 1) (gnum index)
    expr_code (apply op es) = gcons (gnum 2) (gcons (operations.code op) (exprs_code es))
    expr_code (match p body) = gcons (gnum 3) (gcons (pat_code p) (exprs_code body))
    expr_code (block body) = gcons (gnum 4) (exprs_code body)
    expr_code (case subject cs) = gcons (gnum 5) (gcons (exprs_code subject) (clauses_code cs))
    expr_code (short_circuit c l r) = gcons (gnum 6) (gcons (gnum (connective_number c)) (gcons (exprs_code l) (exprs_code r)))

    pub exprs_code : Exprs → Gv
    exprs_code none = gnil
    exprs_code (more e es) = gcons (expr_code e) (exprs_code es)

    pub guards_code : Guards → Gv
    guards_code no_guards = gnil
    guards_code (guard tests gs) = gcons (exprs_code tests) (guards_code gs)

    pub clauses_code : Clauses → Gv
    clauses_code no_clauses = gnil
    clauses_code (clause ps gs body cs) =
        gcons (pats_code ps) (gcons (guards_code gs) (gcons (exprs_code body) (clauses_code cs)))

  mutual
    pub expr_code-injective : (x y : Expr) → expr_code x ≡ expr_code y → x ≡ y
    expr_code-injective (literal t) (literal u) same =
        ap literal (sym (tree_back-code t) ∙ ap (λ g. tree_back (behind g)) same ∙ tree_back-code u)
    expr_code-injective (variable m) (variable n) same = ap variable (ap (λ g. num (behind g)) same)
    expr_code-injective (apply o es) (apply p fs) same = λ i. apply (operations.inj o p (ap (λ g. front (behind g)) same) i)
        (exprs_code-injective es fs (ap (λ g. behind (behind g)) same) i)
    expr_code-injective (match p es) (match q fs) same = λ i. match
        ((sym (pat_back-code p) ∙ ap (λ g. pat_back (front (behind g))) same ∙ pat_back-code q) i)
        (exprs_code-injective es fs (ap (λ g. behind (behind g)) same) i)
    expr_code-injective (block es) (block fs) same = ap block (exprs_code-injective es fs (ap behind same))
    expr_code-injective (case es cs) (case fs ds) same = λ i. case
        (exprs_code-injective es fs (ap (λ g. front (behind g)) same) i)
        (clauses_code-injective cs ds (ap (λ g. behind (behind g)) same) i)
    expr_code-injective (short_circuit c es fs) (short_circuit d gs hs) same = λ i. short_circuit
        (connective_number-injective c d (ap (λ g. num (front (behind g))) same) i)
        (exprs_code-injective es gs (ap (λ g. front (behind (behind g))) same) i)
        (exprs_code-injective fs hs (ap (λ g. behind (behind (behind g))) same) i)
    expr_code-injective _ _ same = absurd (omega (arith, ap kind same))

    pub exprs_code-injective : (x y : Exprs) → exprs_code x ≡ exprs_code y → x ≡ y
    exprs_code-injective none none same = refl
    exprs_code-injective (more e es) (more f fs) same = λ i. more
        (expr_code-injective e f (ap front same) i) (exprs_code-injective es fs (ap behind same) i)
    exprs_code-injective _ _ same = absurd (omega (arith, ap IsPair same))

    pub guards_code-injective : (x y : Guards) → guards_code x ≡ guards_code y → x ≡ y
    guards_code-injective no_guards no_guards same = refl
    guards_code-injective (guard e es) (guard f fs) same = λ i. guard
        (exprs_code-injective e f (ap front same) i) (guards_code-injective es fs (ap behind same) i)
    guards_code-injective _ _ same = absurd (omega (arith, ap IsPair same))

    pub clauses_code-injective : (x y : Clauses) → clauses_code x ≡ clauses_code y → x ≡ y
    clauses_code-injective no_clauses no_clauses same = refl
    clauses_code-injective (clause ps g es cs) (clause qs h fs ds) same = λ i. clause
        (pats_code-injective ps qs (ap front same) i)
        (guards_code-injective g h (ap (λ x. front (behind x)) same) i)
        (exprs_code-injective es fs (ap (λ x. front (behind (behind x))) same) i)
        (clauses_code-injective cs ds (ap (λ x. behind (behind (behind x))) same) i)
    clauses_code-injective _ _ same = absurd (omega (arith, ap IsPair same))

  abbrev pub exprs_coded : Coded Exprs
  exprs_coded = record { code = exprs_code; inj = exprs_code-injective }

  abbrev pub guards_coded : Coded Guards
  guards_coded = record { code = guards_code; inj = guards_code-injective }

  abbrev pub clauses_coded : Coded Clauses
  clauses_coded = record { code = clauses_code; inj = clauses_code-injective }
