-- Patterns as ghost values: what a model whose value is patterns needs.
use Rattle.std.specs.Prelude.{◌≡◌, ℕ}
use Rattle.std.proofs.Common.{ap, sym, ◌∙◌}
use base.Stored.{Gv, gnil, gnum, gcons, num, Coded}
use Rattle.erl_term.specs.TreeCode.{tree_code, tree_back, tree_back-code}
use Rattle.erl_ir.specs.Pattern.{Pat, Pats, literal, variable, anything, tuple, list, cons, alias, none, more}
use Rattle.std.specs.Prelude.{cond, eqb, refl}

abbrev mutual
  pub pat_code : Pat → Gv
  pat_code (literal t) = gcons (gnum 0) (tree_code t)
  pat_code (variable index) = gcons (gnum 1) (gnum index)
  pat_code anything = gcons (gnum 2) gnil
  pat_code (tuple ps) = gcons (gnum 3) (pats_code ps)
  pat_code (list ps) = gcons (gnum 4) (pats_code ps)
  pat_code (cons ps) = gcons (gnum 5) (pats_code ps)
  pat_code (alias ps) = gcons (gnum 6) (pats_code ps)

  pub pats_code : Pats → Gv
  pats_code none = gnil
  pats_code (more p ps) = gcons (pat_code p) (pats_code ps)

-- the pattern of a kind's number, what is behind it, and the row that this would be
abbrev pub pat_of : ℕ → Gv → Pats → Pat
pat_of kind g ps =
    cond (eqb kind 0) (literal (tree_back g)) (cond (eqb kind 1) (variable (num g)) (cond (eqb kind 2) anything
    (cond (eqb kind 3) (tuple ps) (cond (eqb kind 4) (list ps) (cond (eqb kind 5) (cons ps) (alias ps))))))

abbrev mutual
  pub pat_back : Gv → Pat
  pat_back gnil = anything
  pat_back (gnum n) = anything
  pat_back (gcons kind g) = pat_of (num kind) g (pats_back g)

  pub pats_back : Gv → Pats
  pats_back gnil = none
  pats_back (gnum n) = none
  pats_back (gcons p ps) = more (pat_back p) (pats_back ps)

mutual
  pub pat_back-code : (p : Pat) → pat_back (pat_code p) ≡ p
  pat_back-code (literal t) = ap literal (tree_back-code t)
  pat_back-code (variable index) = refl
  pat_back-code anything = refl
  pat_back-code (tuple ps) = ap tuple (pats_back-code ps)
  pat_back-code (list ps) = ap list (pats_back-code ps)
  pat_back-code (cons ps) = ap cons (pats_back-code ps)
  pat_back-code (alias ps) = ap alias (pats_back-code ps)

  pub pats_back-code : (ps : Pats) → pats_back (pats_code ps) ≡ ps
  pats_back-code none = refl
  pats_back-code (more p ps) =
      ap (λ q. more q (pats_back (pats_code ps))) (pat_back-code p) ∙ ap (λ qs. more p qs) (pats_back-code ps)

pub pats_code-injective : (x y : Pats) → pats_code x ≡ pats_code y → x ≡ y
pats_code-injective x y same = sym (pats_back-code x) ∙ ap pats_back same ∙ pats_back-code y

abbrev pub pats_coded : Coded Pats
pats_coded = record { code = pats_code; inj = pats_code-injective }
