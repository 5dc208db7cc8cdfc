-- Lemmas on rows of patterns: a row tells its patterns, and none of them is deeper than the row.
use Rattle.std.proofs.Common.{◌≡◌, ℕ, ◌+◌, ◌<◌, ◌≤◌, List, [], ◌∷◌, ◌++◌, max, length, get_or, take, zero, suc, sym, ap, ◌∙◌, subst, refl, arith}
use Rattle.std.proofs.lemmas.List.{take_more}
use Rattle.erl_term.specs.Term.{term_of, term_of-tree}
use Rattle.erl_ir.specs.declared.pattern.Pattern.{Pattern}
use Rattle.erl_ir.specs.declared.pattern.Pattern.TheVariants as patterns
use Rattle.erl_ir.specs.Pattern.{Pat, Pats, literal, variable, anything, tuple, list, cons, alias, none, more, pat_depth, pats_depth}
use Rattle.erl_ir.specs.PatternForms.{pat, pats}

-- the way back
abbrev pub pattern_of : Pat → Pattern
pattern_of (literal t) = patterns.Literal (term_of t)
pattern_of (variable index) = patterns.Variable index
pattern_of anything = patterns.Anything
pattern_of (tuple ps) = patterns.Tuple ps
pattern_of (list ps) = patterns.List ps
pattern_of (cons ps) = patterns.Cons ps
pattern_of (alias ps) = patterns.Alias ps

abbrev pub patterns_of : Pats → List Pattern
patterns_of none = []
patterns_of (more p ps) = pattern_of p ∷ patterns_of ps

pub pattern_of-pat : (p : Pattern) → pattern_of (pat p) ≡ p
pattern_of-pat (patterns.Literal t) = ap patterns.Literal (term_of-tree t)
pattern_of-pat (patterns.Variable index) = refl
pattern_of-pat patterns.Anything = refl
pattern_of-pat (patterns.Tuple ps) = refl
pattern_of-pat (patterns.List ps) = refl
pattern_of-pat (patterns.Cons ps) = refl
pattern_of-pat (patterns.Alias ps) = refl

patterns_of-pats : (ps : List Pattern) → patterns_of (pats ps) ≡ ps
patterns_of-pats [] = refl
patterns_of-pats (p ∷ ps) = ap (λ q. q ∷ patterns_of (pats ps)) (pattern_of-pat p) ∙ ap (λ qs. p ∷ qs) (patterns_of-pats ps)

pub pats-same : (ps qs : List Pattern) → pats ps ≡ pats qs → ps ≡ qs
pats-same ps qs same = sym (patterns_of-pats ps) ∙ ap patterns_of same ∙ patterns_of-pats qs

depth_at : (items : List Pattern) (i : ℕ) (p : Pattern) → i < length items → pat_depth (pat (get_or items i p)) ≤ pats_depth (pats items)
depth_at [] i p within = absurd (omega arith)
depth_at (q ∷ qs) zero p within = omega arith
depth_at (q ∷ qs) (suc i) p within = omega (arith, depth_at qs i p (omega arith))

pub depth_in : (items : List Pattern) (i : ℕ) (p : Pattern) → i < length items → p ≡ get_or items i p →
    pat_depth (pat p) ≤ pats_depth (pats items)
depth_in items i p within is =
    subst (λ q. pat_depth (pat q) ≤ pats_depth (pats items)) (sym is) (depth_at items i p within)

-- one pattern more
push : (ps : List Pattern) (p : Pattern) → pats_depth (pats (ps ++ p ∷ [])) ≡ max (pats_depth (pats ps)) (pat_depth (pat p))
push [] p = omega arith
push (q ∷ qs) p = omega (arith, push qs p)

pub depth_more : (items : List Pattern) (i : ℕ) (p : Pattern) → i < length items → p ≡ get_or items i p →
    pats_depth (pats (take (i + 1) items)) ≡ max (pats_depth (pats (take i items))) (pat_depth (pat p))
depth_more items i p within is =
    ap (λ qs. pats_depth (pats qs)) (take_more items i p within ∙ ap (λ q. take i items ++ q ∷ []) (sym is)) ∙ push (take i items) p
