-- Rows of patterns that are matched one by one.
use Rattle.std.specs.Prelude.{◌≡◌, ℕ, zero, suc, ◌<◌, ◌≤◌, List, [], ◌∷◌, ◌++◌, length, take, drop, slice_get, refl}
use Rattle.std.specs.Prelude.{Option, None, Some, option_and_then}
use Rattle.std.proofs.Common.{arith, ap, sym, subst, ◌∙◌}
use Rattle.erl_term.specs.declared.term.Term.{Term}
use Rattle.erl_term.specs.Term.{tree, trees}
use Rattle.erl_term.specs.Tree.{Tree, Trees}
use Rattle.erl_term.specs.Tree as term
use Rattle.erl_ir.specs.declared.pattern.Pattern.{Pattern}
use Rattle.erl_ir.specs.PatternForms.{pat, pats}
use Rattle.erl_term.specs.Parts.{behind}
use Rattle.erl_ir.specs.Pattern.{pat_depth, pats_depth}
use Rattle.erl_semantics.specs.Bindings.{rest_behind}
use Rattle.erl_semantics.specs.Matching.{matched, matched_each, matched_front, matched_all}
use Rattle.erl_semantics.proofs.Options.{some_none, some_injective}

-- what is matched of a row after one more

pub each_step : (ps : List Pattern) (ts : List Term) (i : ℕ) (p : Pattern) (t : Term) (env : List Tree) →
    slice_get ps i ≡ Some p → slice_get ts i ≡ Some t →
    matched_each (pats (drop i ps)) (trees (drop i ts)) env ≡
    option_and_then (λ after. matched_each (pats (drop (suc i) ps)) (trees (drop (suc i) ts)) after) (matched (pat p) (tree t) env)
each_step [] ts i p t env e f = absurd (some_none (sym e))
each_step (q ∷ qs) [] i p t env e f = absurd (some_none (sym f))
each_step (q ∷ qs) (u ∷ us) zero p t env e f =
    λ k. option_and_then (λ after. matched_each (pats qs) (trees us) after) (matched (pat (some_injective e k)) (tree (some_injective f k)) env)
each_step (q ∷ qs) (u ∷ us) (suc i) p t env e f = each_step qs us i p t env e f

pub all_step : (ps : List Pattern) (i : ℕ) (p : Pattern) (t : Tree) (env : List Tree) → slice_get ps i ≡ Some p →
    matched_all (pats (drop i ps)) t env ≡
    option_and_then (λ after. matched_all (pats (drop (suc i) ps)) t after) (matched (pat p) t env)
all_step [] i p t env e = absurd (some_none (sym e))
all_step (q ∷ qs) zero p t env e = λ k. option_and_then (λ after. matched_all (pats qs) t after) (matched (pat (some_injective e k)) t env)
all_step (q ∷ qs) (suc i) p t env e = all_step qs i p t env e

after_none : {A : Type 0} (o : Option A) (f : A → Option A) → ((x : A) → f x ≡ None) → option_and_then f o ≡ None
after_none None f none = refl
after_none (Some x) f none = none x

-- as many terms as patterns, or no match
pub each_unequal : (ps : List Pattern) (ts : List Term) (env : List Tree) → (length ps ≡ length ts → ⊥) →
    matched_each (pats ps) (trees ts) env ≡ None
each_unequal [] [] env unequal = absurd (unequal refl)
each_unequal [] (t ∷ ts) env unequal = refl
each_unequal (p ∷ ps) [] env unequal = refl
each_unequal (p ∷ ps) (t ∷ ts) env unequal =
    after_none (matched (pat p) (tree t) env) (λ after. matched_each (pats ps) (trees ts) after)
    (λ after. each_unequal ps ts after (λ same. unequal (ap suc same)))

-- what is matched of a list with a tail: its front, and then the rest

and_then_same : {A B : Type 0} (o : Option A) (f g : A → Option B) → ((x : A) → f x ≡ g x) → option_and_then f o ≡ option_and_then g o
and_then_same None f g same = refl
and_then_same (Some x) f g same = same x

and_then_twice : {A B C : Type 0} (o : Option A) (f : A → Option B) (g : B → Option C) →
    option_and_then g (option_and_then f o) ≡ option_and_then (λ x. option_and_then g (f x)) o
and_then_twice None f g = refl
and_then_twice (Some x) f g = refl

front_step : (p : Pattern) (ps : List Pattern) (last : Pattern) (t : Tree) (ts : Trees) (env : List Tree) →
    matched_front (pats (p ∷ (ps ++ last ∷ []))) (term.more t ts) env ≡
    option_and_then (λ after. matched_front (pats (ps ++ last ∷ [])) ts after) (matched (pat p) t env)
front_step p [] last t ts env = refl
front_step p (q ∷ qs) last t ts env = refl

pub front_split : (ps : List Pattern) (last : Pattern) (ts : List Term) (env : List Tree) → length ps ≤ length ts →
    matched_front (pats (ps ++ last ∷ [])) (trees ts) env ≡
    option_and_then (λ after. matched (pat last) (term.list (trees (drop (length ps) ts))) after)
    (matched_each (pats ps) (trees (take (length ps) ts)) env)
front_split [] last ts env within = refl
front_split (p ∷ ps) last [] env within = absurd (omega (arith, within))
front_split (p ∷ ps) last (t ∷ ts) env within =
    front_step p ps last (tree t) (trees ts) env ∙
    and_then_same (matched (pat p) (tree t) env) _ _ (λ after. front_split ps last ts after (omega (arith, within))) ∙
    sym (and_then_twice (matched (pat p) (tree t) env) (λ after. matched_each (pats ps) (trees (take (length ps) ts)) after)
    (λ after. matched (pat last) (term.list (trees (drop (length ps) ts))) after))

pub front_short : (ps : List Pattern) (last : Pattern) (ts : List Term) (env : List Tree) → length ts < length ps →
    matched_front (pats (ps ++ last ∷ [])) (trees ts) env ≡ None
front_short [] last ts env short = absurd (omega (arith, short))
front_short (p ∷ []) last [] env short = refl
front_short (p ∷ q ∷ ps) last [] env short = refl
front_short (p ∷ ps) last (t ∷ ts) env short =
    front_step p ps last (tree t) (trees ts) env ∙
    after_none (matched (pat p) (tree t) env) _ (λ after. front_short ps last ts after (omega (arith, short)))

behind_drop : (ts : List Term) (n : ℕ) → behind (trees (drop n ts)) ≡ trees (drop (suc n) ts)
behind_drop [] zero = refl
behind_drop [] (suc n) = refl
behind_drop (t ∷ ts) zero = refl
behind_drop (t ∷ ts) (suc n) = behind_drop ts n

pub rest_behind_is : (ts : List Term) (n : ℕ) → rest_behind n (trees ts) ≡ trees (drop n ts)
rest_behind_is ts zero = refl
rest_behind_is ts (suc n) = ap behind (rest_behind_is ts n) ∙ behind_drop ts n

module _ (all ps : List Pattern) (last : Pattern) (ts : List Term) (row : Trees) (env : List Tree)
    (split : all ≡ ps ++ last ∷ []) (is : trees ts ≡ row) where
  moved : matched_front (pats all) row env ≡ matched_front (pats (ps ++ last ∷ [])) (trees ts) env
  moved = λ k. matched_front (pats (split k)) (sym is k) env

  pub front_too_short : length ts < length ps → matched_front (pats all) row env ≡ None
  front_too_short short = moved ∙ front_short ps last ts env short

  pub front_fails : length ps ≤ length ts → matched_each (pats ps) (trees (take (length ps) ts)) env ≡ None →
      matched_front (pats all) row env ≡ None
  front_fails within fails = moved ∙ front_split ps last ts env within ∙
      ap (λ o. option_and_then (λ after. matched (pat last) (term.list (trees (drop (length ps) ts))) after) o) fails

  pub front_then : (after : List Tree) → length ps ≤ length ts →
      matched_each (pats ps) (trees (take (length ps) ts)) env ≡ Some after →
      matched_front (pats all) row env ≡ matched (pat last) (term.list (rest_behind (length ps) row)) after
  front_then after within done = moved ∙ front_split ps last ts env within ∙
      ap (λ o. option_and_then (λ after. matched (pat last) (term.list (trees (drop (length ps) ts))) after) o) done ∙
      ap (λ r. matched (pat last) (term.list r) after) (sym (ap (λ r. rest_behind (length ps) r) (sym is) ∙ rest_behind_is ts (length ps)))

  pub front_depth : pats_depth (pats ps) ≤ pats_depth (pats all)
  front_depth = subst (λ qs. pats_depth (pats ps) ≤ pats_depth (pats qs)) (sym split) (before ps last)
    where
      before : (ps : List Pattern) (last : Pattern) → pats_depth (pats ps) ≤ pats_depth (pats (ps ++ last ∷ []))
      before [] last = omega arith
      before (p ∷ ps) last = omega (arith, before ps last)

  pub last_depth : pat_depth (pat last) ≤ pats_depth (pats all)
  last_depth = subst (λ qs. pat_depth (pat last) ≤ pats_depth (pats qs)) (sym split) (within ps last)
    where
      within : (ps : List Pattern) (last : Pattern) → pat_depth (pat last) ≤ pats_depth (pats (ps ++ last ∷ []))
      within [] last = omega arith
      within (p ∷ ps) last = omega (arith, within ps last)
