-- Terms by their tags.
use Rattle.std.specs.Prelude.{◌≡◌, ℕ, List, Some}
use Rattle.std.proofs.Common.{ap, sym, subst}
use Rattle.erl_term.specs.Accessors.{one_of, two_of, three_of}
use Rattle.erl_term.specs.Tree.{Tree, Trees, int, atom, pid, tuple, list, none, more}
use Rattle.erl_semantics.proofs.Options.{some_none, some_injective}
use Rattle.erl_steps.specs.Tags.{tag_of}

-- what holds of a tuple with a tag holds of what has the tag
pub tagged : (P : Tree → Type 0) (t : Tree) (cs : List ℕ) (ts : Trees) → tag_of t ≡ Some (cs, ts) → P (tuple (more (atom cs) ts)) → P t
tagged P (int n) cs ts e p = absurd (some_none (sym e))
tagged P (atom n) cs ts e p = absurd (some_none (sym e))
tagged P (pid n) cs ts e p = absurd (some_none (sym e))
tagged P (list n) cs ts e p = absurd (some_none (sym e))
tagged P (tuple none) cs ts e p = absurd (some_none (sym e))
tagged P (tuple (more (int n) us)) cs ts e p = absurd (some_none (sym e))
tagged P (tuple (more (pid n) us)) cs ts e p = absurd (some_none (sym e))
tagged P (tuple (more (tuple n) us)) cs ts e p = absurd (some_none (sym e))
tagged P (tuple (more (list n) us)) cs ts e p = absurd (some_none (sym e))
tagged P (tuple (more (atom n) us)) cs ts e p = subst (λ x. P (tuple (more (atom x.0) x.1))) (sym (some_injective e)) p

pub one_is : (ts : Trees) (x : Tree) → one_of ts ≡ Some x → more x none ≡ ts
one_is none x e = absurd (some_none (sym e))
one_is (more t none) x e = ap (λ u. more u none) (sym (some_injective e))
one_is (more t (more u ts)) x e = absurd (some_none (sym e))

pub two_is : (ts : Trees) (x y : Tree) → two_of ts ≡ Some (x, y) → more x (more y none) ≡ ts
two_is none x y e = absurd (some_none (sym e))
two_is (more t none) x y e = absurd (some_none (sym e))
two_is (more t (more u none)) x y e = ap (λ p. more p.0 (more p.1 none)) (sym (some_injective e))
two_is (more t (more u (more v ts))) x y e = absurd (some_none (sym e))

pub three_is : (ts : Trees) (x y z : Tree) → three_of ts ≡ Some (x, y, z) → more x (more y (more z none)) ≡ ts
three_is none x y z e = absurd (some_none (sym e))
three_is (more t none) x y z e = absurd (some_none (sym e))
three_is (more t (more u none)) x y z e = absurd (some_none (sym e))
three_is (more t (more u (more v none))) x y z e = ap (λ p. more p.0 (more p.1 (more p.2 none))) (sym (some_injective e))
three_is (more t (more u (more v (more v' ts)))) x y z e = absurd (some_none (sym e))
