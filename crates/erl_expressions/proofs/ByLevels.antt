-- Reading, by how many levels are left.
use Rattle.std.proofs.Common.{◌≡◌, ℕ, zero, suc, ◌+◌, ◌-◌, ◌<◌, List, Some, None, ap, subst, sym, ◌∙◌, refl, arith}
use Rattle.erl_ast.specs.declared.role.Role.{Role}
use Rattle.erl_ast.specs.Terminal.{Terminal}
use Rattle.erl_ast.specs.Tree.{Tree}
use Rattle.erl_ast.specs.Grammar.{level}
use Rattle.erl_ast.specs.declared.shape.Infix.{Infix}
use Rattle.erl_expressions.specs.Reading.{climbed_by, ended_by}
use Rattle.erl_expressions.specs.Leaves.{leaf_ahead, operator_ahead}
use Rattle.erl_expressions.specs.Reading.{Reader, read, read_by, begun, climbed, joined, matched, only_leaf, and_then}

-- a level, and the one below it
above : (n : ℕ) → ¬ (n ≡ 0) → n ≡ suc (n - 1)
above n is = omega (arith, is)

pub read_alone : (n : ℕ) (role : Role) (most : ℕ) (ts : List Terminal) → n ≡ 0 → read n role most ts ≡ only_leaf (leaf_ahead ts) role most
unfolding read
read_alone zero role most ts is = refl
read_alone (suc n) role most ts is = absurd (omega (arith, is))

pub read_next : (n : ℕ) (role : Role) (most : ℕ) (ts : List Terminal) →
    read (suc n) role most ts ≡ read_by (begun (read n) role ts) (read n) role most (suc n) ts
unfolding read
read_next n role most ts = refl

pub read_on : (n : ℕ) (role : Role) (most : ℕ) (ts : List Terminal) (t : Tree) (rest : List Terminal) → ¬ (n ≡ 0) →
    begun (read (n - 1)) role ts ≡ Some (t, rest) → read n role most ts ≡ climbed n (read (n - 1)) role most n t rest
read_on n role most ts t rest is begins = subst
    (λ k. read k role most ts ≡ climbed k (read (n - 1)) role most k t rest) (sym (above n is))
    (read_next (n - 1) role most ts ∙ ap (λ o. read_by o (read (n - 1)) role most (suc (n - 1)) ts) begins)

pub read_not : (n : ℕ) (role : Role) (most : ℕ) (ts : List Terminal) → ¬ (n ≡ 0) →
    begun (read (n - 1)) role ts ≡ None → read n role most ts ≡ matched (read (n - 1)) role most n ts
read_not n role most ts is begins = subst (λ k. read k role most ts ≡ matched (read (n - 1)) role most k ts) (sym (above n is))
    (read_next (n - 1) role most ts ∙ ap (λ o. read_by o (read (n - 1)) role most (suc (n - 1)) ts) begins)

-- no operator goes on with a tree, or one does

pub climbed_all : (turns : ℕ) (p : Reader) (role : Role) (most levels : ℕ) (t : Tree) (ts : List Terminal) →
    operator_ahead role most (level t) ts ≡ None → climbed turns p role most levels t ts ≡ Some (t, ts)
climbed_all zero p role most levels t ts ends = ap (λ o. ended_by o (t, ts)) ends
climbed_all (suc turns) p role most levels t ts ends =
    ap (λ o. climbed_by o p role levels t ts (climbed turns p role most levels)) ends

pub climbed_one : (turns : ℕ) (p : Reader) (role : Role) (most levels : ℕ) (t u : Tree) (ts us : List Terminal) (op : Infix) →
    operator_ahead role most (level t) ts ≡ Some op → joined p role role levels t op ts ≡ Some (u, us) →
    climbed (suc turns) p role most levels t ts ≡ climbed turns p role most levels u us
climbed_one turns p role most levels t u ts us op goes joins =
    ap (λ o. climbed_by o p role levels t ts (climbed turns p role most levels)) goes ∙
    ap (λ o. and_then o (λ f. climbed turns p role most levels f.0 f.1)) joins

pub climbed_more : (n i : ℕ) (p : Reader) (role : Role) (most levels : ℕ) (t u : Tree) (ts us : List Terminal) (op : Infix) →
    i < n → operator_ahead role most (level t) ts ≡ Some op → joined p role role levels t op ts ≡ Some (u, us) →
    climbed (n - i) p role most levels t ts ≡ climbed (n - (i + 1)) p role most levels u us
climbed_more n i p role most levels t u ts us op within goes joins =
    ap (λ k. climbed k p role most levels t ts) {x = n - i} {y = suc (n - (i + 1))} (omega (arith, within)) ∙
    climbed_one (n - (i + 1)) p role most levels t u ts us op goes joins
