-- Reading one tree, by what is written.
use Rattle.std.proofs.Common.{◌≡◌, ℕ, ◌≤◌, List, Some, None, ap, subst, sym, ◌∙◌, arith}
use Rattle.std.proofs.lemmas.Option.{none-some, same_Some}
use Rattle.erl_ast.specs.declared.role.Role.{Role}
use Rattle.erl_ast.specs.declared.role.Role.TheVariants.{Expression, Pattern, Test}
use Rattle.erl_ast.specs.Terminal.{Terminal}
use Rattle.erl_ast.specs.Tree.{Tree}
use Rattle.erl_expressions.specs.Reading.{read}
use Rattle.erl_expressions.specs.Readings.{BeginsWith, Stops, greatest, OneTree}
use Rattle.erl_expressions.proofs.Sound.{read_sound}
use Rattle.erl_expressions.proofs.Matches.{read_whole}

room : (role : Role) → 1 ≤ greatest role
room Expression = omega arith
room Pattern = omega arith
room Test = omega arith

begun : (role : Role) (n : ℕ) (ts : List Terminal) (t : Tree) (rest : List Terminal) →
    read n role (greatest role) ts ≡ Some (t, rest) → BeginsWith role (greatest role) n ts t rest
begun role n ts t rest is = read_sound n role (greatest role) ts t rest (room role) is

pub is_begun : (role : Role) (n most : ℕ) (ts : List Terminal) (t u : Tree) (rest : List Terminal) → most ≡ greatest role → u ≡ t →
    read n role most ts ≡ Some (t, rest) → BeginsWith role (greatest role) n ts u rest
is_begun role n most ts t u rest top same is = subst (λ v. BeginsWith role (greatest role) n ts v rest) (sym same)
    (begun role n ts t rest (ap (λ m. read n role m ts) (sym top) ∙ is))

is_read : (role : Role) (n : ℕ) (ts : List Terminal) (t : Tree) (rest : List Terminal) → Stops (greatest role) rest →
    BeginsWith role (greatest role) n ts t rest → read n role (greatest role) ts ≡ Some (t, rest)
is_read role n ts t rest stops is = ap (λ us. read n role (greatest role) us) is.is_written ∙
    read_whole n role (greatest role) t rest is.is_well is.is_level is.is_deep stops

pub is_none : (role : Role) (n : ℕ) (ts : List Terminal) → read n role (greatest role) ts ≡ None →
    (t : Tree) → (rest : List Terminal) → Stops (greatest role) rest → BeginsWith role (greatest role) n ts t rest → ⊥
is_none role n ts none_read t rest stops is = none-some (t, rest) (sym none_read ∙ is_read role n ts t rest stops is)

pub one_tree : OneTree
one_tree role n ts t u rest left one stops other ends =
    let same = same_Some {A = Tree × List Terminal} (t, rest) (u, left)
    (sym (is_read role n ts t rest stops one) ∙ is_read role n ts u left ends other) in
    (ap (λ f. f.0) same, ap (λ f. f.1) same)
