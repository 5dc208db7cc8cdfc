-- What a supervisor's `init/1` returns, as it is read.
use Rattle.std.specs.Prelude.{ℕ, Bool, true, false, not, ◌&&◌, if◌then◌else◌, List, [], ◌∷◌, codes, Option, Some, None}
use Rattle.std.specs.Prelude.{option_map}
use Rattle.std.specs.List.{list_any}
use Rattle.std.specs.Ordering.{eq_by_cmp, on}
use Rattle.std.specs.Str.{bytes_eq}
use Rattle.erl_term.specs.Accessors.{atom_of, four_of, list_of, tuple_of}
use Rattle.erl_term.specs.Conversions.{given, pair_of, triple_of, rows_of}
use Rattle.erl_term.specs.Order.{tree_cmp}
use Rattle.erl_term.specs.Term.{tree, term_of}
use Rattle.erl_term.specs.Tree.{Tree, Trees, int, atom, pid, tuple, list, none, more}
use Rattle.erl_term.specs.declared.term.Term.{Term}
use Rattle.release_words.specs.Reading.{either_of, names_of, word_of}
use Rattle.child_specs.specs.declared.child.ChildSpec.{ChildSpec}
use Rattle.child_specs.specs.declared.child.Restart.{Restart}
use Rattle.child_specs.specs.declared.child.Restart.TheVariants.{Permanent, Transient, Temporary}

abbrev pub restart_words : List (List ℕ × Restart)
restart_words = (codes "permanent", Permanent) ∷ (codes "transient", Transient) ∷ (codes "temporary", Temporary) ∷ []

unfoldable pub restart_of : Tree → Option Restart
restart_of t = word_of restart_words t

-- `dynamic`, which names none, or a list of names
abbrev pub dynamic_words : List (List ℕ × List (List ℕ))
dynamic_words = (codes "dynamic", []) ∷ []

unfoldable pub modules_of : Tree → Option (List (List ℕ))
modules_of t = either_of (word_of dynamic_words t) (names_of t)

abbrev pub is_worker : Tree → Bool
is_worker (int n) = false
is_worker (atom cs) = bytes_eq cs (codes "worker")
is_worker (pid n) = false
is_worker (tuple ts) = false
is_worker (list ts) = false

-- a row of just so many terms
abbrev pub five_of : Trees → Option (Tree × Tree × Tree × Tree × Tree)
five_of none = None
five_of (more a ts) = option_map (λ r. (a, r.0, r.1, r.2, r.3)) (four_of ts)

abbrev pub six_of : Trees → Option (Tree × Tree × Tree × Tree × Tree × Tree)
six_of none = None
six_of (more a ts) = option_map (λ r. (a, r.0, r.1, r.2, r.3, r.4)) (five_of ts)

-- `{M,F,A}`
abbrev pub start_of : Tree → Option (List ℕ × List ℕ × Trees)
start_of t = triple_of atom_of atom_of list_of t

-- `{Id,{M,F,A},Restart,Shutdown,worker,Modules}`
unfoldable pub child_of : Tree → Option ChildSpec
child_of t =
    given (given (tuple_of t) six_of) (λ p.
    if is_worker p.4 then
    given (start_of p.1) (λ start.
    given (restart_of p.2) (λ restart.
    option_map (λ modules. record {
      id = term_of p.0;
      name = start.0;
      function = start.1;
      arguments = start.2;
      restart = restart;
      shutdown = term_of p.3;
      modules = modules;
    }) (modules_of p.5)))
    else None)

-- whether a child has this Id
abbrev pub same_id : Term → ChildSpec → Bool
same_id t c = eq_by_cmp (on tree tree_cmp) c.id t

-- whether no two children have one Id
abbrev pub are_distinct : List ChildSpec → Bool
are_distinct [] = true
are_distinct (c ∷ cs) = not (list_any (same_id c.id) cs) && are_distinct cs

abbrev pub any_of : Tree → Option Term
any_of t = Some (term_of t)

-- `{Head,{{Strategy,R,T},Children}}`
abbrev pub parts_of : Tree → Option (List ℕ × ((List ℕ × Term × Term) × Term))
parts_of t = pair_of atom_of (pair_of (triple_of atom_of any_of any_of) any_of) t

-- the children that a term names, where it is `{ok,{{one_for_one,R,T},Children}}` and no two of them have one Id
unfoldable pub children_of : Tree → Option (List ChildSpec)
children_of t =
    given (parts_of t) (λ p.
    if bytes_eq p.0 (codes "ok") && bytes_eq p.1.0.0 (codes "one_for_one") then
    given (rows_of child_of (tree p.1.1)) (λ cs. if are_distinct cs then Some cs else None)
    else None)
