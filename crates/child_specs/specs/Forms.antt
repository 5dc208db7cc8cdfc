-- What a supervisor's `init/1` returns, as it is written (supervisor(3)).
use Rattle.std.specs.Prelude.{◌≡◌, ◌≢◌, ℕ, List, [], ◌∷◌, codes, map, ⊤}
use Rattle.std.specs.List.{AllPairs}
use Rattle.erl_term.specs.Conversions.{row}
use Rattle.erl_term.specs.Tree.{Tree, Trees, atom, tuple, list, none, more}
use Rattle.erl_term.specs.Term.{tree}
use Rattle.release_words.specs.Words.{word, names_tree}
use Rattle.child_specs.specs.declared.child.ChildSpec.{ChildSpec}
use Rattle.child_specs.specs.declared.child.Restart.{Restart}
use Rattle.child_specs.specs.declared.child.Restart.TheVariants.{Permanent, Transient, Temporary}

abbrev pub restart_tree : Restart → Tree
restart_tree Permanent = word (codes "permanent")
restart_tree Transient = word (codes "transient")
restart_tree Temporary = word (codes "temporary")

-- `{M,F,A}`
abbrev pub start_tree : ChildSpec → Tree
start_tree c = tuple (row (atom c.name ∷ atom c.function ∷ list c.arguments ∷ []))

-- the modules of a child: a list of names, or `dynamic`, which names none
pub data IsModules (t : Tree) (names : List (List ℕ)) : Type 0 where
  listed : t ≡ names_tree names → IsModules t names
  dynamic : t ≡ word (codes "dynamic") → names ≡ [] → IsModules t names

-- `{Id,{M,F,A},Restart,Shutdown,worker,Modules}`
abbrev pub child_tree : ChildSpec → Tree → Tree
child_tree c modules =
    tuple (row (tree c.id ∷ start_tree c ∷ restart_tree c.restart ∷ tree c.shutdown ∷ word (codes "worker") ∷ modules ∷ []))

abbrev pub IsChild : Tree → ChildSpec → Type 0
IsChild t c = (modules : Tree) × IsModules modules c.modules × (t ≡ child_tree c modules)

-- each term is the child at its index, and there are as many
abbrev pub AreChildren : Trees → List ChildSpec → Type 0
AreChildren none [] = ⊤
AreChildren none (c ∷ cs) = ⊥
AreChildren (more t ts) [] = ⊥
AreChildren (more t ts) (c ∷ cs) = IsChild t c × AreChildren ts cs

-- the Ids of children, in order
abbrev pub ids : List ChildSpec → List Tree
ids cs = map (λ c. tree c.id) cs

-- no two children have one Id
abbrev pub AreDistinct : List ChildSpec → Type 0
AreDistinct cs = AllPairs (λ t u. t ≢ u) (ids cs)

-- `{one_for_one,R,T}`
abbrev pub strategy_tree : Tree → Tree → Tree
strategy_tree r t = tuple (row (word (codes "one_for_one") ∷ r ∷ t ∷ []))

-- `{ok,{{one_for_one,R,T},Children}}`
abbrev pub supervision_tree : Tree → Tree → Trees → Tree
supervision_tree r t children = tuple (row (word (codes "ok") ∷ tuple (row (strategy_tree r t ∷ list children ∷ [])) ∷ []))

-- a supervision of these children
pub record IsSupervision (term : Tree) (cs : List ChildSpec) : Type 0 where
  pub r : Tree
  pub t : Tree
  pub children : Trees
  pub written : term ≡ supervision_tree r t children
  pub are : AreChildren children cs
  pub distinct : AreDistinct cs
