-- Child specifications, written and read.
use Rattle.std.proofs.Common.{◌≡◌, ℕ, Bool, true, false, List, [], ◌∷◌, Option, Some, None, option_map, refl, sym, ap, subst, ◌∙◌, inl, inr}
use Rattle.std.specs.Prelude.{codes, if◌then◌else◌}
use Rattle.std.proofs.lemmas.Option.{same_Some}
use Rattle.std.proofs.lemmas.Slice.Eq.{bytes_eq-Decides}
use Rattle.erl_term.specs.Accessors.{all_of, atom_of, four_of, three_of, tuple_of}
use Rattle.erl_term.specs.Conversions.{given}
use Rattle.erl_term.specs.Term.{tree, term_of, term_of-tree}
use Rattle.erl_term.specs.Tree.{Tree, Trees, int, atom, pid, tuple, list, none, more}
use Rattle.release_words.specs.Reading.{named, names_of, word_of}
use Rattle.release_words.specs.Words.{word}
use Rattle.release_words.proofs.Parts.{atom_is, either_is, given_is, map_is, next_back, none_some, three_is, tree_back, tuple_is}
use Rattle.release_words.proofs.Tables.{Reads, atoms, lists, named_is, triples, words}
use Rattle.release_words.proofs.Words.{names}
use Rattle.child_specs.specs.declared.child.ChildSpec.{ChildSpec}
use Rattle.child_specs.specs.declared.child.Restart.{Restart}
use Rattle.child_specs.specs.declared.child.Restart.TheVariants.{Permanent, Transient, Temporary}
use Rattle.child_specs.specs.Forms.{AreChildren, dynamic, IsChild, IsModules, listed, restart_tree}
use Rattle.child_specs.specs.Reading.{child_of, dynamic_words, five_of, is_worker, modules_of, restart_of, restart_words, six_of, start_of}

-- what is read where something holds
pub when_is : {A : Type 0} (b : Bool) (o : Option A) (a : A) → (if b then o else None) ≡ Some a → (b ≡ true) × (o ≡ Some a)
when_is true o a e = (refl, e)
when_is false o a e = none_some a e

-- Restarts

restart_back : (r : Restart) → word_of restart_words (restart_tree r) ≡ Some r
restart_back Permanent = refl
restart_back Transient = refl
restart_back Temporary = refl

restarts : Reads restart_of restart_tree (λ r. Unit {0})
unfolding restart_of
restarts = words restart_words restart_tree (refl, (refl, (refl, tt))) restart_back

-- Modules

modules_are : (t : Tree) (ns : List (List ℕ)) → modules_of t ≡ Some ns → IsModules t ns
unfolding modules_of
modules_are t ns e =
    elim (either_is (word_of dynamic_words t) (names_of t) ns e) [
      | inl said ↦
          let name = given_is (atom_of t) (named dynamic_words) ns said in
          subst (λ u. IsModules u ns) (sym (atom_is t name.0 name.1)) (named_is (λ cs ns. IsModules (atom cs) ns) dynamic_words (dynamic refl refl, tt) name.0 ns name.2)
      | inr row ↦ listed (names.is t ns row).0
    ]

modules_back : (t : Tree) (ns : List (List ℕ)) → IsModules t ns → modules_of t ≡ Some ns
unfolding modules_of
modules_back t ns (listed is) = ap modules_of is ∙ names.back ns tt
modules_back t ns (dynamic is nothing) = ap modules_of is ∙ ap Some (sym nothing)

-- Six terms

worker_is : (t : Tree) → is_worker t ≡ true → t ≡ word (codes "worker")
worker_is (int n) e = absurd (let no : ⊥ = cc in no)
worker_is (atom cs) e = ap atom ((bytes_eq-Decides cs (codes "worker")).0 e)
worker_is (pid n) e = absurd (let no : ⊥ = cc in no)
worker_is (tuple ts) e = absurd (let no : ⊥ = cc in no)
worker_is (list ts) e = absurd (let no : ⊥ = cc in no)

four_is : (ts : Trees) (p : Tree × Tree × Tree × Tree) → four_of ts ≡ Some p → ts ≡ more p.0 (more p.1 (more p.2 (more p.3 none)))
four_is none p e = none_some p e
four_is (more a us) p e =
    let others = map_is _ (three_of us) p e in
    ap (λ r. more a r) (three_is us others.0 others.1) ∙ ap (λ (q : Tree × Tree × Tree × Tree). more q.0 (more q.1 (more q.2 (more q.3 none)))) others.2

five_is : (ts : Trees) (p : Tree × Tree × Tree × Tree × Tree) → five_of ts ≡ Some p → ts ≡ more p.0 (more p.1 (more p.2 (more p.3 (more p.4 none))))
five_is none p e = none_some p e
five_is (more a us) p e =
    let others = map_is _ (four_of us) p e in
    ap (λ r. more a r) (four_is us others.0 others.1) ∙ ap (λ (q : Tree × Tree × Tree × Tree × Tree). more q.0 (more q.1 (more q.2 (more q.3 (more q.4 none))))) others.2

six_is : (ts : Trees) (p : Tree × Tree × Tree × Tree × Tree × Tree) → six_of ts ≡ Some p → ts ≡ more p.0 (more p.1 (more p.2 (more p.3 (more p.4 (more p.5 none)))))
six_is none p e = none_some p e
six_is (more a us) p e =
    let others = map_is _ (five_of us) p e in
    ap (λ r. more a r) (five_is us others.0 others.1) ∙ ap (λ (q : Tree × Tree × Tree × Tree × Tree × Tree). more q.0 (more q.1 (more q.2 (more q.3 (more q.4 (more q.5 none)))))) others.2

both_parts : (t u : Tree) (ts us : Trees) → t ≡ u → ts ≡ us → more t ts ≡ more u us
both_parts t u ts us first others = ap (λ v. more v ts) first ∙ ap (λ vs. more u vs) others

-- Children

child_is : (t : Tree) (c : ChildSpec) → child_of t ≡ Some c → IsChild t c
unfolding child_of
child_is t c e =
    let p = given_is (given (tuple_of t) six_of) _ c e in
    let inside = given_is (tuple_of t) six_of p.0 p.1 in
    let worker = when_is (is_worker p.0.4) _ c p.2 in
    let start = given_is (start_of p.0.1) _ c worker.1 in
    let restart = given_is (restart_of p.0.2) _ c start.2 in
    let modules = map_is _ (modules_of p.0.5) c restart.2 in
    let id : p.0.0 ≡ tree (term_of p.0.0) = sym (tree_back p.0.0) in
    let shutdown : p.0.3 ≡ tree (term_of p.0.3) = sym (tree_back p.0.3) in
    let started = ((triples atoms atoms lists).is p.0.1 start.0 start.1).0 in
    let restarted = (restarts.is p.0.2 restart.0 restart.1).0 in
    let parts = both_parts _ _ _ _ id (both_parts _ _ _ _ started (both_parts _ _ _ _ restarted (both_parts _ _ _ _ shutdown (both_parts _ _ (more p.0.5 none) _ (worker_is p.0.4 worker.0) refl)))) in
    subst (IsChild t) modules.2 (p.0.5, modules_are p.0.5 modules.0 modules.1, tuple_is t inside.0 inside.1 ∙ ap tuple (six_is inside.0 p.0 inside.2 ∙ parts))

child_back : (t : Tree) (c : ChildSpec) → IsChild t c → child_of t ≡ Some c
unfolding child_of
child_back t c is =
    ap child_of is.2 ∙ rw (restarts.back c.restart tt, modules_back is.0 c.modules is.1, term_of-tree c.id, term_of-tree c.shutdown) refl

pub children_are : (ts : Trees) (cs : List ChildSpec) → all_of child_of ts ≡ Some cs → AreChildren ts cs
children_are none cs e = subst (AreChildren none) (same_Some [] cs e) tt
children_are (more t ts) cs e =
    let first = given_is (child_of t) (λ a. option_map (λ as'. a ∷ as') (all_of child_of ts)) cs e in
    let others = map_is (λ as'. first.0 ∷ as') (all_of child_of ts) cs first.2 in
    subst (AreChildren (more t ts)) others.2 (child_is t first.0 first.1, children_are ts others.0 others.1)

pub children_back : (ts : Trees) (cs : List ChildSpec) → AreChildren ts cs → all_of child_of ts ≡ Some cs
children_back none [] are = refl
children_back none (c ∷ cs) are = absurd are
children_back (more t ts) [] are = absurd are
children_back (more t ts) (c ∷ cs) are =
    next_back (child_of t) (all_of child_of ts) c cs (child_back t c are.0) (children_back ts cs are.1)
