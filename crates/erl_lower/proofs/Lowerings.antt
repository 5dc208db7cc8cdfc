-- The first fault of a tree is found form by form, behind the faults of the headings.
use Rattle.std.proofs.Common.{◌≡◌, List, [], Option, None, sym, subst, ◌∙◌}
use Rattle.std.proofs.lemmas.List.Sums.{fold-append}
use Rattle.erl_ast.specs.declared.form.FormTree.{FormTree}
use Rattle.erl_ast.specs.declared.form.ModuleTree.{ModuleTree}
use Rattle.erl_lint.specs.declared.fault.StaticFault.{StaticFault}
use Rattle.erl_lint.specs.First.{IsFirstFault, sooner, soonest}
use Rattle.erl_lint.specs.Keys.{Key, duplicates, with_forms}
use Rattle.erl_lint.specs.Faults.{faults_in_forms, faults_of, functions_of}
use Rattle.erl_lint.proofs.Soonest.{first_of}

pub first_of_tree : (tree : ModuleTree) (listed fs : List FormTree) (empty keys : List Key) (first found : Option StaticFault) →
    empty ≡ [] → listed ≡ tree.forms → fs ≡ tree.forms → first ≡ soonest None (duplicates empty listed) →
    keys ≡ with_forms empty listed → found ≡ soonest first (faults_in_forms keys fs) → IsFirstFault found (faults_of tree)
first_of_tree tree listed fs empty keys first found none all same noted named is =
    let headings : first ≡ soonest None (duplicates [] tree.forms) = noted ∙ (λ i. soonest None (duplicates (none i) (all i))) in
    let functions : keys ≡ functions_of tree = named ∙ (λ i. with_forms (none i) (all i)) in
    let whole : found ≡ soonest None (faults_of tree) =
    is ∙ (λ i. soonest (headings i) (faults_in_forms (functions i) (same i))) ∙
    sym (fold-append sooner None (duplicates [] tree.forms) (faults_in_forms (functions_of tree) tree.forms)) in
    subst (λ f. IsFirstFault f (faults_of tree)) (sym whole) (first_of (faults_of tree))
