-- The first fault is one of the tree, and the module is made of the parts of its meaning.
use Rattle.std.proofs.Common.{IfOk, ap, subst, ◌∙◌, refl}
use Rattle.erl_lint.specs.First.{IsFirstFault}
use Rattle.erl_lint.specs.Faults.{faults_of}
use Rattle.erl_lower.specs.Meaning.{exports_of, functions_in, meaning, version_in}
use Rattle.erl_lower.proofs.Lowerings.{first_of_tree}
use Rattle.erl_lower.proofs.Rows.{IsMade, made}
use Rattle.erl_lower.proofs.module.lowered.Goals as goal

pub returns-in-Some : goal.returns-in-Some
returns-in-Some c =
    subst (λ f. IsFirstFault f (faults_of c.args.tree)) c.in-Some.is
    (first_of_tree c.args.tree c.as_slice.result.now c.into_vec-forms.result.items c.with_hasher-functions.result.keys c.note_functions.new.functions.keys
    c.in_ok-first.first c.in_ok-builder.found c.with_hasher-functions.ensures.empty c.as_slice.ensures c.into_vec-forms.ensures
    c.in_ok-first.ensures.found c.in_ok-first.ensures.noted c.in_ok-builder.ensures.found)

pub returns-in_ok-module-in-None : goal.returns-in_ok-module-in-None
returns-in_ok-module-in-None c =
    let tree = c.args.tree in (
      subst (λ f. IsFirstFault f (faults_of tree)) c.in-None.is
          (first_of_tree tree c.as_slice.result.now c.into_vec-forms.result.items c.with_hasher-functions.result.keys c.note_functions.new.functions.keys
          c.in_ok-first.first c.in_ok-builder.found c.with_hasher-functions.ensures.empty c.as_slice.ensures c.into_vec-forms.ensures
          c.in_ok-first.ensures.found c.in_ok-first.ensures.noted c.in_ok-builder.ensures.found),
      subst (λ r. IfOk r (IsMade (meaning tree))) c.in_ok-module-in-None.was
          (made tree c.build.result tree.name.name c.in_ok-vsn.vsn c.in_ok-builder.builder refl
          (c.in_ok-vsn.ensures ∙ ap (version_in tree.name.name) c.as_slice-3.ensures)
          (c.in_ok-builder.ensures.built ∙
          (λ i. functions_in tree.name.name ((c.in_ok-exports.ensures ∙ ap exports_of c.as_slice-2.ensures) i) (c.into_vec-forms.ensures i)))
          c.build.ensures),
    )
