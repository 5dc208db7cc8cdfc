-- Each module has its turn.
use Rattle.std.proofs.Common.{◌≡◌, ◌∙◌, ℕ, ◌+◌, ◌++◌, ◌∷◌, [], List, Some, IsSome, ap, sym, refl, subst, length}
use Rattle.std.proofs.lemmas.Bool.{false≢true}
use Rattle.std.proofs.lemmas.Option.{slice_get_read}
use Rattle.std.specs.List.{find, slice_get}
use Rattle.std.specs.Str.{bytes_eq}
use Rattle.node_views.proofs.Found.{Names, is_found, name_found, name_passed, names_found}
use Rattle.node_views.specs.Changes.{IsChangedIn, module_of}
use Rattle.node_views.specs.declared.node_view.ModuleView.{ModuleView}
use Rattle.node_views.proofs.changes.push_changed.Goals as goal
use Rattle.node_views.proofs.changes.push_changed.Goals.{then-has_changed+in_ok-copy+in_ok-push, else-has_changed}

pub loop-module-preserved : goal.loop-module-preserved
loop-module-preserved c =
    let xs = c.as_slice-module-items.result.now in
    let n = c.loop-module.module-index in
    let m = c.module-item.result in
    let old = c.args.found.now.items in
    let found = c.loop-module.found.items in
    let P : List ℕ → Type 0 = IsChangedIn c.args.before.now c.args.after.now in
    let is : slice_get xs n ≡ Some m = slice_get_read xs (length xs) n m refl c.loop-module-test.true c.module-item.is in
    elim c.if-has_changed.branch [
      | then-has_changed+in_ok-copy+in_ok-push w ↦
          let there : IsSome (module_of m.name c.args.before.now) =
          subst (λ (ms : List ModuleView). IsSome (find (λ x. bytes_eq x.name m.name) ms)) c.as_slice-module-items.ensures
          (is_found xs n m is) in
          let holds : P m.name = (there, c.has_changed.ensures.0 w.if-has_changed.true) in
          subst (λ (items : List (List ℕ)). Names xs P old items (n + 1))
          (sym (ap (λ v. v.items) w.found-is ∙ w.in_ok-push.ensures.items ∙ ap (λ (x : List ℕ). found ++ x ∷ []) w.in_ok-copy.ensures))
          (name_found xs P old found n m is holds c.loop-module.invariant)
      | else-has_changed w ↦
          let fails : P m.name → ⊥ = λ holds. false≢true (sym w.if-has_changed.false ∙ c.has_changed.ensures.1 holds.1) in
          subst (λ (items : List (List ℕ)). Names xs P old items (n + 1)) (sym (ap (λ v. v.items) w.found-is))
          (name_passed xs P old found n m is fails c.loop-module.invariant)
    ]

pub returns : goal.returns
returns c =
    let xs = c.as_slice-module-items.result.now in
    names_found xs (IsChangedIn c.args.before.now c.args.after.now) c.args.found.now.items c.loop-module.found.items
    c.loop-module.module-index c.loop-module-test.false (λ name holds. subst
    (λ (ms : List ModuleView). IsSome (find (λ m. bytes_eq m.name name) ms)) (sym c.as_slice-module-items.ensures) holds.0)
    c.loop-module.invariant
