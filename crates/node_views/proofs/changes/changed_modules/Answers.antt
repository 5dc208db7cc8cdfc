-- A module that isn't alike is one of the view before, or is new.
use Rattle.std.proofs.Common.{◌≡◌, ◌≢◌, ◌∙◌, ◌⊎◌, inl, inr, ℕ, List, [], Option, None, Some, IsSome, Contains, sym, subst, refl, arith}
use Rattle.node_views.specs.Changes.{module_of}
use Rattle.node_views.specs.declared.node_view.ModuleView.{ModuleView}
use Rattle.node_views.proofs.changes.changed_modules.Goals as goal

new_or_changed : (old new : Option ModuleView) → (old ≢ new) → (IsSome old × (old ≢ new)) ⊎ (IsSome new × (old ≡ None))
new_or_changed (Some m) new differ = inl (refl, differ)
new_or_changed None (Some m) differ = inr (refl, refl)
new_or_changed None None differ = absurd (differ refl)

new_differs : (old new : Option ModuleView) → IsSome new → old ≡ None → old ≢ new
new_differs old new some none alike = let clash : IsSome {T = ModuleView} None = subst IsSome (sym alike ∙ none) some in cc

pub returns : goal.returns
returns c name =
    let before = module_of name c.args.before.now in
    let after = module_of name c.args.after.now in
    let first = c.in_ok-push_changed.ensures name in
    let second = c.in_ok-push_new.ensures name in (
      (λ there. elim (second.0 there) [
        | inl earlier ↦ elim (first.0 earlier) [
          | inl none ↦ absurd (nothing name (subst (λ (items : List (List ℕ)). Contains items name) c.new-found.ensures.items none))
          | inr changed ↦ changed.1
        ]
        | inr newly ↦ new_differs before after newly.0 newly.1
      ]),
      (λ differ. elim (new_or_changed before after differ) [
        | inl changed ↦ second.1 (inl (first.1 (inr changed)))
        | inr newly ↦ second.1 (inr newly)
      ]),
    )
  where
    nothing : (x : List ℕ) → Contains [] x → ⊥
    nothing x w = omega (arith, w.1)
