-- One outcome comes of a call from outside, and of a job.
use Rattle.std.specs.Prelude.{◌≡◌, ℕ, List, Option, None, Some}
use Rattle.std.proofs.Common.{sym, ◌∙◌}
use Rattle.erl_term.specs.Tree.{Tree, Trees}
use Rattle.erl_ir.specs.declared.function.Function.{Function}
use Rattle.erl_semantics.specs.State.{Instance, Place, World, all_acts, server, loop}
use Rattle.erl_semantics.specs.Guards.{Selection}
use Rattle.erl_semantics.specs.Jobs.{Outcome, FromOutside, undefined, called, Job, world_of, Callback, served, Handles, not_exported}
use Rattle.erl_semantics.specs.Jobs.{handled, looped, Receives, unheard, received, GivesAt}
use Rattle.erl_semantics.proofs.Uniqueness.{ap2, entered-once, body-once}

pub from_outside-once : {w : World} {name : List ℕ} {f : Option (Instance × Function)} {args : Trees} {o p : Outcome} →
    FromOutside w name f args o → FromOutside w name f args p → o ≡ p
from_outside-once (undefined x) (undefined y) = x ∙ sym y
from_outside-once {w = w} (called d x) (called e y) =
    let same = entered-once w d e in
    x ∙ ap2 (λ r s. record { acts = all_acts s.startup s.acts; ended = r }) same.0 same.1 ∙ sym y

handles-once : {j : Job} {m : List ℕ} {s : Tree} {c : Callback} {f : Option Function} {i : Instance} {o p : Outcome} →
    Handles j m s c f i o → Handles j m s c f i p → o ≡ p
handles-once (not_exported x) (not_exported y) = x ∙ sym y
handles-once {j = j} {m = m} {c = c} (handled d x) (handled e y) =
    let same = entered-once (world_of j) d e in
    x ∙ ap2 (λ r s. served m c s.acts r) same.0 same.1 ∙ sym y

receives-once : {j : Job} {i : Instance} {found : Selection} {o p : Outcome} →
    Receives j i found o → Receives j i found p → o ≡ p
receives-once (unheard x) (unheard y) = x ∙ sym y
receives-once {j = j} (received d x) (received e y) =
    let same = body-once (world_of j) d e in
    x ∙ ap2 (λ r s. looped s.acts r) same.0 same.1 ∙ sym y

pub gives_at-once : (j : Job) (place : Place) (entered : Option Instance) (o p : Outcome) →
    GivesAt j place entered o → GivesAt j place entered p → o ≡ p
gives_at-once j (server m s) None o p x y = x ∙ sym y
gives_at-once j (server m s) (Some i) o p x y = handles-once x y
gives_at-once j (loop m serial name args) None o p x y = x ∙ sym y
gives_at-once j (loop m serial name args) (Some i) o p x y = receives-once x y
