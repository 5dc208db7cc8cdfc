-- Where a release is made permanent, and where old code is swept, there is one outcome: one list of the modules that are purged.
use Rattle.std.proofs.Common.{◌≡◌, ℕ, Bool, true, false, List, Ok, Err, sym, ap, ◌∙◌}
use Rattle.std.proofs.lemmas.Option.{none-some, same_Some}
use Rattle.node_rules.specs.Node.{NodeState}
use Rattle.node_rules.specs.Scripts.{ArePurged, MakesPermanent, Outcome, Sweeps, permanent_as, swept_as}
use Rattle.node_types.specs.declared.event.Refusal.TheVariants as refusal
use Rattle.release_statuses.specs.Statuses.{is_permanent, status_of}
use Rattle.release_words.specs.declared.purge.Purge.TheVariants.{Brutal}
use Rattle.unpurged_code.proofs.Gathering.{one_noted, one_swept}

purged-once : (was : Bool) (n : NodeState) (xs ys : List (List ℕ)) → ArePurged was n xs → ArePurged was n ys → xs ≡ ys
purged-once true n xs ys first second = first ∙ sym second
purged-once false n xs ys first second = one_noted Brutal n.modules xs ys first second

pub one_permanent : (vsn : List ℕ) (n : NodeState) (r s : Outcome) → MakesPermanent vsn n r → MakesPermanent vsn n s → r ≡ s
one_permanent vsn n (Err e) (Err f) (it, refused, is) (other, refused_too, also) =
    ap Err (is ∙ ap refusal.OfReleases (same_Some it other (sym refused ∙ refused_too)) ∙ sym also)
one_permanent vsn n (Err e) (Ok b) (it, refused, is) second = absurd (none-some it (sym second.0 ∙ refused))
one_permanent vsn n (Ok a) (Err f) first (it, refused, is) = absurd (none-some it (sym first.0 ∙ refused))
one_permanent vsn n (Ok a) (Ok b) first second =
    let was = is_permanent (status_of vsn n.releases) in
    let names = purged-once was n first.1 second.1 first.2 second.2 in
    ap Ok (first.3 ∙ ap (λ (xs : List (List ℕ)). permanent_as vsn xs n) names ∙ sym second.3)

pub one_sweep : (n : NodeState) (r s : Outcome) → Sweeps n r → Sweeps n s → r ≡ s
one_sweep n (Err e) s first second = absurd first
one_sweep n (Ok a) (Err f) first second = absurd second
one_sweep n (Ok a) (Ok b) first second =
    let names = one_swept n.modules n.processes first.0 second.0 first.1 second.1 in
    ap Ok (first.2 ∙ ap (λ (xs : List (List ℕ)). swept_as xs n) names ∙ sym second.2)
