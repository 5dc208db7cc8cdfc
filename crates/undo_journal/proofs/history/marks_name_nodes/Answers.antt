-- Serials rise, so a mark has one station at most.
use Rattle.std.proofs.Common.{◌≡◌, ℕ, ◌<◌, ◌≤◌, Option, Some, None, IfSome, refl}
use Rattle.undo_journal.specs.Timeline.{Timeline, cut_to, forgotten_to, node_at, IsOrdered}
use Rattle.undo_journal.proofs.Histories.{node_at-event, node_at-cut, node_at-forgotten, node_at-after}
use Rattle.undo_journal.proofs.Floors.{floor-after}
use Rattle.undo_journal.proofs.history.marks_name_nodes.Goals as goal

if_cut : {S N : Type 0} (end mark : ℕ) (t : Timeline S N) (o : Option (Timeline S N)) → IsOrdered t → cut_to end t ≡ o → IfSome o (λ u. (mark ≤ end → node_at mark u ≡ node_at mark t) × (end < mark → node_at mark u ≡ None))
if_cut end mark t None ordered is = tt
if_cut end mark t (Some u) ordered is = node_at-cut end mark t u ordered is

if_alive : {S : Type 0} (o p : Option S) → ((n : S) → o ≡ Some n → p ≡ Some n) → IfSome o (λ n. p ≡ Some n)
if_alive None p named = tt
if_alive (Some n) p named = named n refl

if_kept : {S N : Type 0} (floor mark : ℕ) (t : Timeline S N) (o : Option (Timeline S N)) → IsOrdered t → forgotten_to floor t ≡ o → IfSome o (λ u. (floor ≤ mark → node_at mark u ≡ node_at mark t) × (mark < floor → node_at mark u ≡ None))
if_kept floor mark t None ordered is = tt
if_kept floor mark t (Some u) ordered is = node_at-forgotten floor mark t u ordered is

pub returns-clause-steps_keep : goal.returns-clause-steps_keep
returns-clause-steps_keep g c = λ t event mark r ordered given ruled.
    node_at-event g.S.Reversible.rule mark t r given

pub returns-clause-undos_cut : goal.returns-clause-undos_cut
returns-clause-undos_cut g c = λ t end mark ordered. if_cut end mark t (cut_to end t) ordered refl

pub returns-clause-forgets_drop : goal.returns-clause-forgets_drop
returns-clause-forgets_drop g c = λ t floor mark ordered. if_kept floor mark t (forgotten_to floor t) ordered refl

pub returns-clause-never_again : goal.returns-clause-never_again
returns-clause-never_again g c = λ t u commands mark ordered given are.
    if_alive (node_at mark u) (node_at mark t) (λ n. node_at-after g.S.Reversible.rule mark commands t u n are ordered given)

pub returns-clause-floor_rises : goal.returns-clause-floor_rises
returns-clause-floor_rises g c = λ t u commands ordered are. floor-after g.S.Reversible.rule commands t u are ordered
