-- Nothing stands at any of the pids.
use Rattle.std.proofs.Common.{ℕ, List, ◌∙◌, suc, ap}
use Rattle.std.specs.BTreeMap.{get, is_at}
use Rattle.std.specs.Map.{lookup}
use Rattle.std.specs.Ordering.{nat_cmp}
use Rattle.process_index.specs.Standing.{vacant}
use Rattle.process_index.proofs.Standing.{standing-vacant}
use Rattle.process_index.proofs.slots.Slots.vacant.Goals as goal

pub returns : goal.returns
returns g c =
    standing-vacant (get nat_cmp c.self.inside.living) (get nat_cmp c.new.result) (λ q. ap (λ (es : List (ℕ × g.row.T.Denot)). lookup (is_at (nat_cmp q)) es) c.new.ensures.empty) 0 (suc c.self.inside.last) ∙ ap vacant c.self.view_is
