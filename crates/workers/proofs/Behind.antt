-- Lines put behind lines that were put behind others.
use Rattle.std.proofs.Common.{◌≡◌, List, ◌++◌, ap, ◌∙◌, append_assoc}
use Rattle.node_history.specs.declared.entry.Line.{Line}
use Rattle.node_lock.specs.Core.{SeatState}
use Rattle.workers.specs.Lines.{with_lines}

pub behind : (old mid new : SeatState) (xs ys : List Line) → mid ≡ with_lines old xs → new ≡ with_lines mid ys → new ≡ with_lines old (xs ++ ys)
behind old mid new xs ys first then =
    let seat : List Line → SeatState = λ ls. record { number = old.number; lines = ls } in
    then ∙ ap (λ (s : SeatState). with_lines s ys) first ∙ ap seat (append_assoc old.lines xs ys)
