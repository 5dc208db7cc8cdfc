-- A history with one entry more.
use Rattle.std.proofs.Common.{◌≡◌, List, [], ◌∷◌, ◌++◌, refl, sym, subst, ◌∙◌}
use Rattle.std.proofs.lemmas.List.{append-nil, append_assoc}
use Rattle.node_history.specs.History.{Gives, Legal, NodeTimeline}
use Rattle.node_history.specs.declared.entry.Entry.{Entry}

-- an entry that is what its command gives behind a legal history makes that longer
pub Legal-push : (t : NodeTimeline) (before entries : List Entry) (mid end : NodeTimeline) (e : Entry) → Legal t before entries mid → Gives mid (before ++ entries) e.seat e.command e.answer e.note end → Legal t before (entries ++ e ∷ []) end
Legal-push t before [] mid end e is gives =
    let here = subst (λ (u : NodeTimeline). Gives u (before ++ []) e.seat e.command e.answer e.note end) is gives in
    (end, subst (λ (es : List Entry). Gives t es e.seat e.command e.answer e.note end) (append-nil before) here, refl)
Legal-push t before (x ∷ entries) mid end e (next, gave, legal) gives =
    let there = subst (λ (es : List Entry). Gives mid es e.seat e.command e.answer e.note end) (sym (append_assoc before (x ∷ []) entries)) gives in
    (next, gave, Legal-push next (before ++ x ∷ []) entries mid end e legal there)
