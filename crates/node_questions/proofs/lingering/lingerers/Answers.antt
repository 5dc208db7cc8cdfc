-- Those of one module more.
use Rattle.std.proofs.Common.{◌≡◌, ◌∙◌, ap, sym, ◌++◌, List, ℕ, Some}
use Rattle.std.specs.List.{slice_get}
use Rattle.code_server.specs.declared.modules.Slots.{Slots}
use Rattle.erl_ir.specs.Module.{Forms}
use Rattle.std.specs.Map.Iter.{deref_pair}
use Rattle.std.specs.Option.{option_map}
use Rattle.node_questions.specs.Lingering.{lingerers_of}
use Rattle.node_questions.proofs.Asked.{pieces_next}
use Rattle.node_questions.proofs.lingering.lingerers.Goals as goal

pub loop-index-preserved : goal.loop-index-preserved
loop-index-preserved c =
    let entries = c.args.modules.now.entries in
    let entry : List ℕ × Slots Forms = (c.in-Some.name.now, c.in-Some.slots.now) in
    let is : slice_get entries c.loop-index.index ≡ Some entry =
    sym c.entry.ensures ∙ ap (λ o. option_map deref_pair o) c.in-Some.is in
    c.in_ok-push_lingerers.ensures
    ∙ ap (λ (all : List (List ℕ × ℕ)). all ++ lingerers_of c.args.processes.now entry) c.loop-index.invariant
    ∙ sym (pieces_next (lingerers_of c.args.processes.now) entries c.loop-index.index entry is)
