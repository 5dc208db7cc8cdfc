-- It is the one finding of its kind.
use Rattle.std.proofs.Common.{◌≡◌, ◌∙◌, false, true≢false, sym, ap}
use Rattle.upgrade_review.proofs.Adding.{adds_nothing}
use Rattle.upgrade_review.proofs.Noting.{noted}
use Rattle.upgrade_review.specs.Calls.{IsOutsideCall, is_known, is_on_each_node}
use Rattle.upgrade_review.specs.declared.finding.Finding.TheVariants.{CallsOutside}
use Rattle.upgrade_review.proofs.calls.note_outside.Goals as goal

pub returns : goal.returns
returns c =
    let left = c.args.left.now in
    let installed = c.args.installed.now in
    let caller = c.args.caller.now in
    let call = c.args.call.now in
    let told = CallsOutside c.in_ok-caller.caller c.in_ok-call.call in
    let unknown : is_known call.«module» left installed ≡ false = sym c.is_known.ensures ∙ c.if-is_known.false in
    let no_start : is_on_each_node call ≡ false = sym c.is_on_each_node.ensures ∙ c.if-is_on_each_node.false in
    let same : told ≡ CallsOutside caller call =
    ap (λ it. CallsOutside it c.in_ok-call.call) c.in_ok-caller.ensures ∙ ap (CallsOutside caller) c.in_ok-call.ensures in
    noted _ (IsOutsideCall left installed caller call) told _ _ (unknown, no_start, same) (λ f w. w.2 ∙ sym same) c.note.ensures

pub returns-then-is_known : goal.returns-then-is_known
returns-then-is_known c =
    adds_nothing (IsOutsideCall c.args.left.now c.args.installed.now c.args.caller.now c.args.call.now) c.args.found.now.items
    (λ f w. true≢false (sym c.if-is_known.true ∙ c.is_known.ensures ∙ w.0))

pub returns-then-is_on_each_node : goal.returns-then-is_on_each_node
returns-then-is_on_each_node c =
    adds_nothing (IsOutsideCall c.args.left.now c.args.installed.now c.args.caller.now c.args.call.now) c.args.found.now.items
    (λ f w. true≢false (sym c.if-is_on_each_node.true ∙ c.is_on_each_node.ensures ∙ w.1))
