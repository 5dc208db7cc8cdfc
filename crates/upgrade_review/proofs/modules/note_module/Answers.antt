-- It is the one finding of its kind.
use Rattle.std.proofs.Common.{◌≡◌, ◌≢◌, ◌∙◌, ℕ, List, true≢false, false, Some, sym, ap}
use Rattle.upgrade_review.proofs.Adding.{adds_nothing}
use Rattle.upgrade_review.proofs.Noting.{noted}
use Rattle.upgrade_review.specs.Codes.{code_in}
use Rattle.upgrade_review.specs.Gathering.{IsNotLoaded}
use Rattle.upgrade_review.specs.Scripts.{is_loaded}
use Rattle.upgrade_review.specs.declared.finding.Finding.TheVariants.{NotLoaded}
use Rattle.upgrade_review.proofs.modules.note_module.Goals as goal
use Rattle.upgrade_review.proofs.modules.note_module.Goals.{then-is_code-via-then-is_code}
use Rattle.upgrade_review.proofs.modules.note_module.Goals.{then-is_code-via-else-is_code+then-is_loaded}

pub returns : goal.returns
returns c =
    let left = c.args.left.now in
    let script = c.args.script.now in
    let app = c.args.app.now in
    let code = c.args.code.now in
    let module' = c.in_ok-module.«module» in
    let told = NotLoaded c.in_ok-application.application module' in
    let found : code_in c.name.result.now left ≡ code_in code.name left = ap (λ (n : List ℕ). code_in n left) c.name.ensures in
    let differs : code_in code.name left ≢ Some code =
    λ alike. true≢false (sym (c.is_code.ensures.1 (c.code_in.ensures ∙ found ∙ alike)) ∙ c.if-is_code.false) in
    let named = ap (λ (n : List ℕ). is_loaded n script) (sym c.name-else-is_code.ensures) in
    let unloaded : is_loaded code.name script ≡ false = named ∙ sym c.is_loaded.ensures ∙ c.if-is_loaded.false in
    let same : told ≡ NotLoaded app code.name =
    ap (λ (a : List ℕ). NotLoaded a module') c.in_ok-application.ensures ∙
    ap (NotLoaded app) (c.in_ok-module.ensures ∙ c.name-2.ensures) in
    noted _ (IsNotLoaded left script app code) told _ _ (differs, unloaded, same) (λ f w. w.2 ∙ sym same) c.note.ensures

pub returns-then-is_code : goal.returns-then-is_code
returns-then-is_code c =
    let left = c.args.left.now in
    let script = c.args.script.now in
    let code = c.args.code.now in
    let found : code_in c.name.result.now left ≡ code_in code.name left = ap (λ (n : List ℕ). code_in n left) c.name.ensures in
    adds_nothing (IsNotLoaded left script c.args.app.now code) c.args.found.now.items (λ f q. elim c.then-is_code.branch [
      | then-is_code-via-then-is_code w ↦ q.0 (sym found ∙ sym c.code_in.ensures ∙ c.is_code.ensures.0 w.if-is_code.true)
      | then-is_code-via-else-is_code+then-is_loaded w ↦
          let named = ap (λ (n : List ℕ). is_loaded n script) w.name-else-is_code.ensures in
          true≢false (sym w.if-is_loaded.true ∙ w.is_loaded.ensures ∙ named ∙ q.1)
    ])
