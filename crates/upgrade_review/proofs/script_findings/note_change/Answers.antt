-- It is the one finding of its kind.
use Rattle.std.proofs.Common.{◌≡◌, ◌∙◌, false, sym, ap, take}
use Rattle.upgrade_review.proofs.Noting.{noted}
use Rattle.upgrade_review.specs.Codes.{code_behind, is_callback_module}
use Rattle.upgrade_review.specs.Gathering.{IsUnchanged, LacksCodeChange}
use Rattle.upgrade_review.specs.declared.finding.Finding.TheVariants.{NoCodeChange}
use Rattle.upgrade_review.proofs.script_findings.note_change.Goals as goal

pub returns : goal.returns
returns c =
    let left = c.args.left.now in
    let installed = c.args.installed.now in
    let script = c.args.script.now in
    let index = c.args.index in
    let name = c.args.name.now in
    let told = NoCodeChange index c.in_ok-module.«module» in
    let plain : is_callback_module name installed ≡ false = sym c.is_callback_module.ensures ∙ c.if-is_callback_module.false in
    let code = code_behind name (take index script) left installed in
    let lacks : LacksCodeChange code = c.in_ok-lacks_behind.ensures.0 c.if-not-branch.false in
    let same : told ≡ NoCodeChange index name = ap (NoCodeChange index) c.in_ok-module.ensures in
    noted _ (IsUnchanged left installed script index name) told _ _ (plain, lacks, same) (λ f w. w.2 ∙ sym same) c.note.ensures
