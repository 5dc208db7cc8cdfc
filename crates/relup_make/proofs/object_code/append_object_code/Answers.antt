-- One application after the other, where it stands first.
use Rattle.std.proofs.Common.{◌≡◌, ◌<◌, length, get_or, ap, ◌∙◌, refl}
use Rattle.std.proofs.lemmas.List.{get_or_default}
use Rattle.low_instructions.specs.declared.low.Low.{Low}
use Rattle.low_instructions.specs.declared.low.Low.TheVariants.{LoadObjectCode}
use Rattle.high_instructions.specs.Forms.{Name}
use Rattle.relup_make.specs.Dealt.{names_of_pairs}
use Rattle.relup_make.specs.Releases.{version_in}
use Rattle.relup_make.specs.Scripts.{modules_of}
use Rattle.relup_make.specs.Ways.{way_of}
use Rattle.relup_make.specs.Work.{target}
use Rattle.relup_make.proofs.Dealing.{code_begun, code_here}
use Rattle.relup_make.proofs.object_code.append_object_code.Goals as goal

pub loop-i-init : goal.loop-i-init
loop-i-init c =
    let F : Name → Low = λ app. LoadObjectCode app (version_in app (target (way_of c.args.way.now))) (modules_of app c.args.loaded.now) in
    code_begun F (names_of_pairs c.args.loaded.now) c.args.script.now.items

pub loop-i-preserved : goal.loop-i-preserved
loop-i-preserved c =
    let F : Name → Low = λ app. LoadObjectCode app (version_in app (target (way_of c.args.way.now))) (modules_of app c.args.loaded.now) in
    let pairs = c.args.loaded.now in
    let i = c.loop-i.i in
    let p = get_or pairs i c.index-loaded-i.result in
    let pile = c.index.result.now in
    let piles = c.in_ok-piles.piles.items in
    let named : c.in_ok-names-2.names ≡ names_of_pairs pairs = c.in_ok-names-2.ensures ∙ c.in_ok-names.ensures in
    let low : i < length pairs = c.loop-i-test.true in
    let read : pile ≡ get_or piles i pile = c.index.ensures in
    let lent : c.as_slice.result.now ≡ pile.items = c.as_slice.ensures.value in
    code_here F c.in_ok-names-2.names pairs i p c.as_slice.result.now (version_in p.0 (target (way_of c.args.way.now))) c.loop-i.script.items c.append_at.new.script.items _ (λ app version modules. LoadObjectCode app version modules) low (get_or_default pairs i c.index-loaded-i.result p low) named refl (lent ∙ ap (λ v. v.items) read ∙ c.in_ok-piles.ensures.each i pile low) c.in_ok-append_at.ensures c.loop-i.invariant
