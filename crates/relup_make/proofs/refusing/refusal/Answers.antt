-- What stands against the base applications stands first where the runtime system is the same.
use Rattle.std.proofs.Common.{◌≡◌, true, ◌++◌, sym, ap, ◌∙◌, rules}
use Rattle.std.specs.Str.{bytes_eq}
use Rattle.relup_make.specs.declared.error.MakeError.TheVariants.{ErtsChanged}
use Rattle.relup_make.specs.Refusals.{base_refusals, first_of, unless, way_refusals}
use Rattle.relup_make.specs.Work.{downward, upward}
use Rattle.relup_make.proofs.Firsts.{first_here}
use Rattle.relup_make.proofs.refusing.refusal.Goals as goal

pub returns-in-Some : goal.returns-in-Some
returns-in-Some c =
    let old = c.args.old.now.whole.now in
    let new = c.args.new.now.whole.now in
    let base = base_refusals old new in
    let up = way_refusals (upward old new c.args.appups.now) in
    let down = way_refusals (downward old new c.args.appups.now) in
    let alike : bytes_eq old.rel.erts new.rel.erts ≡ true = search rules in
    let first = first_here base up c.in-Some.error (sym c.in_ok-error.ensures ∙ c.in-Some.is) in
    sym (ap (λ b. first_of (unless b ErtsChanged ++ base ++ up ++ down)) alike ∙ first_here (base ++ up) down c.in-Some.error first)
