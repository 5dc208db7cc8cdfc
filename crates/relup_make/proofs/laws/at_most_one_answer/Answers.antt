-- At most one answer.
use Rattle.std.proofs.Common.{ap, sym, ◌∙◌}
use Rattle.relup_make.specs.Relups.{relup}
use Rattle.relup_make.specs.Work.{downward, jobs, upward}
use Rattle.relup_make.proofs.OneScript.{script_one}
use Rattle.relup_make.proofs.laws.at_most_one_answer.Goals as goal

pub returns : goal.returns
returns c = λ old new appups. record {
  relups = λ one another is too.
      let up = upward old new appups in
      let down = downward old new appups in
      let ups = script_one up (jobs up) is.up too.up is.is_up too.is_up in
      let downs = script_one down (jobs down) is.down too.down is.is_down too.is_down in
      is.is ∙ ap (λ s. relup old new s is.down) ups ∙ ap (λ s. relup old new too.up s) downs ∙ sym too.is;
  refusals = λ one another is too. let e = sym is ∙ too in cc;
  apart = λ made error is too. let e = sym is.accepted ∙ too in cc;
}
