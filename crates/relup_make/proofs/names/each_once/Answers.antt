-- A name that stands first here is one more.
use Rattle.std.proofs.Common.{◌≡◌, true, ap, ◌∙◌}
use Rattle.relup_make.proofs.Indices.{once_begun, once_pushed, once_passed_in}
use Rattle.relup_make.proofs.names.each_once.Goals as goal
use Rattle.relup_make.proofs.names.each_once.Goals.{then-is_first_at+in_ok-copy+in_ok-push, else-is_first_at}

pub loop-i-init : goal.loop-i-init
loop-i-init c = once_begun c.as_slice-items.result.now c.new-firsts.result.items c.new-firsts.ensures.items

pub loop-i-preserved : goal.loop-i-preserved
loop-i-preserved c =
    let items = c.as_slice-items.result.now in
    let i = c.loop-i.i in
    let name = c.index-items-i.result in
    let seen = c.as_slice-items.ensures in
    elim c.if-is_first_at.branch [
      | then-is_first_at+in_ok-copy+in_ok-push w ↦
          once_pushed c.in_ok-names.names items c.loop-i.firsts.items _ i name w.in_ok-copy.field-0 seen c.loop-i-test.true c.index-items-i.is (c.is_first_at.ensures.0 w.if-is_first_at.true) w.in_ok-copy.ensures (ap (λ v. v.items) w.firsts-is ∙ w.in_ok-push.ensures.items) c.loop-i.invariant
      | else-is_first_at w ↦
          once_passed_in c.in_ok-names.names items c.loop-i.firsts.items _ i name seen c.loop-i-test.true c.index-items-i.is (λ e. let t = c.is_first_at.ensures.1 e in let f = w.if-is_first_at.false in let never : c.is_first_at.result ≡ true = t in cc) (ap (λ v. v.items) w.firsts-is) c.loop-i.invariant
    ]
