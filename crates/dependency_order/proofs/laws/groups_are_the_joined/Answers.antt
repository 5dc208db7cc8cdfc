-- Groups are the vertices that are joined.
use Rattle.std.proofs.Common.{ℕ, get_or, subst}
use Rattle.dependency_order.specs.Groups.{IsJoined}
use Rattle.dependency_order.proofs.Chains.{first-joined, joined_back, joined_on}
use Rattle.dependency_order.proofs.laws.groups_are_the_joined.Goals as goal

pub returns : goal.returns
returns c = λ names count firsts are p q one other.
    let f = are.each p one in
    let g = are.each q other in (
      (λ chain. first-joined names p q (get_or firsts p 0) (get_or firsts q 0) chain f g),
      (λ same.
          let To : ℕ → Type 0 = λ r. IsJoined names p r in
          joined_on names p (get_or firsts q 0) q (subst To same f.joined) (joined_back names q (get_or firsts q 0) g.joined)),
    )
