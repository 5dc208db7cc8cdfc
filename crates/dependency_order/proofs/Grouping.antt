-- Vertices in groups, each in its two orders: all together.
use Rattle.std.proofs.Common.{◌≡◌, ◌<◌, ℕ, Bool, true, false, not, List, length, eqb, map, All, sym, ap, ◌∙◌, refl, subst, arith}
use Rattle.std.proofs.lemmas.Bool.{and_parts}
use Rattle.dependency_order.specs.declared.group.Group.{Group}
use Rattle.dependency_order.specs.declared.vertex.Vertex.{Vertex}
use Rattle.dependency_order.specs.Dealt.{is_of, part_of}
use Rattle.dependency_order.specs.Forests.{AreFlatTrees}
use Rattle.dependency_order.specs.Groups.{leaders, members}
use Rattle.dependency_order.specs.Left.{waits_by}
use Rattle.dependency_order.specs.Links.{AreNumbered, linked}
use Rattle.dependency_order.specs.Lists.{IsRelation, is_named, is_on, upto}
use Rattle.dependency_order.specs.Orders.{AreOrderedGroups, IsOrderOf, for_dependants, for_dependencies}
use Rattle.dependency_order.proofs.Dealing.{all_ordered, order_of_part}
use Rattle.dependency_order.proofs.Linking.{are_firsts, dependants_wait, dependencies_wait, linked-same}
use Rattle.dependency_order.proofs.Takings.{stands-times, times-stands}
use Rattle.dependency_order.proofs.Upto.{all-from_stands, below-upto}

-- an order has vertices alone
pub order-below : (waits : ℕ → ℕ → Bool) (n : ℕ) (order : List ℕ) → IsOrderOf waits (upto n) order → All (λ p. p < n) order
order-below waits n order is =
    all-from_stands n order
    (λ p there. let some = stands-times p order there in let e = is.same p in below-upto n p (times-stands p (upto n) (omega (arith, some, e))))

module _ (vertices : List Vertex) (naming namers standing on : List (List ℕ)) (numbered : AreNumbered (length vertices) vertices)
    (names_them : IsRelation (is_named vertices) (length vertices) naming namers) (are_on : IsRelation (is_on vertices) (length vertices) standing on)
    (ps : List ℕ) (flat : AreFlatTrees on namers ps) where
  same_first : (p q f : ℕ) → linked vertices p q ≡ true → is_of ps f p ≡ is_of ps f q
  same_first p q f is = ap (λ r. eqb r f) (linked-same vertices naming namers standing on numbered names_them are_on ps flat p q is)

  pub grouped : (one another : List ℕ) (groups : List Group) → IsOrderOf (waits_by naming standing true) (upto (length naming)) one → IsOrderOf (waits_by standing naming false) (upto (length standing)) another →
      groups ≡ map (part_of ps one another) (leaders ps) → AreOrderedGroups (linked vertices) (length vertices) groups
  grouped one another groups first second is =
      let firsts = are_firsts vertices naming namers standing on numbered names_them are_on ps flat in
      let Of : (ℕ → ℕ → Bool) → ℕ → List ℕ → Type 0 = λ waits n order. IsOrderOf waits (upto n) order in
      let dependencies : IsOrderOf (for_dependencies (linked vertices)) (upto (length ps)) one =
      subst (λ (n : ℕ). Of (for_dependencies (linked vertices)) n one) (names_them.of_vertices.many ∙ sym firsts.many)
      (subst (λ (w : ℕ → ℕ → Bool). Of w (length naming) one) (dependencies_wait vertices naming namers standing on numbered names_them are_on) first) in
      let dependants : IsOrderOf (for_dependants (linked vertices)) (upto (length ps)) another =
      subst (λ (n : ℕ). Of (for_dependants (linked vertices)) n another) (are_on.of_vertices.many ∙ sym firsts.many)
      (subst (λ (w : ℕ → ℕ → Bool). Of w (length standing) another) (dependants_wait vertices naming namers standing on numbered names_them are_on) second) in
      let Are : List Group → Type 0 = λ gs. AreOrderedGroups (linked vertices) (length vertices) gs in
      subst Are (sym is)
      (record {
        groups = map (members ps) (leaders ps);
        are = record { firsts = ps; are = firsts; is = refl };
        are_ordered =
            all_ordered (linked vertices) (members ps) (part_of ps one another) (leaders ps)
            (λ f there. record {
              dependencies = order_of_part (for_dependencies (linked vertices)) ps one f (λ p q w. same_first p q f w) dependencies;
              dependants =
                  order_of_part (for_dependants (linked vertices)) ps another f
                  (λ p q w. sym (same_first q p f (and_parts (linked vertices q p) (not (eqb q p)) w).0)) dependants;
            });
      })
