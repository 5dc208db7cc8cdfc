-- Dependencies by the numbers of modules.
use Rattle.std.proofs.Common.{◌≡◌, ◌<◌, ℕ, zero, suc, Bool, true, false, not, ◌&&◌, inl, inr, List, [], ◌∷◌, length, eqb, Option, Some, None, slice_get, get_or, sym, ap, ◌∙◌, refl, subst, arith}
use Rattle.std.specs.Option.{option_map_or}
use Rattle.std.proofs.lemmas.Bool.{cases_lt, eq-eqb, eqb-true, false≢true}
use Rattle.std.proofs.lemmas.List.{get_or_past}
use Rattle.std.proofs.lemmas.List.Folds.{list_any_at}
use Rattle.std.proofs.lemmas.Option.{slice_get_within}
use Rattle.dependency_order.specs.declared.vertex.Vertex.{Vertex}
use Rattle.dependency_order.specs.Forests.{AreFlatTrees, parent}
use Rattle.dependency_order.specs.Groups.{AreFirsts, IsJoined}
use Rattle.dependency_order.specs.Left.{AreBothWays, meets, waits_by}
use Rattle.dependency_order.specs.Links.{AreNumbered, linked, names}
use Rattle.dependency_order.specs.Lists.{IsRelation, is_named, is_on, row, upto}
use Rattle.dependency_order.specs.Orders.{for_dependants, for_dependencies, stands}
use Rattle.dependency_order.proofs.Entering.{filter-agree}
use Rattle.dependency_order.proofs.Takings.{agree}
use Rattle.dependency_order.proofs.Upto.{below-upto, passes, stands-filtered}
use Rattle.dependency_order.proofs.Waiting.{vertex_of}
use mathlib.Core.Path.{fun_ext}

-- What links two vertices

pub record Link (vertices : List Vertex) (p q : ℕ) : Type 0 where
  pub by : ℕ
  pub named : is_named vertices p by ≡ true
  pub on : is_on vertices q by ≡ true

record Both (one other : Option Vertex) : Type 0 where
  pub first : Vertex
  pub second : Vertex
  pub is_first : one ≡ Some first
  pub is_second : other ≡ Some second
  pub links : names first second ≡ true

both_of : (one other : Option Vertex) → option_map_or (λ (a : Vertex). option_map_or (λ (b : Vertex). names a b) other false) one false ≡ true → Both one other
both_of None other is = absurd (false≢true is)
both_of (Some a) None is = absurd (false≢true is)
both_of (Some a) (Some b) is = record { first = a; second = b; is_first = refl; is_second = refl; links = is }

pub link-of : (vertices : List Vertex) (p q : ℕ) → linked vertices p q ≡ true → Link vertices p q
link-of vertices p q is =
    let both = both_of (slice_get vertices p) (slice_get vertices q) is in
    record {
      by = both.second.module;
      named = ap (λ o. option_map_or (λ (a : Vertex). stands both.second.module a.dependencies) o false) both.is_first ∙ both.links;
      on = ap (λ o. option_map_or (λ (b : Vertex). eqb b.module both.second.module) o false) both.is_second ∙ eq-eqb both.second.module both.second.module refl;
    }

linked-from : (one other : Option Vertex) (k : ℕ) → option_map_or (λ (a : Vertex). stands k a.dependencies) one false ≡ true → option_map_or (λ (b : Vertex). eqb b.module k) other false ≡ true →
    option_map_or (λ (a : Vertex). option_map_or (λ (b : Vertex). names a b) other false) one false ≡ true
linked-from None other k named on = absurd (false≢true named)
linked-from (Some a) None k named on = absurd (false≢true on)
linked-from (Some a) (Some b) k named on =
    let In : ℕ → Type 0 = λ m. stands m a.dependencies ≡ true in subst In (sym (eqb-true b.module k on)) named

pub linked-by : (vertices : List Vertex) (p q k : ℕ) → is_named vertices p k ≡ true → is_on vertices q k ≡ true → linked vertices p q ≡ true
linked-by vertices p q k named on = linked-from (slice_get vertices p) (slice_get vertices q) k named on

-- a vertex that has something is one
some-below : (vertices : List Vertex) (p : ℕ) (test : Vertex → Bool) (o : Option Vertex) → slice_get vertices p ≡ o → option_map_or test o false ≡ true → p < length vertices
some-below vertices p test None is so = absurd (false≢true so)
some-below vertices p test (Some a) is so = slice_get_within vertices p a is

pub named-below : (vertices : List Vertex) (p k : ℕ) → is_named vertices p k ≡ true → p < length vertices
named-below vertices p k is = some-below vertices p (λ a. stands k a.dependencies) (slice_get vertices p) refl is

pub on-below : (vertices : List Vertex) (p k : ℕ) → is_on vertices p k ≡ true → p < length vertices
on-below vertices p k is = some-below vertices p (λ a. eqb a.module k) (slice_get vertices p) refl is

got_item : (vertices : List Vertex) (p : ℕ) (a d : Vertex) → slice_get vertices p ≡ Some a → get_or vertices p d ≡ a
got_item [] p a d is = absurd (let never : ⊥ = cc in never)
got_item (x ∷ xs) zero a d is = cc
got_item (x ∷ xs) (suc p) a d is = got_item xs p a d is

module-small : (vertices : List Vertex) (n p k : ℕ) (o : Option Vertex) → AreNumbered n vertices → slice_get vertices p ≡ o → option_map_or (λ (b : Vertex). eqb b.module k) o false ≡ true → k < n
module-small vertices n p k None all is on = absurd (false≢true on)
module-small vertices n p k (Some b) all is on =
    let Small : Vertex → Type 0 = λ a. a.module < n in
    let low : b.module < n = subst Small (got_item vertices p b b is) (all p b (slice_get_within vertices p b is)).0 in
    let same = eqb-true b.module k on in
    omega (arith, low, same)

pub module-numbered : (vertices : List Vertex) (n p k : ℕ) → AreNumbered n vertices → is_on vertices p k ≡ true → k < n
module-numbered vertices n p k all on = module-small vertices n p k (slice_get vertices p) all refl on

-- Relations

pub both_ways : (has : ℕ → ℕ → Bool) (count : ℕ) (modules vertices : List (List ℕ)) → IsRelation has count modules vertices → AreBothWays count modules vertices
both_ways has count modules vertices is = record {
  many_modules = is.of_vertices.many;
  many_vertices = is.of_modules.many;
  back = λ k below.
      is.of_modules.rows k below ∙
      filter-agree (λ p. has p k) (λ p. stands k (row modules p)) (upto count)
      (λ p there. let in' = below-upto count p there in sym (ap (stands k) (is.of_vertices.rows p in') ∙ stands-filtered (λ j. has p j) count k below));
  forth = λ p below.
      is.of_vertices.rows p below ∙
      filter-agree (λ k. has p k) (λ k. stands p (row vertices k)) (upto count)
      (λ k there. let in' = below-upto count k there in sym (ap (stands p) (is.of_modules.rows k in') ∙ stands-filtered (λ q. has q k) count p below));
}

module _ (a b : ℕ → ℕ → Bool) (count : ℕ) (asks askers gives givers : List (List ℕ)) (asking : IsRelation a count asks askers) (giving : IsRelation b count gives givers)
    (a_below : (p k : ℕ) → a p k ≡ true → p < count) (b_below : (p k : ℕ) → b p k ≡ true → p < count) where
  has-row : (p k : ℕ) → p < count → k < count → a p k ≡ true → stands k (row asks p) ≡ true
  has-row p k in' below so = ap (stands k) (asking.of_vertices.rows p in') ∙ stands-filtered (λ j. a p j) count k below ∙ so

  gives-row : (q k : ℕ) → q < count → k < count → b q k ≡ true → stands k (row gives q) ≡ true
  gives-row q k in' below so = ap (stands k) (giving.of_vertices.rows q in') ∙ stands-filtered (λ j. b q j) count k below ∙ so

  pub meets-by : (p q k : ℕ) → k < count → a p k ≡ true → b q k ≡ true → meets asks gives p q ≡ true
  meets-by p q k below one other =
      let asked = has-row p k (a_below p k one) below one in
      let given = gives-row q k (b_below q k other) below other in
      let at' = vertex_of (λ j. eqb j k) (row asks p) asked in
      let e = eqb-true (get_or (row asks p) at'.at' 0) k at'.passes in
      list_any_at (λ j. stands j (row gives q)) (row asks p) at'.at' 0 at'.below (ap (λ j. stands j (row gives q)) e ∙ given)

-- a module in a vertex's row is one that it has
has-of : (has : ℕ → ℕ → Bool) (count : ℕ) (modules vertices : List (List ℕ)) (p k : ℕ) → IsRelation has count modules vertices → stands k (row modules p) ≡ true → has p k ≡ true
has-of has count modules vertices p k is there =
    elim (cases_lt p count) [
      | inl below ↦ (passes (λ j. has p j) k (upto count) (sym (ap (stands k) (is.of_vertices.rows p below)) ∙ there)).0
      | inr past ↦ let many = is.of_vertices.many in absurd (false≢true (sym (ap (stands k) (get_or_past modules p [] (omega (arith, past, many)))) ∙ there))
    ]

pub record Meeting (a b : ℕ → ℕ → Bool) (p q : ℕ) : Type 0 where
  pub by : ℕ
  pub asked : a p by ≡ true
  pub given : b q by ≡ true

pub meeting-of : (a b : ℕ → ℕ → Bool) (count : ℕ) (asks askers gives givers : List (List ℕ)) (p q : ℕ) → IsRelation a count asks askers → IsRelation b count gives givers → meets asks gives p q ≡ true → Meeting a b p q
meeting-of a b count asks askers gives givers p q asking giving is =
    let at' = vertex_of (λ j. stands j (row gives q)) (row asks p) is in
    let k = get_or (row asks p) at'.at' 0 in
    let there = list_any_at (λ j. eqb j k) (row asks p) at'.at' 0 at'.below (eq-eqb k k refl) in
    record { by = k; asked = has-of a count asks askers p k asking there; given = has-of b count gives givers q k giving at'.passes }

-- The two orders' waits are those of the links.

and-true : (a : Bool) → (a && true) ≡ a
and-true true = refl
and-true false = refl

module _ (vertices : List Vertex) (naming namers standing on : List (List ℕ)) (numbered : AreNumbered (length vertices) vertices)
    (names_them : IsRelation (is_named vertices) (length vertices) naming namers) (are_on : IsRelation (is_on vertices) (length vertices) standing on) where
  pub dependencies_wait : waits_by naming standing true ≡ for_dependencies (linked vertices)
  dependencies_wait = fun_ext (λ p. fun_ext (λ q. and-true (meets naming standing p q) ∙ same p q))
    where
      same : (p q : ℕ) → meets naming standing p q ≡ linked vertices p q
      same p q =
          agree (meets naming standing p q) (linked vertices p q)
          (λ met. let m = meeting-of (is_named vertices) (is_on vertices) (length vertices) naming namers standing on p q names_them are_on met in linked-by vertices p q m.by m.asked m.given)
          (λ link.
          let l = link-of vertices p q link in
          meets-by (is_named vertices) (is_on vertices) (length vertices) naming namers standing on names_them are_on (named-below vertices) (on-below vertices) p q l.by
          (module-numbered vertices (length vertices) q l.by numbered l.on) l.named l.on)

  pub dependants_wait : waits_by standing naming false ≡ for_dependants (linked vertices)
  dependants_wait = fun_ext (λ p. fun_ext (λ q. ap (λ t. t && not (eqb q p)) (same p q)))
    where
      same : (p q : ℕ) → meets standing naming p q ≡ linked vertices q p
      same p q =
          agree (meets standing naming p q) (linked vertices q p)
          (λ met. let m = meeting-of (is_on vertices) (is_named vertices) (length vertices) standing on naming namers p q are_on names_them met in linked-by vertices q p m.by m.given m.asked)
          (λ link.
          let l = link-of vertices q p link in
          meets-by (is_on vertices) (is_named vertices) (length vertices) standing on naming namers are_on names_them (on-below vertices) (named-below vertices) p q l.by
          (module-numbered vertices (length vertices) p l.by numbered l.on) l.on l.named)

  module _ (ps : List ℕ) (flat : AreFlatTrees on namers ps) where
    many_on : length on ≡ length vertices
    many_on = are_on.of_modules.many

    on-row : (q k : ℕ) → k < length vertices → is_on vertices q k ≡ true → stands q (row on k) ≡ true
    on-row q k below so = ap (stands q) (are_on.of_modules.rows k below) ∙ stands-filtered (λ p. is_on vertices p k) (length vertices) q (on-below vertices q k so) ∙ so

    named-row : (q k : ℕ) → k < length vertices → is_named vertices q k ≡ true → stands q (row namers k) ≡ true
    named-row q k below so = ap (stands q) (names_them.of_modules.rows k below) ∙ stands-filtered (λ p. is_named vertices p k) (length vertices) q (named-below vertices q k so) ∙ so

    -- linked vertices have one root
    pub linked-same : (p q : ℕ) → linked vertices p q ≡ true → parent ps p ≡ parent ps q
    linked-same p q is =
        let l = link-of vertices p q is in
        let below = module-numbered vertices (length vertices) q l.by numbered l.on in
        let many = many_on in
        sym (flat.trees.tied (parent ps) flat.flat l.by q p (omega (arith, below, many)) (on-row q l.by below l.on) (named-row p l.by below l.named))

    joined-same : (p q : ℕ) → p < length vertices → IsJoined (linked vertices) p q → (parent ps p ≡ parent ps q) × (q < length vertices)
    joined-same p q below IsJoined.itself = (refl, below)
    joined-same p q below (IsJoined.naming {q = r} chain link) =
        let on' = joined-same p r below chain in
        (on'.0 ∙ linked-same r q link, on-below vertices q (link-of vertices r q link).by (link-of vertices r q link).on)
    joined-same p q below (IsJoined.named {q = r} chain link) =
        let on' = joined-same p r below chain in
        (on'.0 ∙ sym (linked-same q r link), named-below vertices q (link-of vertices q r link).by (link-of vertices q r link).named)

    sound_links : (k p q : ℕ) → k < length on → stands p (row on k) ≡ true → stands q (row namers k) ≡ true → IsJoined (linked vertices) p q
    sound_links k p q below one other =
        let many = many_on in
        let in' : k < length vertices = omega (arith, below, many) in
        let is_p = (passes (λ r. is_on vertices r k) p (upto (length vertices)) (sym (ap (stands p) (are_on.of_modules.rows k in')) ∙ one)).0 in
        let is_q = (passes (λ r. is_named vertices r k) q (upto (length vertices)) (sym (ap (stands q) (names_them.of_modules.rows k in')) ∙ other)).0 in
        IsJoined.named IsJoined.itself (linked-by vertices q p k is_q is_p)

    pub are_firsts : AreFirsts (linked vertices) (length vertices) ps
    are_firsts =
        let many : length ps ≡ length vertices = flat.trees.many ∙ many_on in
        record {
          many = many;
          each = λ p below.
              record {
                joined = flat.trees.sound (linked vertices) sound_links p (omega (arith, below, many));
                least = λ q chain.
                    let on' = joined-same p q below chain in
                    let low = on'.1 in
                    let same = on'.0 in
                    let behind = flat.trees.forest q (omega (arith, low, many)) in
                    omega (arith, same, behind);
              };
        }
