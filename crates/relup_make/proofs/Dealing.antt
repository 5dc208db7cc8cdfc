-- What is loaded, application by application.
use Rattle.std.proofs.Common.{◌≡◌, ℕ, ◌+◌, ◌<◌, ◌≤◌, Bool, true, false, List, [], ◌∷◌, ◌++◌, map, length, get_or, take, drop, Option, Some, None, sym, ap, ◌∙◌, refl, arith}
use Rattle.std.specs.Prelude.{◌==◌, if◌then◌else◌, not}
use Rattle.std.specs.List.{filter, list_any}
use Rattle.std.specs.Option.{option_map_or}
use Rattle.std.specs.Str.{bytes_eq}
use Rattle.std.specs.declared.vec.Vec.{Vec}
use Rattle.std.proofs.lemmas.Bool.{eqb-true, eq-eqb}
use Rattle.std.proofs.lemmas.List.{append-nil, drop_all, take_more}
use Rattle.std.proofs.lemmas.List.Elements.{filter-append, filter_agree}
use Rattle.std.proofs.lemmas.List.{get_or-map, length-map, map-append}
use Rattle.low_instructions.specs.declared.low.Low.{Low}
use Rattle.high_instructions.specs.Forms.{Name, Names}
use Rattle.relup_make.specs.Dealt.{IsDealt, IsPut, dealt, is_first, names_of_pairs}
use Rattle.relup_make.specs.Indexes.{index_of}
use Rattle.relup_make.specs.Scripts.{each_once, modules_of}
use Rattle.relup_make.proofs.Linked.{number_tells}
use Rattle.relup_make.proofs.Indices.{left, left_all, left_first, left_other}

-- Piles

pub dealt_more : (names : Names) (k : ℕ) (pairs : List (Name × Name)) (i : ℕ) (p : Name × Name) → i < length pairs → p ≡ get_or pairs i p → dealt names k (take (i + 1) pairs) ≡ dealt names k (take i pairs) ++ (if is_first names k p.0 then p.1 ∷ [] else [])
dealt_more names k pairs i p within is =
    ap (dealt names k) (take_more pairs i p within ∙ ap (λ q. take i pairs ++ q ∷ []) (sym is))
    ∙ ap (map (λ q. q.1)) (filter-append (λ q. is_first names k q.0) (take i pairs) (p ∷ []))
    ∙ map-append (λ (q : Name × Name). q.1) (filter (λ q. is_first names k q.0) (take i pairs)) (filter (λ q. is_first names k q.0) (p ∷ []))
    ∙ ap (λ ns. dealt names k (take i pairs) ++ ns) (one (is_first names k p.0))
  where
    one : (b : Bool) → map (λ (q : Name × Name). q.1) (if b then p ∷ [] else []) ≡ (if b then p.1 ∷ [] else [])
    one true = refl
    one false = refl

pub put_more : {Z : Type 0} (names : Names) (pairs : List (Name × Name)) (n i : ℕ) (p : Name × Name) (old new : List (Vec Name Z)) → i < length pairs → p ≡ get_or pairs i p → IsPut names p old new → IsDealt names (take i pairs) n old → IsDealt names (take (i + 1) pairs) n new
put_more names pairs n i p old new within is put so_far = record {
  many = put.many ∙ so_far.many;
  each = λ k d low.
      let there : k < length old = omega (arith, so_far.many) in
      put.each k d there ∙ ap (λ ns. ns ++ (if is_first names k p.0 then p.1 ∷ [] else [])) (so_far.each k d low) ∙ sym (dealt_more names k pairs i p within is);
}

-- where nothing is dealt, piles are empty whatever the names
pub undealt : {Z : Type 0} (others names : Names) (n : ℕ) (piles : List (Vec Name Z)) → IsDealt others [] n piles → IsDealt names [] n piles
undealt others names n piles are = record { many = are.many; each = λ k d low. are.each k d low }

-- Object code in order

placed_first : (b : Bool) (index : ℕ) (o : Option ℕ) → option_map_or (λ first. first == index) o false ≡ b → b ≡ true → o ≡ Some index
placed_first b index None is holds = absurd (let never : false ≡ true = is ∙ holds in let contrary : ⊥ = cc in contrary)
placed_first b index (Some f) is holds = ap (λ n. Some n) (eqb-true f index (is ∙ holds))

not_placed : (index : ℕ) (o : Option ℕ) → option_map_or (λ first. first == index) o false ≡ false → o ≡ Some index → ⊥
not_placed index o is e =
    let holds : option_map_or (λ first. first == index) o false ≡ true = ap (λ u. option_map_or (λ first. first == index) u false) e ∙ eq-eqb index index refl in
    cc

-- the pile of an application's first index
pub pile_of : (names : Names) (k : ℕ) (app : Name) (pairs : List (Name × Name)) (pile : Names) → index_of 0 app names ≡ Some k → pile ≡ dealt names k pairs → each_once pile ≡ modules_of app pairs
pile_of names k app pairs pile first is =
    ap each_once (is ∙ ap (map (λ p. p.1)) (filter_agree (λ p. is_first names k p.0) (λ p. bytes_eq p.0 app) (λ p. number_tells names app p.0 k (index_of 0 p.0 names) first refl) pairs))

regrouped : (xs : List Low) (y : Low) (zs : List Low) → (xs ++ y ∷ []) ++ zs ≡ xs ++ y ∷ zs
regrouped [] y zs = refl
regrouped (x ∷ xs) y zs = ap (λ us. x ∷ us) (regrouped xs y zs)

pub code_more : (F : Name → Low) (names : Names) (i : ℕ) (x : Name) (y : Low) (old new whole : List Low) (b : Bool) → i < length names → x ≡ get_or names i x → is_first names i x ≡ b → (index_of 0 x names ≡ Some i → y ≡ F x) → new ≡ old ++ (if b then y ∷ [] else []) → old ++ map F (left i names) ≡ whole → new ++ map F (left (i + 1) names) ≡ whole
code_more F names i x y old new whole true within is here made more so_far =
    let first = placed_first true i (index_of 0 x names) here refl in
    ap (λ ls. ls ++ map F (left (i + 1) names)) (more ∙ ap (λ l. old ++ l ∷ []) (made first))
    ∙ regrouped old (F x) (map F (left (i + 1) names)) ∙ ap (λ ns. old ++ map F ns) (sym (left_first names i x within is first)) ∙ so_far
code_more F names i x y old new whole false within is here made more so_far =
    ap (λ ls. ls ++ map F (left (i + 1) names)) (more ∙ append-nil old)
    ∙ ap (λ ns. old ++ map F ns) (sym (left_other names i x within is (not_placed i (index_of 0 x names) here))) ∙ so_far

pub code_begun : (F : Name → Low) (names : Names) (start : List Low) → start ++ map F (left 0 names) ≡ start ++ map F (each_once names)
code_begun F names start = ap (λ ns. start ++ map F ns) (left_all names)

pub code_ended : (F : Name → Low) (names : Names) (i : ℕ) (so_far whole : List Low) → length names ≤ i → so_far ++ map F (left i names) ≡ whole → so_far ≡ whole
code_ended F names i so_far whole past is =
    sym (ap (λ ns. so_far ++ map F ns) (nothing (take i names) (drop i names) (drop_all i names past)) ∙ append-nil so_far) ∙ is
  where
    nothing : (others ns : Names) → ns ≡ [] → filter (λ n. not (list_any (λ o. bytes_eq o n) others)) (each_once ns) ≡ []
    nothing others ns e = ap (λ ms. filter (λ n. not (list_any (λ o. bytes_eq o n) others)) (each_once ms)) e

-- the same of the pair at an index
pub code_here : (F : Name → Low) (names : Names) (pairs : List (Name × Name)) (i : ℕ) (p : Name × Name) (pile : Names) (version : List ℕ) (old new whole : List Low) (make : Name → List ℕ → Names → Low) → i < length pairs → p ≡ get_or pairs i p → names ≡ names_of_pairs pairs → make p.0 version (modules_of p.0 pairs) ≡ F p.0 → pile ≡ dealt names i pairs → new ≡ old ++ (if is_first names i p.0 then make p.0 version (each_once pile) ∷ [] else []) → old ++ map F (left i (names_of_pairs pairs)) ≡ whole → new ++ map F (left (i + 1) (names_of_pairs pairs)) ≡ whole
code_here F names pairs i p pile version old new whole make low is named same heap more so_far =
    let within : i < length (names_of_pairs pairs) = omega (arith, length-map pairs (λ (q : Name × Name). q.0)) in
    let stands : p.0 ≡ get_or (names_of_pairs pairs) i p.0 = ap (λ q. q.0) is ∙ sym (get_or-map (λ (q : Name × Name). q.0) pairs i p p.0 low) in
    code_more F (names_of_pairs pairs) i p.0 (make p.0 version (each_once pile)) old new whole (is_first (names_of_pairs pairs) i p.0) within stands refl
    (λ first. ap (make p.0 version) (pile_of (names_of_pairs pairs) i p.0 pairs pile first (heap ∙ ap (λ ns. dealt ns i pairs) named)) ∙ same)
    (more ∙ ap (λ ns. old ++ (if is_first ns i p.0 then make p.0 version (each_once pile) ∷ [] else [])) named) so_far
