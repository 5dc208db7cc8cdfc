-- What stands in front of bytes and behind them, and paths of a `.rel` by it.
use Rattle.std.proofs.Common.{◌≡◌, ℕ, ◌+◌, ◌-◌, Bool, true, false, List, ◌++◌, Option, None, Some, Bor, length, take, drop, Contains, refl, sym, ap, ◌∙◌, subst}
use Rattle.std.specs.Prelude.{◌↔◌, not, codes, IsTrue, Decides, MatchOption}
use Rattle.std.specs.Str.{bytes_eq}
use Rattle.std.proofs.lemmas.List.{append_assoc, append_cancel_right, take-append-drop}
use Rattle.std.proofs.lemmas.List.Prefix.{end_rest, front_rest}
use Rattle.std.proofs.lemmas.Slice.Eq.{bytes_eq-Decides}
use Rattle.std.proofs.Math.Seq.{take-append_seam}
use Rattle.release_files.specs.Paths.{IsRelName, rel_path}

pub false_not : (b : Bool) → b ≡ false → b ≡ true → ⊥
false_not b told other = let impossible : ⊥ = cc in impossible

-- Bytes

pub behind_is : (bytes front rest : List ℕ) → bytes_eq (take (length front) bytes) front ≡ true → rest ≡ drop (length front) bytes → bytes ≡ front ++ rest
behind_is bytes front rest same is =
    sym (take-append-drop (length front) bytes) ∙ ap (λ part. part ++ drop (length front) bytes) ((bytes_eq-Decides (take (length front) bytes) front).0 same) ∙ ap (λ part. front ++ part) (sym is)

pub not_behind : (bytes front : List ℕ) → bytes_eq (take (length front) bytes) front ≡ false → (rest : List ℕ) → bytes ≡ front ++ rest → ⊥
not_behind bytes front other rest is =
    false_not (bytes_eq (take (length front) bytes) front) other ((bytes_eq-Decides (take (length front) bytes) front).1 (ap (take (length front)) is ∙ take-append_seam front rest))

pub in_front_is : (bytes ending rest : List ℕ) → bytes_eq (drop (length bytes - length ending) bytes) ending ≡ true → rest ≡ take (length bytes - length ending) bytes → bytes ≡ rest ++ ending
in_front_is bytes ending rest same is =
    let n = length bytes - length ending in
    sym (take-append-drop n bytes) ∙ ap (λ part. take n bytes ++ part) ((bytes_eq-Decides (drop n bytes) ending).0 same) ∙ ap (λ part. part ++ ending) (sym is)

pub not_in_front : (bytes ending : List ℕ) → bytes_eq (drop (length bytes - length ending) bytes) ending ≡ false → (rest : List ℕ) → bytes ≡ rest ++ ending → ⊥
not_in_front bytes ending other rest is =
    false_not (bytes_eq (drop (length bytes - length ending) bytes) ending) other ((bytes_eq-Decides (drop (length bytes - length ending) bytes) ending).1 (end_rest bytes ending rest is))

-- what stands behind the same bytes is the same
rest_is : (bytes front rest other : List ℕ) → bytes ≡ front ++ rest → bytes ≡ front ++ other → rest ≡ other
rest_is bytes front rest other is also = sym (front_rest bytes front rest is) ∙ front_rest bytes front other also

front_is : (bytes ending rest other : List ℕ) → bytes ≡ rest ++ ending → bytes ≡ other ++ ending → rest ≡ other
front_is bytes ending rest other is also = append_cancel_right rest other ending (sym is ∙ also)

-- The paths

-- a path in its parts
parts : (vsn name : List ℕ) → rel_path vsn name ≡ codes "releases/" ++ (vsn ++ (codes "/" ++ (name ++ codes ".rel")))
parts vsn name = append_assoc (codes "releases/") vsn (codes "/" ++ (name ++ codes ".rel"))

pub path_is : (path vsn name first second third : List ℕ) → path ≡ codes "releases/" ++ first → first ≡ vsn ++ second → second ≡ codes "/" ++ third → third ≡ name ++ codes ".rel" → path ≡ rel_path vsn name
path_is path vsn name first second third a b c d =
    a ∙ ap (λ rest. codes "releases/" ++ rest) (b ∙ ap (λ rest. vsn ++ rest) (c ∙ ap (λ rest. codes "/" ++ rest) d)) ∙ sym (parts vsn name)

pub no_first : (path vsn : List ℕ) → ((rest : List ℕ) → path ≡ codes "releases/" ++ rest → ⊥) → (name : List ℕ) → path ≡ rel_path vsn name → ⊥
no_first path vsn none name is = none (vsn ++ (codes "/" ++ (name ++ codes ".rel"))) (is ∙ parts vsn name)

first_is : (path vsn name first : List ℕ) → path ≡ codes "releases/" ++ first → path ≡ rel_path vsn name → first ≡ vsn ++ (codes "/" ++ (name ++ codes ".rel"))
first_is path vsn name first a is = rest_is path (codes "releases/") first (vsn ++ (codes "/" ++ (name ++ codes ".rel"))) a (is ∙ parts vsn name)

pub no_second : (path vsn first : List ℕ) → path ≡ codes "releases/" ++ first → ((rest : List ℕ) → first ≡ vsn ++ rest → ⊥) → (name : List ℕ) → path ≡ rel_path vsn name → ⊥
no_second path vsn first a none name is = none (codes "/" ++ (name ++ codes ".rel")) (first_is path vsn name first a is)

second_is : (path vsn name first second : List ℕ) → path ≡ codes "releases/" ++ first → first ≡ vsn ++ second → path ≡ rel_path vsn name → second ≡ codes "/" ++ (name ++ codes ".rel")
second_is path vsn name first second a b is = rest_is first vsn second (codes "/" ++ (name ++ codes ".rel")) b (first_is path vsn name first a is)

pub no_third : (path vsn first second : List ℕ) → path ≡ codes "releases/" ++ first → first ≡ vsn ++ second → ((rest : List ℕ) → second ≡ codes "/" ++ rest → ⊥) → (name : List ℕ) → path ≡ rel_path vsn name → ⊥
no_third path vsn first second a b none name is = none (name ++ codes ".rel") (second_is path vsn name first second a b is)

pub no_fourth : (path vsn first second third : List ℕ) → path ≡ codes "releases/" ++ first → first ≡ vsn ++ second → second ≡ codes "/" ++ third → ((rest : List ℕ) → third ≡ rest ++ codes ".rel" → ⊥) → (name : List ℕ) → path ≡ rel_path vsn name → ⊥
no_fourth path vsn first second third a b c none name is =
    none name (rest_is second (codes "/") third (name ++ codes ".rel") c (second_is path vsn name first second a b is))

-- a path has one NAME
pub name_is : (path vsn name other : List ℕ) → path ≡ rel_path vsn name → path ≡ rel_path vsn other → name ≡ other
name_is path vsn name other is also =
    let behind_first = first_is path vsn other (vsn ++ (codes "/" ++ (name ++ codes ".rel"))) (is ∙ parts vsn name) also in
    let behind_second = rest_is (vsn ++ (codes "/" ++ (name ++ codes ".rel"))) vsn (codes "/" ++ (name ++ codes ".rel")) (codes "/" ++ (other ++ codes ".rel")) refl behind_first in
    let behind_third = rest_is (codes "/" ++ (name ++ codes ".rel")) (codes "/") (name ++ codes ".rel") (other ++ codes ".rel") refl behind_second in
    front_is (name ++ codes ".rel") (codes ".rel") name other refl behind_third

-- whether a `/` stands in it
pub told_by_name : (path vsn name : List ℕ) (has_slash : Bool) → path ≡ rel_path vsn name → Decides has_slash (Contains name 47) → IsTrue (not has_slash) ↔ IsRelName vsn path
told_by_name path vsn name true is decides =
    (λ no. absurd (let impossible : ⊥ = cc in impossible), λ other. absurd (other.no_slash (subst (λ name. Contains name 47) (name_is path vsn name other.name is other.is) (decides.0 refl))))
told_by_name path vsn name false is decides =
    (λ yes. record { name = name; is = is; no_slash = λ stands. false_not false refl (decides.1 stands) }, λ other. refl)

pub told_by_none : (path vsn : List ℕ) → ((name : List ℕ) → path ≡ rel_path vsn name → ⊥) → IsTrue false ↔ IsRelName vsn path
told_by_none path vsn none = (λ yes. absurd (false_not false refl yes), λ other. absurd (none other.name other.is))

-- What the program finds of it

pub behind_told : (bytes front : List ℕ) (found : Option (Bor (List ℕ))) → MatchOption found (bytes_eq (take (length front) bytes) front ≡ false) (λ rest. (bytes_eq (take (length front) bytes) front ≡ true) × (rest.now ≡ drop (length front) bytes) × (length rest.now + length front ≡ length bytes)) → MatchOption found ((rest : List ℕ) → bytes ≡ front ++ rest → ⊥) (λ rest. bytes ≡ front ++ rest.now)
behind_told bytes front None other = not_behind bytes front other
behind_told bytes front (Some rest) found = behind_is bytes front rest.now found.0 found.1

pub in_front_told : (bytes ending : List ℕ) (found : Option (Bor (List ℕ))) → MatchOption found (bytes_eq (drop (length bytes - length ending) bytes) ending ≡ false) (λ rest. (bytes_eq (drop (length bytes - length ending) bytes) ending ≡ true) × (rest.now ≡ take (length bytes - length ending) bytes) × (length rest.now + length ending ≡ length bytes)) → MatchOption found ((rest : List ℕ) → bytes ≡ rest ++ ending → ⊥) (λ rest. bytes ≡ rest.now ++ ending)
in_front_told bytes ending None other = not_in_front bytes ending other
in_front_told bytes ending (Some rest) found = in_front_is bytes ending rest.now found.0 found.1

pub name_told : (path vsn first second third : List ℕ) (found : Option (Bor (List ℕ))) → path ≡ codes "releases/" ++ first → first ≡ vsn ++ second → second ≡ codes "/" ++ third → MatchOption found ((rest : List ℕ) → third ≡ rest ++ codes ".rel" → ⊥) (λ rest. third ≡ rest.now ++ codes ".rel") → MatchOption found ((name : List ℕ) → path ≡ rel_path vsn name → ⊥) (λ name. path ≡ rel_path vsn name.now)
name_told path vsn first second third None a b c none = no_fourth path vsn first second third a b c none
name_told path vsn first second third (Some name) a b c is = path_is path vsn name.now first second third a b c is
