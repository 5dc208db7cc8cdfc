-- What is read in a row is written in a row.
use Rattle.std.proofs.Common.{◌≡◌, ℕ, zero, suc, ◌≤◌, List, [], ◌∷◌, length, Option, Some, None, ap, subst, sym, ◌∙◌, refl, arith}
use Rattle.std.proofs.lemmas.Option.{none-some, same_Some}
use Rattle.erl_scan.specs.declared.mark.Mark.TheVariants as marks
use Rattle.erl_ast.specs.declared.role.Role.{Role}
use Rattle.erl_ast.specs.Terminal.{Terminal, mark}
use Rattle.erl_ast.specs.Tree.{Tree, Trees, none, more, tree_count, trees_depth}
use Rattle.erl_ast.specs.Grammar.{AreWell}
use Rattle.erl_ast.specs.Written.{written, row_written, others_written}
use Rattle.erl_expressions.specs.declared.delimiter.Delimiter.{Delimiter}
use Rattle.erl_expressions.specs.declared.delimiter.Delimiter.TheVariants.{Comma}
use Rattle.erl_expressions.specs.Delimiters.{delimiter, after}
use Rattle.erl_expressions.specs.Reading.{Found, Reader, other_things, separated, row, with_more, with_last, rest_of_row}
use Rattle.erl_expressions.specs.Readings.{BeginsWith}
use Rattle.erl_expressions.proofs.Inversion.{inverts, after_is}

-- what a reader of one level less reads is there
abbrev pub Sound : Reader → ℕ → Type 0
Sound p n = (role : Role) (most : ℕ) (ts : List Terminal) (t : Tree) (rest : List Terminal) → 1 ≤ most →
    p role most ts ≡ Some (t, rest) → BeginsWith role most n ts t rest

-- Things in a row, with a delimiter between them: what is true of each.
pub data Things {A : Type 0} (d : Delimiter) (Is : List Terminal → A → List Terminal → Type 0) : List Terminal → List A → List Terminal → Type 0 where
  only : {ts : List Terminal} {x : A} {rest : List Terminal} → Is ts x rest → Things d Is ts (x ∷ []) rest
  then_more : {ts more : List Terminal} {x : A} {xs : List A} {rest : List Terminal} →
      Is ts x (delimiter d ∷ more) → Things d Is more xs rest → Things d Is ts (x ∷ xs) rest

module _ {A : Type 0} (d : Delimiter) (read : List Terminal → Found A) (Is : List Terminal → A → List Terminal → Type 0)
    (reads : (ts : List Terminal) (x : A) (rest : List Terminal) → read ts ≡ Some (x, rest) → Is ts x rest) where
  others_sound : (go : List Terminal → Found (List A))
      (goes : (us : List Terminal) (xs : List A) (rest : List Terminal) → go us ≡ Some (xs, rest) → Things d Is us xs rest)
      (ts : List Terminal) (f : A × List Terminal) (xs : List A) (rest : List Terminal)
      (o : Option (List Terminal)) → after d f.1 ≡ o → Is ts f.0 f.1 →
      other_things f o go ≡ Some (xs, rest) → Things d Is ts xs rest
  others_sound go goes ts f xs rest None ends first is =
      subst (λ g. Things d Is ts g.0 g.1) (same_Some {A = List A × List Terminal} (f.0 ∷ [], f.1) (xs, rest) is) (only first)
  others_sound go goes ts f xs rest (Some others) found first is =
      let there = inverts (go others) (λ g. Some (f.0 ∷ g.0, g.1)) (xs, rest) is in
      subst (λ g. Things d Is ts g.0 g.1) (same_Some {A = List A × List Terminal} (f.0 ∷ there.0.0, there.0.1) (xs, rest) there.2)
      (then_more (subst (λ us. Is ts f.0 us) (after_is d f.1 others found) first)
      (goes others there.0.0 there.0.1 there.1))

  pub things_sound : (k : ℕ) (ts : List Terminal) (xs : List A) (rest : List Terminal) →
      separated d k read ts ≡ Some (xs, rest) → Things d Is ts xs rest
  things_sound zero ts xs rest is = absurd (none-some (xs, rest) is)
  things_sound (suc k) ts xs rest is =
      let found = inverts (read ts) (λ f. other_things f (after d f.1) (separated d k read)) (xs, rest) is in
      others_sound (separated d k read) (things_sound k) ts found.0 xs rest (after d found.0.1) refl
      (reads ts found.0.0 found.0.1 found.1) found.2

-- Rows of trees

abbrev pub row_of : List Tree → Trees
row_of [] = none
row_of (t ∷ ts) = more t (row_of ts)

-- a row behind another
abbrev pub behind_row : Trees → Trees → Trees
behind_row none us = us
behind_row (more t ts) us = more t (behind_row ts us)

last_and_row : (ts : Trees) (t : Tree) (us : Trees) → behind_row (with_last ts t) us ≡ behind_row ts (more t us)
last_and_row none t us = refl
last_and_row (more u vs) t us = ap (λ ws. more u ws) (last_and_row vs t us)

pub row_of-with_more : (ts : Trees) (us : List Tree) → with_more ts us ≡ behind_row ts (row_of us)
row_of-with_more none [] = refl
row_of-with_more (more t ts) [] = ap (λ us. more t us) (row_of-with_more ts [])
row_of-with_more ts (u ∷ us) = row_of-with_more (with_last ts u) us ∙ last_and_row ts u (row_of us)

pub record IsRow (role : Role) (most levels : ℕ) (ts : List Terminal) (us : Trees) (rest : List Terminal) : Type 0 where
  pub is_written : ts ≡ row_written us rest
  pub are_well : AreWell role most us
  pub is_some : 1 ≤ tree_count us
  pub are_deep : trees_depth us ≤ levels

pub others_with_comma : (us : Trees) (rest : List Terminal) → 1 ≤ tree_count us → others_written us rest ≡ mark marks.Comma ∷ row_written us rest
others_with_comma none rest is = absurd (omega (arith, is))
others_with_comma (more t ts) rest is = refl

module _ (role : Role) (most n : ℕ) where
  trees_written : {ts : List Terminal} {us : List Tree} {rest : List Terminal} →
      Things Comma (BeginsWith role most n) ts us rest → IsRow role most n ts (row_of us) rest
  trees_written (only first) = record {
    is_written = first.is_written;
    are_well = (first.is_level, first.is_well, tt);
    is_some = omega arith;
    are_deep = omega (arith, first.is_deep);
  }
  trees_written (then_more {more = others} {x = t} {xs = us} {rest = rest} first things) =
      let row = trees_written things in
      record {
        is_written = first.is_written ∙ ap (λ ts. written t (mark marks.Comma ∷ ts)) row.is_written ∙
            ap (λ ts. written t ts) (sym (others_with_comma (row_of us) rest row.is_some));
        are_well = (first.is_level, first.is_well, row.are_well);
        is_some = omega arith;
        are_deep = omega (arith, first.is_deep, row.are_deep);
      }

pub row_sound : (p : Reader) (n : ℕ) → Sound p n → (role : Role) (most : ℕ) → 1 ≤ most → (ts : List Terminal) (us : Trees)
    (rest : List Terminal) → row (p role most) ts ≡ Some (us, rest) → IsRow role most n ts us rest
unfolding row
row_sound p n sound role most room ts us rest is =
    let found = inverts (separated Comma (length ts) (p role most) ts) (rest_of_row none) (us, rest) is in
    let things = things_sound Comma (p role most) (BeginsWith role most n) (λ us t vs. sound role most us t vs room)
    (length ts) ts found.0.0 found.0.1 found.1 in
    let same = same_Some (with_more none found.0.0, found.0.1) (us, rest) found.2 in
    subst (λ g. IsRow role most n ts g.0 g.1) same
    (subst (λ vs. IsRow role most n ts vs found.0.1) (sym (row_of-with_more none found.0.0)) (trees_written role most n things))
