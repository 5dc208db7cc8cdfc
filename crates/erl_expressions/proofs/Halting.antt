-- A pattern that holds a match is no expression: reading it as one stops at that match.
use Rattle.std.proofs.Common.{◌≡◌, ℕ, zero, suc, ◌≤◌, Bool, true, false, ◌&&◌, IsTrue, List, ◌∷◌, length, Option, Some, None, ap, subst, sym, ◌∙◌, refl, arith, true≢false}
use Rattle.erl_scan.specs.declared.mark.Mark.TheVariants as marks
use Rattle.erl_ast.specs.declared.role.Role.TheVariants.{Expression, Pattern}
use Rattle.erl_ast.specs.declared.shape.Infix.TheVariants as infixes
use Rattle.erl_ast.specs.declared.shape.Shape.TheVariants as shapes
use Rattle.erl_ast.specs.Terminal.{Terminal, mark}
use Rattle.erl_ast.specs.Tree.{Tree, Trees, leaf, node, case, none, more, tree_count, tree_depth, trees_depth}
use Rattle.erl_ast.specs.Grammar.{level, matches, operations, IsWell, AreWell}
use Rattle.erl_ast.specs.Written.{written, row_written, others_written, parts_written}
use Rattle.erl_expressions.specs.declared.delimiter.Delimiter.{Delimiter}
use Rattle.erl_expressions.specs.declared.delimiter.Delimiter.TheVariants as delimiters
use Rattle.erl_expressions.specs.declared.delimiter.Delimiter.TheVariants.{Comma, CloseParen, CloseBrace, CloseBracket, Bar}
use Rattle.erl_expressions.specs.Delimiters.{after}
use Rattle.erl_expressions.specs.Leaves.{leaf_ahead}
use Rattle.erl_expressions.specs.Reading.{Found, Reader, and_then, other_things, separated, row, rest_of_row, parts, parts_by, made, bracketed, parenthesized, list_end, listed_by, listed, construct, begun_by, begun, match_ahead, fits_pattern, fit_pattern, with_last}
use Rattle.erl_expressions.proofs.Inversion.{both}
use Rattle.erl_expressions.proofs.Levels.{stops_before}
use Rattle.erl_expressions.proofs.Roles.{row_of_parts, expression_of, expressions_of, flat}
use Rattle.erl_expressions.proofs.ReadBack.{last_of, count_two, count_one, well_apart}
use Rattle.erl_expressions.proofs.Sound.{match_is}
use Rattle.erl_expressions.proofs.SoundNodes.{parts_of_bracket, with_last_written}
use Rattle.erl_expressions.proofs.WholeRows.{Whole, row_no_delimiter, row_whole}

-- what was read stops at a match, if anything was read
abbrev pub is_stuck : {A : Type 0} → Found A → Bool
is_stuck None = true
is_stuck (Some f) = match_ahead f.1

abbrev pub Halts : Reader → ℕ → Type 0
Halts p n = (t : Tree) (rest : List Terminal) → IsWell Pattern t → fits_pattern t ≡ false → tree_depth t ≤ n →
    IsTrue (is_stuck (p Expression operations (written t rest)))

match_no_delimiter : (d : Delimiter) (ts : List Terminal) → after d (mark marks.Match ∷ ts) ≡ None
match_no_delimiter delimiters.Comma ts = refl
match_no_delimiter delimiters.Semicolon ts = refl
match_no_delimiter delimiters.Bar ts = refl
match_no_delimiter delimiters.Arrow ts = refl
match_no_delimiter delimiters.CloseParen ts = refl
match_no_delimiter delimiters.CloseBrace ts = refl
match_no_delimiter delimiters.CloseBracket ts = refl
match_no_delimiter delimiters.When ts = refl
match_no_delimiter delimiters.Of ts = refl
match_no_delimiter delimiters.End ts = refl

stuck_before : (d : Delimiter) (ts : List Terminal) → IsTrue (match_ahead ts) → after d ts ≡ None
stuck_before d ts is = ap (λ us. after d us) (match_is ts is) ∙ match_no_delimiter d _

-- no delimiter stands where reading stopped
stuck_then : {A B : Type 0} (d : Delimiter) (g : A → List Terminal → Option B) (o : Found A) → IsTrue (is_stuck o) →
    and_then o (λ f. and_then (after d f.1) (g f.0)) ≡ None
stuck_then d g None is = refl
stuck_then d g (Some f) is = ap (λ o. and_then o (g f.0)) (stuck_before d f.1 is)

other_stuck : {A : Type 0} (go : List Terminal → Found (List A)) (o : Found A) → IsTrue (is_stuck o) →
    IsTrue (is_stuck (and_then o (λ f. other_things f (after Comma f.1) go)))
other_stuck go None is = refl
other_stuck go (Some f) is =
    subst (λ o. IsTrue (is_stuck (other_things f o go))) (sym (stuck_before Comma f.1 is)) is

more_stuck : {A : Type 0} (x : A) (o : Found (List A)) → IsTrue (is_stuck o) → IsTrue (is_stuck (and_then o (λ g. Some (x ∷ g.0, g.1))))
more_stuck x None is = refl
more_stuck x (Some f) is = is

row_stuck : (us : Trees) (o : Found (List Tree)) → IsTrue (is_stuck o) → IsTrue (is_stuck (and_then o (rest_of_row us)))
row_stuck us None is = refl
row_stuck us (Some f) is = is

stuck_list : (p : Reader) (o : Found Trees) → IsTrue (is_stuck o) →
    and_then o (λ f. list_end p Expression f.0 (after CloseBracket f.1) (after Bar f.1)) ≡ None
stuck_list p None is = refl
stuck_list p (Some f) is =
    λ i. list_end p Expression f.0 (stuck_before CloseBracket f.1 is i) (stuck_before Bar f.1 is i)

-- either the first doesn't fit, or the others don't
others_unfit : (a b : Bool) → IsTrue a → a && b ≡ false → b ≡ false
others_unfit true b one is = is
others_unfit false b one is = absurd (true≢false (sym one))

and_one : (b : Bool) → b && true ≡ false → b ≡ false
and_one true is = is
and_one false is = refl

last_unfit : (us : Trees) (t : Tree) → IsTrue (fit_pattern us) → fit_pattern (with_last us t) ≡ false → fits_pattern t ≡ false
last_unfit none t fit is = and_one (fits_pattern t) is
last_unfit (more u us) t fit is =
    let each = both (fits_pattern u) (fit_pattern us) fit in
    last_unfit us t each.1 (others_unfit (fits_pattern u) (fit_pattern (with_last us t)) each.0 is)

unfit_some : (us : Trees) → fit_pattern us ≡ false → 1 ≤ tree_count us
unfit_some none is = absurd (true≢false is)
unfit_some (more t us) is = omega arith

abbrev trees_found : Trees → List Terminal → Found Trees
trees_found us rest = Some (us, rest)

abbrev parenthesis_found : Tree → List Terminal → Found Tree
parenthesis_found t rest = Some (node shapes.Parenthesized (more t none), rest)

module _ (p : Reader) (n : ℕ) (whole : Whole p n) (halts : Halts p n) where
  -- Rows

  first_stuck : (k : ℕ) (t : Tree) (us : Trees) (rest : List Terminal) (fit : Bool) → fits_pattern t ≡ fit →
      AreWell Pattern matches (more t us) → fit_pattern (more t us) ≡ false → trees_depth (more t us) ≤ n →
      (fit_pattern us ≡ false → IsTrue (is_stuck (separated Comma k (p Expression operations) (row_written us rest)))) →
      IsTrue (is_stuck (separated Comma (suc k) (p Expression operations) (row_written (more t us) rest)))
  first_stuck k t us rest false is well unfit deep others =
      other_stuck (separated Comma k (p Expression operations)) (p Expression operations (written t (others_written us rest)))
      (halts t (others_written us rest) well.1 is (omega (arith, deep)))
  first_stuck k t none rest true is well unfit deep others =
      absurd (true≢false (sym is ∙ and_one (fits_pattern t) unfit))
  first_stuck k t (more u us) rest true is well unfit deep others =
      let text = row_written (more u us) rest in
      subst (λ o. IsTrue (is_stuck (and_then o (λ f. other_things f (after Comma f.1) (separated Comma k (p Expression operations))))))
      (sym (whole Expression operations t (others_written (more u us) rest) (expression_of t well.1 is) (flat t is) (omega (arith, deep))
      (stops_before Comma operations text)))
      (more_stuck t (separated Comma k (p Expression operations) text)
      (others (others_unfit (fits_pattern t) (fit_pattern (more u us)) is unfit)))

  trees_stuck : (k : ℕ) (us : Trees) (rest : List Terminal) → AreWell Pattern matches us → fit_pattern us ≡ false →
      trees_depth us ≤ n → IsTrue (is_stuck (separated Comma k (p Expression operations) (row_written us rest)))
  trees_stuck zero us rest well unfit deep = refl
  trees_stuck (suc k) none rest well unfit deep = absurd (true≢false unfit)
  trees_stuck (suc k) (more t us) rest well unfit deep =
      first_stuck k t us rest (fits_pattern t) refl well unfit deep
      (λ others. trees_stuck k us rest well.2 others (omega (arith, deep)))

  row_halts : (us : Trees) (rest : List Terminal) → AreWell Pattern matches us → fit_pattern us ≡ false → trees_depth us ≤ n →
      IsTrue (is_stuck (row (p Expression operations) (row_written us rest)))
  unfolding row
  row_halts us rest well unfit deep =
      row_stuck none (separated Comma (length (row_written us rest)) (p Expression operations) (row_written us rest))
      (trees_stuck (length (row_written us rest)) us rest well unfit deep)

  -- Brackets

  parts_halt : (us : Trees) (rest : List Terminal) → AreWell Pattern matches us → fit_pattern us ≡ false → trees_depth us ≤ n →
      parts (p Expression operations) CloseBrace (row_written us (mark marks.CloseBrace ∷ rest)) ≡ None
  unfolding parts
  parts_halt us rest well unfit deep =
      let text = row_written us (mark marks.CloseBrace ∷ rest) in
      ap (λ o. parts_by o (p Expression operations) CloseBrace text)
      (row_no_delimiter CloseBrace Pattern matches us (mark marks.CloseBrace ∷ rest) (unfit_some us unfit) well) ∙
      stuck_then CloseBrace trees_found (row (p Expression operations) text) (row_halts us (mark marks.CloseBrace ∷ rest) well unfit deep)

  tuple_halts : (us : Trees) (rest : List Terminal) → AreWell Pattern matches us → fit_pattern us ≡ false → trees_depth us ≤ n →
      bracketed p Expression shapes.Tuple (parts_written shapes.Tuple us (mark marks.CloseBrace ∷ rest)) ≡ None
  unfolding bracketed
  tuple_halts us rest well unfit deep =
      ap (λ vs. and_then (parts (p Expression operations) CloseBrace vs) (λ f. made Expression shapes.Tuple f.0 f.1))
      (parts_of_bracket shapes.Tuple (λ vs. refl) us (mark marks.CloseBrace ∷ rest)) ∙
      ap (λ o. and_then o (λ f. made Expression shapes.Tuple f.0 f.1)) (parts_halt us rest well unfit deep)

  parenthesis_halts : (t : Tree) (rest : List Terminal) → IsWell Pattern t → fits_pattern t ≡ false → tree_depth t ≤ n →
      parenthesized p Expression (written t (mark marks.CloseParen ∷ rest)) ≡ None
  unfolding parenthesized
  parenthesis_halts t rest well unfit deep =
      stuck_then CloseParen parenthesis_found (p Expression operations (written t (mark marks.CloseParen ∷ rest)))
      (halts t (mark marks.CloseParen ∷ rest) well unfit deep)

  -- elements, and then a bar or a bracket
  elements_halt : (us : Trees) (rest : List Terminal) → AreWell Pattern matches us → fit_pattern us ≡ false → trees_depth us ≤ n →
      listed p Expression (row_written us rest) ≡ None
  unfolding listed
  elements_halt us rest well unfit deep =
      ap (λ o. listed_by o p Expression (row_written us rest))
      (row_no_delimiter CloseBracket Pattern matches us rest (unfit_some us unfit) well) ∙
      stuck_list p (row (p Expression operations) (row_written us rest)) (row_halts us rest well unfit deep)

  list_halts : (us : Trees) (rest : List Terminal) → AreWell Pattern matches us → fit_pattern us ≡ false → trees_depth us ≤ n →
      listed p Expression (parts_written shapes.List us (mark marks.CloseBracket ∷ rest)) ≡ None
  list_halts us rest well unfit deep =
      ap (λ vs. listed p Expression vs) (parts_of_bracket shapes.List (λ vs. refl) us (mark marks.CloseBracket ∷ rest)) ∙
      elements_halt us (mark marks.CloseBracket ∷ rest) well unfit deep

  tail_halts : (us : Trees) (t : Tree) (rest : List Terminal) → 1 ≤ tree_count us → AreWell Pattern matches us → IsWell Pattern t →
      IsTrue (fit_pattern us) → fits_pattern t ≡ false → trees_depth us ≤ n → tree_depth t ≤ n →
      listed p Expression (row_written us (mark marks.Bar ∷ written t (mark marks.CloseBracket ∷ rest))) ≡ None
  unfolding listed
  tail_halts us t rest some well last fit unfit deep deep_last =
      let behind = written t (mark marks.CloseBracket ∷ rest) in
      let tail = mark marks.Bar ∷ behind in
      ap (λ o. listed_by o p Expression (row_written us tail)) (row_no_delimiter CloseBracket Pattern matches us tail some well) ∙
      ap (λ o. and_then o (λ f. list_end p Expression f.0 (after CloseBracket f.1) (after Bar f.1)))
      (row_whole p n whole Expression operations us tail some (expressions_of us well fit) deep (stops_before Bar operations behind) refl) ∙
      stuck_then CloseBracket (λ u vs. made Expression shapes.Cons (with_last us u) vs) (p Expression operations behind)
      (halts t (mark marks.CloseBracket ∷ rest) last unfit deep_last)

  cons_by : (us : Trees) (t : Tree) (rest : List Terminal) (fit : Bool) → fit_pattern us ≡ fit → 1 ≤ tree_count us →
      AreWell Pattern matches us → IsWell Pattern t → fit_pattern (with_last us t) ≡ false → trees_depth us ≤ n → tree_depth t ≤ n →
      listed p Expression (row_written us (mark marks.Bar ∷ written t (mark marks.CloseBracket ∷ rest))) ≡ None
  cons_by us t rest false is some well last unfit deep deep_last =
      elements_halt us (mark marks.Bar ∷ written t (mark marks.CloseBracket ∷ rest)) well is deep
  cons_by us t rest true is some well last unfit deep deep_last =
      tail_halts us t rest some well last is (last_unfit us t is unfit) deep deep_last

  cons_halts : (us : Trees) (t : Tree) (rest : List Terminal) → 1 ≤ tree_count us → AreWell Pattern matches (with_last us t) →
      fit_pattern (with_last us t) ≡ false → trees_depth us ≤ n → tree_depth t ≤ n →
      listed p Expression (parts_written shapes.Cons (with_last us t) (mark marks.CloseBracket ∷ rest)) ≡ None
  cons_halts us t rest some well unfit deep deep_last =
      let apart = well_apart Pattern matches us t well in
      ap (λ vs. listed p Expression vs) (with_last_written us t (mark marks.CloseBracket ∷ rest) some) ∙
      cons_by us t rest (fit_pattern us) refl some apart.0 apart.2 unfit deep deep_last

  -- All but matches

  none_begun : (ts : List Terminal) → leaf_ahead ts ≡ None → construct p Expression ts ≡ None → begun p Expression ts ≡ None
  unfolding begun
  none_begun ts none_ahead is = ap (λ o. begun_by o p Expression ts) none_ahead ∙ is

  pub begun_halts : (t : Tree) (rest : List Terminal) → IsWell Pattern t → level t ≤ operations → fits_pattern t ≡ false →
      tree_depth t ≤ suc n → begun p Expression (written t rest) ≡ None
  unfolding construct leaf_ahead
  begun_halts (leaf l) rest well low unfit deep = absurd (true≢false unfit)
  begun_halts (case subject cs) rest well low unfit deep = absurd (true≢false (sym well.0))
  begun_halts (node shapes.Tuple us) rest well low unfit deep =
      none_begun (written (node shapes.Tuple us) rest) refl
      (tuple_halts us rest (row_of_parts Pattern shapes.Tuple refl refl us well.2) unfit (omega (arith, deep)))
  begun_halts (node shapes.List us) rest well low unfit deep =
      none_begun (written (node shapes.List us) rest) refl
      (list_halts us rest (row_of_parts Pattern shapes.List refl refl us well.2) unfit (omega (arith, deep)))
  begun_halts (node shapes.Cons us) rest well low unfit deep =
      let there = last_of us (count_two (tree_count us) well.0) in
      let elements = row_of_parts Pattern shapes.Cons refl refl us well.2 in
      none_begun (written (node shapes.Cons us) rest) refl
      (subst (λ vs. listed p Expression (parts_written shapes.Cons vs (mark marks.CloseBracket ∷ rest)) ≡ None) (sym there.is)
      (cons_halts there.front there.last rest there.some (subst (λ vs. AreWell Pattern matches vs) there.is elements)
      (subst (λ vs. fit_pattern vs ≡ false) there.is unfit) (omega (arith, deep, there.front_deep)) (omega (arith, deep, there.last_deep))))
  begun_halts (node shapes.Parenthesized none) rest well low unfit deep = absurd (true≢false unfit)
  begun_halts (node shapes.Parenthesized (more t none)) rest well low unfit deep =
      none_begun (written (node shapes.Parenthesized (more t none)) rest) refl
      (parenthesis_halts t rest well.2.1 (and_one (fits_pattern t) unfit) (omega (arith, deep)))
  begun_halts (node shapes.Parenthesized (more t (more u us))) rest well low unfit deep =
      absurd (omega (arith, count_one (tree_count us) well.0))
  begun_halts (node (shapes.Infix infixes.Match) us) rest well low unfit deep = absurd (omega (arith, low))
  begun_halts (node _ us) rest well low unfit deep = absurd (true≢false (sym well.0))
