-- What is written of a tree is read as that tree, and a pattern that holds a match isn't read as an expression.
use Rattle.std.proofs.Common.{◌≡◌, ℕ, zero, suc, ◌+◌, ◌-◌, ◌≤◌, nat_le, Bool, true, false, IsTrue, List, ◌∷◌, Some, ap, subst, sym, ◌∙◌, refl, arith, rules, true≢false}
use Rattle.erl_ast.specs.declared.role.Role.{Role}
use Rattle.erl_ast.specs.declared.role.Role.TheVariants.{Expression, Pattern, Test}
use Rattle.erl_ast.specs.declared.shape.Infix.TheVariants as infixes
use Rattle.erl_ast.specs.declared.shape.Shape.TheVariants as shapes
use Rattle.erl_ast.specs.Terminal.{Terminal}
use Rattle.erl_ast.specs.Tree.{Tree, leaf, node, case, none, more, tree_count, tree_depth}
use Rattle.erl_ast.specs.Grammar.{level, matches, operations, has_operator, IsWell}
use Rattle.erl_ast.specs.Written.{written, leaf_written, infix_terminal}
use Rattle.erl_expressions.specs.Leaves.{operator_ahead}
use Rattle.erl_expressions.specs.Reading.{and_then, begun, fits, fits_pattern, matched_by, only_leaf, ended_by, read_by, read}
use Rattle.erl_expressions.specs.Readings.{Stops}
use Rattle.erl_expressions.proofs.ByLevels.{read_next, climbed_all, climbed_one}
use Rattle.erl_expressions.proofs.Halting.{Halts, is_stuck, begun_halts}
use Rattle.erl_expressions.proofs.Inversion.{inverts}
use Rattle.erl_expressions.proofs.Lengths.{two_parts}
use Rattle.erl_expressions.proofs.Levels.{stops_lower, no_operator, operator_there, end_level, end_at_most, stops_at_operator}
use Rattle.erl_expressions.proofs.ReadBack.{if_true, leaf_whole, leaf_read_whole, begun_whole, joined_whole, spine, spine_depth, spine_whole, climbing}
use Rattle.erl_expressions.proofs.Roles.{expression_of, pattern_flat}
use Rattle.erl_expressions.proofs.Sound.{read_zero}
use Rattle.erl_expressions.proofs.WholeRows.{Whole}

abbrev match_of : Tree → Tree → Tree
match_of t u = node (shapes.Infix infixes.Match) (more t (more u none))

high : (most : ℕ) → matches ≤ most → IsTrue (nat_le matches most)
high most le = search rules

module _ (n : ℕ) (whole : Whole (read n) n) (halts : Halts (read n) n) where
  -- what is no match
  operation_whole : (role : Role) (most : ℕ) (t : Tree) (rest : List Terminal) → IsWell role t → level t ≤ most → level t ≤ operations →
      tree_depth t ≤ suc n → Stops most rest → read (suc n) role most (written t rest) ≡ Some (t, rest)
  operation_whole role most t rest well low flat deep stops =
      let first = inverts (begun (read n) role (written t rest)) (climbing (suc n) (read n) role most (suc n)) (t, rest)
      (spine_whole (read n) n whole role most (suc n) t rest well low flat deep
      (stops_lower (end_level t) most rest (omega (arith, end_at_most t, low)) stops) (omega (arith, spine_depth t, deep)) ∙
      climbed_all (suc n - spine t) (read n) role most (suc n) t rest (no_operator role most (level t) rest stops)) in
      read_next n role most (written t rest) ∙
      ap (λ o. read_by o (read n) role most (suc n) (written t rest)) first.1 ∙ first.2

  -- a match whose pattern is read in the role of the match
  match_on : (role : Role) (most : ℕ) (t u : Tree) (rest : List Terminal) → IsTrue (has_operator role infixes.Match) → IsWell role t →
      IsTrue (fits role infixes.Match t) → level t ≤ 1 → IsWell role u → level u ≤ matches → matches ≤ most →
      tree_depth (match_of t u) ≤ suc n → Stops most rest →
      read (suc n) role most (written (match_of t u) rest) ≡ Some (match_of t u, rest)
  match_on role most t u rest allowed left fit flat right low top deep stops =
      let behind = infix_terminal infixes.Match ∷ written u rest in
      read_next n role most (written t behind) ∙
      ap (λ o. read_by o (read n) role most (suc n) (written t behind))
      (begun_whole (read n) n whole role t behind left flat (omega (arith, deep)) (stops_at_operator t infixes.Match (written u rest) (omega (arith, flat)))) ∙
      climbed_one n (read n) role most (suc n) t (match_of t u) behind rest infixes.Match
      (operator_there role most (level t) infixes.Match (written u rest) allowed top (omega (arith, flat)))
      (joined_whole (read n) n whole role role t infixes.Match u rest fit right low deep (stops_lower matches most rest top stops)) ∙
      climbed_all n (read n) role most (suc n) (match_of t u) rest (no_operator role most matches rest stops)

  -- a match whose pattern is no expression
  match_back : (most : ℕ) (t u : Tree) (rest : List Terminal) → IsWell Pattern t → fits_pattern t ≡ false → level t ≤ operations →
      IsWell Expression u → level u ≤ matches → matches ≤ most → tree_depth (match_of t u) ≤ suc n → Stops most rest →
      read (suc n) Expression most (written (match_of t u) rest) ≡ Some (match_of t u, rest)
  match_back most t u rest left unfit flat right low top deep stops =
      let behind = infix_terminal infixes.Match ∷ written u rest in
      read_next n Expression most (written t behind) ∙
      ap (λ o. read_by o (read n) Expression most (suc n) (written t behind))
      (begun_halts (read n) n whole halts t behind left flat unfit (omega (arith, deep))) ∙
      if_true (nat_le matches most) (and_then (begun (read n) Pattern (written t behind)) (λ f. matched_by f (read n) Expression (suc n))) (high most top) ∙
      ap (λ o. and_then o (λ f. matched_by f (read n) Expression (suc n)))
      (begun_whole (read n) n whole Pattern t behind left (pattern_flat t left flat) (omega (arith, deep))
      (stops_at_operator t infixes.Match (written u rest) flat)) ∙
      joined_whole (read n) n whole Pattern Expression t infixes.Match u rest refl right low deep (stops_lower matches most rest top stops)

  match_by : (most : ℕ) (t u : Tree) (rest : List Terminal) (fit : Bool) → fits_pattern t ≡ fit → IsWell Expression (match_of t u) →
      matches ≤ most → tree_depth (match_of t u) ≤ suc n → Stops most rest →
      read (suc n) Expression most (written (match_of t u) rest) ≡ Some (match_of t u, rest)
  match_by most t u rest true is well top deep stops =
      match_on Expression most t u rest refl (expression_of t well.2.1 is) is (pattern_flat t well.2.1 well.2.0) well.2.2.1 well.2.2.0 top deep stops
  match_by most t u rest false is well top deep stops = match_back most t u rest well.2.1 is well.2.0 well.2.2.1 well.2.2.0 top deep stops

  match_whole : (role : Role) (most : ℕ) (t u : Tree) (rest : List Terminal) → IsWell role (match_of t u) → matches ≤ most →
      tree_depth (match_of t u) ≤ suc n → Stops most rest →
      read (suc n) role most (written (match_of t u) rest) ≡ Some (match_of t u, rest)
  match_whole Expression most t u rest well top deep stops = match_by most t u rest (fits_pattern t) refl well top deep stops
  match_whole Pattern most t u rest well top deep stops =
      match_on Pattern most t u rest refl well.2.1 refl (pattern_flat t well.2.1 well.2.0) well.2.2.1 well.2.2.0 top deep stops
  match_whole Test most t u rest well top deep stops = absurd (true≢false (sym well.0))

  read_one : Whole (read (suc n)) (suc n)
  read_one role most (node (shapes.Infix infixes.Match) none) rest well low deep stops =
      absurd (omega (arith, two_parts (has_operator role infixes.Match) 0 well.0))
  read_one role most (node (shapes.Infix infixes.Match) (more t none)) rest well low deep stops =
      absurd (omega (arith, two_parts (has_operator role infixes.Match) 1 well.0))
  read_one role most (node (shapes.Infix infixes.Match) (more t (more u none))) rest well low deep stops =
      match_whole role most t u rest well low deep stops
  read_one role most (node (shapes.Infix infixes.Match) (more t (more u (more v us)))) rest well low deep stops =
      absurd (omega (arith, two_parts (has_operator role infixes.Match) (1 + (1 + (1 + tree_count us))) well.0))
  read_one role most t rest well low deep stops = operation_whole role most t rest well low (omega arith) deep stops

  -- A pattern that holds a match

  stuck_by : (t u : Tree) (rest : List Terminal) (fit : Bool) → fits_pattern t ≡ fit → IsWell Pattern (match_of t u) →
      tree_depth (match_of t u) ≤ suc n → IsTrue (is_stuck (read (suc n) Expression operations (written (match_of t u) rest)))
  stuck_by t u rest true is well deep =
      let behind = infix_terminal infixes.Match ∷ written u rest in
      subst (λ o. IsTrue (is_stuck o)) (sym (read_next n Expression operations (written t behind) ∙
      ap (λ o. read_by o (read n) Expression operations (suc n) (written t behind))
      (begun_whole (read n) n whole Expression t behind (expression_of t well.2.1 is) (pattern_flat t well.2.1 well.2.0) (omega (arith, deep))
      (stops_at_operator t infixes.Match (written u rest) well.2.0)) ∙
      climbed_all (suc n) (read n) Expression operations (suc n) t behind refl)) refl
  stuck_by t u rest false is well deep =
      let behind = infix_terminal infixes.Match ∷ written u rest in
      subst (λ o. IsTrue (is_stuck o)) (sym (read_next n Expression operations (written t behind) ∙
      ap (λ o. read_by o (read n) Expression operations (suc n) (written t behind))
      (begun_halts (read n) n whole halts t behind well.2.1 well.2.0 is (omega (arith, deep))))) refl

  flat_halts : (t : Tree) (rest : List Terminal) → IsWell Pattern t → level t ≤ operations → fits_pattern t ≡ false →
      tree_depth t ≤ suc n → IsTrue (is_stuck (read (suc n) Expression operations (written t rest)))
  flat_halts t rest well flat unfit deep =
      subst (λ o. IsTrue (is_stuck o)) (sym (read_next n Expression operations (written t rest) ∙
      ap (λ o. read_by o (read n) Expression operations (suc n) (written t rest))
      (begun_halts (read n) n whole halts t rest well flat unfit deep))) refl

  halts_one : Halts (read (suc n)) (suc n)
  halts_one (node (shapes.Infix infixes.Match) none) rest well unfit deep = absurd (true≢false (sym well.0))
  halts_one (node (shapes.Infix infixes.Match) (more t none)) rest well unfit deep = absurd (true≢false (sym well.0))
  halts_one (node (shapes.Infix infixes.Match) (more t (more u none))) rest well unfit deep =
      stuck_by t u rest (fits_pattern t) refl well deep
  halts_one (node (shapes.Infix infixes.Match) (more t (more u (more v us)))) rest well unfit deep =
      absurd (omega (arith, two_parts (has_operator Pattern infixes.Match) (1 + (1 + (1 + tree_count us))) well.0))
  halts_one t rest well unfit deep = flat_halts t rest well (omega arith) unfit deep

-- All

read_alone : Whole (read zero) zero
read_alone role most (leaf l) rest well low deep stops =
    read_zero role most (leaf_written l rest) ∙
    ap (λ o. only_leaf o role most) (leaf_whole l rest well stops.quiet) ∙
    ap (λ o. and_then o (λ g. ended_by (operator_ahead role most 0 g.1) g)) (leaf_read_whole l rest well) ∙
    ap (λ o. ended_by o (leaf l, rest)) (no_operator role most 0 rest stops)
read_alone role most (node shape us) rest well low deep stops = absurd (omega (arith, deep))
read_alone role most (case subject cs) rest well low deep stops = absurd (omega (arith, deep))

halts_alone : Halts (read zero) zero
halts_alone (leaf l) rest well unfit deep = absurd (true≢false unfit)
halts_alone (node shape us) rest well unfit deep = absurd (omega (arith, deep))
halts_alone (case subject cs) rest well unfit deep = absurd (omega (arith, deep))

both_whole : (n : ℕ) → Whole (read n) n × Halts (read n) n
both_whole zero = (read_alone, halts_alone)
both_whole (suc n) =
    let below = both_whole n in
    (read_one n below.0 below.1, halts_one n below.0 below.1)

pub read_whole : (n : ℕ) → Whole (read n) n
read_whole n = (both_whole n).0
