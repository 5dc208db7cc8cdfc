-- What is written as clauses is read as those clauses.
use Rattle.std.proofs.Common.{◌≡◌, ℕ, suc, ◌≤◌, IsTrue, List, [], ◌∷◌, length, Some, None, ap, sym, ◌∙◌, refl, arith, true≢false}
use Rattle.erl_scan.specs.declared.mark.Mark.TheVariants as marks
use Rattle.erl_scan.specs.declared.word.Word.TheVariants as words
use Rattle.erl_ast.specs.declared.role.Role.TheVariants.{Expression, Pattern, Test}
use Rattle.erl_ast.specs.Terminal.{Terminal, mark, word}
use Rattle.erl_ast.specs.Tree.{Tree, Trees, Guards, Clauses, none, more, no_guards, guard, no_clauses, clause, tree_count, tree_depth, trees_depth, guards_depth, clauses_depth}
use Rattle.erl_ast.specs.Grammar.{matches, operations, AreWell, AreWellGuards, AreWellClauses, has_clause}
use Rattle.erl_ast.specs.Written.{written, row_written, others_written, guards_written, other_guards_written, clauses_written, other_clauses_written}
use Rattle.erl_expressions.specs.declared.delimiter.Delimiter.TheVariants.{Comma, Semicolon, Arrow, When, End}
use Rattle.erl_expressions.specs.Delimiters.{after}
use Rattle.erl_expressions.specs.Reading.{Found, Reader, Arm, and_then, row, alternatives, guarded, arm, one_clause, clauses_to_end, rest_of_guards, rest_of_clauses}
use Rattle.erl_expressions.proofs.Lengths.{own_tree, row_longer, others_longer, guards_longer}
use Rattle.erl_expressions.specs.Readings.{Stops}
use Rattle.erl_expressions.proofs.Levels.{stops_before}
use Rattle.erl_expressions.proofs.SoundRows.{Things, only, then_more}
use Rattle.erl_expressions.proofs.SoundClauses.{guards_of, guards_of-with_guards, clauses_of, clauses_of-with_clauses}
use Rattle.erl_expressions.proofs.WholeRows.{Whole, Reads, things_whole, row_whole}

-- Guards

abbrev list_of_guards : Guards → List Trees
list_of_guards no_guards = []
list_of_guards (guard us gs) = us ∷ list_of_guards gs

list_and_guards : (gs : Guards) → guards_of (list_of_guards gs) ≡ gs
list_and_guards no_guards = refl
list_and_guards (guard us gs) = ap (λ hs. guard us hs) (list_and_guards gs)

-- a guard sequence behind `when`
abbrev sequence_written : Trees → Guards → List Terminal → List Terminal
sequence_written us gs rest = row_written us (other_guards_written gs rest)

many_guards : (us : Trees) (gs : Guards) (rest : List Terminal) → suc (length (list_of_guards gs)) ≤ suc (length (other_guards_written gs rest))
many_guards us no_guards rest = omega arith
many_guards us (guard vs gs) rest =
    omega (arith, many_guards vs gs rest, row_longer vs (other_guards_written gs rest))

own_row : (us : Trees) (rest : List Terminal) → 1 ≤ tree_count us → AreWell Test operations us →
    suc (length rest) ≤ length (row_written us rest)
own_row none rest some well = absurd (omega (arith, some))
own_row (more t us) rest some well = omega (arith, own_tree Test t (others_written us rest) well.1, others_longer us rest)

abbrev guards_found : Guards → List Terminal → Found Guards
guards_found gs rest = Some (gs, rest)

stops_guards : (gs : Guards) (rest : List Terminal) → Stops operations (other_guards_written gs (mark marks.Arrow ∷ rest))
stops_guards no_guards rest = stops_before Arrow operations rest
stops_guards (guard us gs) rest = stops_before Semicolon operations (row_written us (other_guards_written gs (mark marks.Arrow ∷ rest)))

no_comma_guards : (gs : Guards) (rest : List Terminal) → after Comma (other_guards_written gs (mark marks.Arrow ∷ rest)) ≡ None
no_comma_guards no_guards rest = refl
no_comma_guards (guard us gs) rest = refl

module _ (p : Reader) (n : ℕ) (whole : Whole p n) where
  guards_read : (us : Trees) (gs : Guards) (rest : List Terminal) → 1 ≤ tree_count us → AreWell Test operations us →
      AreWellGuards gs → trees_depth us ≤ n → guards_depth gs ≤ n →
      Things Semicolon (Reads Semicolon (row (p Test operations))) (sequence_written us gs (mark marks.Arrow ∷ rest))
      (us ∷ list_of_guards gs) (mark marks.Arrow ∷ rest)
  guards_read us no_guards rest some well wells deep deeps =
      only (row_whole p n whole Test operations us (mark marks.Arrow ∷ rest) some well deep (stops_guards no_guards rest) refl)
  guards_read us (guard vs gs) rest some well wells deep deeps =
      then_more (row_whole p n whole Test operations us (other_guards_written (guard vs gs) (mark marks.Arrow ∷ rest)) some well deep
      (stops_guards (guard vs gs) rest) (no_comma_guards (guard vs gs) rest))
      (guards_read vs gs rest wells.0 wells.1 wells.2 (omega (arith, deeps)) (omega (arith, deeps)))

  alternatives_whole : (us : Trees) (gs : Guards) (rest : List Terminal) → AreWellGuards (guard us gs) → guards_depth (guard us gs) ≤ n →
      alternatives p (sequence_written us gs (mark marks.Arrow ∷ rest)) ≡ Some (guard us gs, mark marks.Arrow ∷ rest)
  unfolding alternatives
  alternatives_whole us gs rest well deep =
      let text = sequence_written us gs (mark marks.Arrow ∷ rest) in
      ap (λ o. and_then o (rest_of_guards no_guards)) (things_whole Semicolon (row (p Test operations)) (length text)
      (guards_read us gs rest well.0 well.1 well.2 (omega (arith, deep)) (omega (arith, deep)))
      (omega (arith, many_guards us gs (mark marks.Arrow ∷ rest), own_row us (other_guards_written gs (mark marks.Arrow ∷ rest)) well.0 well.1)) refl) ∙
      ap (λ hs. guards_found hs (mark marks.Arrow ∷ rest)) (guards_of-with_guards no_guards (us ∷ list_of_guards gs) ∙ list_and_guards (guard us gs))

  pub guarded_whole : (gs : Guards) (rest : List Terminal) → AreWellGuards gs → guards_depth gs ≤ n →
      guarded p (guards_written gs (mark marks.Arrow ∷ rest)) ≡ Some (gs, mark marks.Arrow ∷ rest)
  unfolding guarded
  guarded_whole no_guards rest well deep = refl
  guarded_whole (guard us gs) rest well deep = alternatives_whole us gs rest well deep

  -- A guard sequence and a body

  pub arm_whole : (gs : Guards) (body : Trees) (rest : List Terminal) → AreWellGuards gs → guards_depth gs ≤ n → 1 ≤ tree_count body →
      AreWell Expression matches body → trees_depth body ≤ n → Stops matches rest → after Comma rest ≡ None →
      arm p (guards_written gs (mark marks.Arrow ∷ row_written body rest)) ≡ Some ((gs, body), rest)
  unfolding arm
  arm_whole gs body rest wells deeps some well deep stops ends =
      ap (λ o. and_then o (λ g. and_then (after Arrow g.1) (λ us. and_then (row (p Expression matches) us) (λ b. Some ((g.0, b.0), b.1)))))
      (guarded_whole gs (row_written body rest) wells deeps) ∙
      ap (λ o. and_then o (λ b. Some ((gs, b.0), b.1))) (row_whole p n whole Expression matches body rest some well deep stops ends)

-- Clauses

record ClausesRead (read : List Terminal → Found (Tree × Arm)) (ts : List Terminal) (cs : Clauses) (rest : List Terminal) : Type 0 where
  pub list : List (Tree × Arm)
  pub things : Things Semicolon (Reads Semicolon read) ts list rest
  pub are_these : clauses_of list ≡ cs
  pub few : length list ≤ length ts

stops_clauses : (cs : Clauses) (rest : List Terminal) → Stops matches (other_clauses_written cs (word words.End ∷ rest))
stops_clauses no_clauses rest = stops_before End matches rest
stops_clauses (clause ps gs body cs) rest = stops_before Semicolon matches (row_written ps (guards_written gs
    (mark marks.Arrow ∷ row_written body (other_clauses_written cs (word words.End ∷ rest)))))

no_comma_clauses : (cs : Clauses) (rest : List Terminal) → after Comma (other_clauses_written cs (word words.End ∷ rest)) ≡ None
no_comma_clauses no_clauses rest = refl
no_comma_clauses (clause ps gs body cs) rest = refl

stops_before_arm : (gs : Guards) (rest : List Terminal) → Stops matches (guards_written gs (mark marks.Arrow ∷ rest))
stops_before_arm no_guards rest = stops_before Arrow matches rest
stops_before_arm (guard us gs) rest = stops_before When matches (sequence_written us gs (mark marks.Arrow ∷ rest))

abbrev arm_found : Tree → Arm × List Terminal → Found (Tree × Arm)
arm_found t g = Some ((t, g.0), g.1)

abbrev clauses_found : Clauses → List Terminal → Found Clauses
clauses_found cs rest = Some (cs, rest)

module _ (p : Reader) (n : ℕ) (whole : Whole p n) where
  clause_whole : (t : Tree) (gs : Guards) (body : Trees) (rest : List Terminal) → AreWell Pattern matches (more t none) →
      AreWellGuards gs → 1 ≤ tree_count body → AreWell Expression matches body →
      tree_depth t ≤ n → guards_depth gs ≤ n → trees_depth body ≤ n → Stops matches rest → after Comma rest ≡ None →
      one_clause p (written t (guards_written gs (mark marks.Arrow ∷ row_written body rest))) ≡ Some ((t, (gs, body)), rest)
  unfolding one_clause
  clause_whole t gs body rest pattern wells some well deep deeps deepest stops ends =
      ap (λ o. and_then o (λ f. and_then (arm p f.1) (arm_found f.0)))
      (whole Pattern matches t (guards_written gs (mark marks.Arrow ∷ row_written body rest)) pattern.1 pattern.0 deep
      (stops_before_arm gs (row_written body rest))) ∙
      ap (λ o. and_then o (arm_found t)) (arm_whole p n whole gs body rest wells deeps some well deepest stops ends)

  clauses_read : (cs : Clauses) (rest : List Terminal) → IsTrue (has_clause cs) → AreWellClauses cs → clauses_depth cs ≤ n →
      ClausesRead (one_clause p) (clauses_written cs (word words.End ∷ rest)) cs (word words.End ∷ rest)
  clauses_read no_clauses rest some well deep = absurd (true≢false (sym some))
  clauses_read (clause none gs body cs) rest some well deep = absurd (omega (arith, well.0))
  clauses_read (clause (more t (more u us)) gs body cs) rest some well deep = absurd (omega (arith, well.0))
  clauses_read (clause (more t none) gs body no_clauses) rest some well deep =
      let text = guards_written gs (mark marks.Arrow ∷ row_written body (word words.End ∷ rest)) in
      record {
        list = (t, (gs, body)) ∷ [];
        things = only (clause_whole t gs body (word words.End ∷ rest) well.1 well.2 well.3 well.4
            (omega (arith, deep)) (omega (arith, deep)) (omega (arith, deep)) (stops_clauses no_clauses rest) refl);
        are_these = refl;
        few = omega (arith, own_tree Pattern t text well.1.1);
      }
  clauses_read (clause (more t none) gs body (clause qs hs after_body cs)) rest some well deep =
      let others = clauses_read (clause qs hs after_body cs) rest refl well.5 (omega (arith, deep)) in
      let behind = other_clauses_written (clause qs hs after_body cs) (word words.End ∷ rest) in
      let text = guards_written gs (mark marks.Arrow ∷ row_written body behind) in
      record {
        list = (t, (gs, body)) ∷ others.list;
        things = then_more (clause_whole t gs body behind well.1 well.2 well.3 well.4
            (omega (arith, deep)) (omega (arith, deep)) (omega (arith, deep))
            (stops_clauses (clause qs hs after_body cs) rest) (no_comma_clauses (clause qs hs after_body cs) rest)) others.things;
        are_these = ap (λ ds. clause (more t none) gs body ds) others.are_these;
        few = omega (
          arith,
          own_tree Pattern t text well.1.1,
          guards_longer gs (mark marks.Arrow ∷ row_written body behind),
          row_longer body behind,
          others.few,
        );
      }

  pub clauses_whole : (cs : Clauses) (rest : List Terminal) → IsTrue (has_clause cs) → AreWellClauses cs → clauses_depth cs ≤ n →
      clauses_to_end p (clauses_written cs (word words.End ∷ rest)) ≡ Some (cs, rest)
  unfolding clauses_to_end
  clauses_whole cs rest some well deep =
      let there = clauses_read cs rest some well deep in
      ap (λ o. and_then o (rest_of_clauses no_clauses)) (things_whole Semicolon (one_clause p)
      (length (clauses_written cs (word words.End ∷ rest))) there.things there.few refl) ∙
      ap (λ ds. clauses_found ds rest) (clauses_of-with_clauses no_clauses there.list ∙ there.are_these)
