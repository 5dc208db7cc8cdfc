-- What is read as clauses is written as clauses.
use Rattle.std.proofs.Common.{◌≡◌, ℕ, ◌≤◌, max, IsTrue, List, [], ◌∷◌, length, Option, Some, None, ap, subst, sym, ◌∙◌, refl, arith}
use Rattle.std.proofs.lemmas.Option.{same_Some}
use Rattle.erl_scan.specs.declared.mark.Mark.TheVariants as marks
use Rattle.erl_scan.specs.declared.word.Word.TheVariants as words
use Rattle.erl_ast.specs.declared.role.Role.TheVariants.{Expression, Pattern, Test}
use Rattle.erl_ast.specs.Terminal.{Terminal, mark, word}
use Rattle.erl_ast.specs.Tree.{Tree, Trees, Guards, Clauses, none, more, no_guards, guard, no_clauses, clause, tree_count, trees_depth, guards_depth, clauses_depth}
use Rattle.erl_ast.specs.Grammar.{matches, operations, AreWell, AreWellGuards, AreWellClauses, has_clause}
use Rattle.erl_ast.specs.Written.{written, row_written, guards_written, other_guards_written, clauses_written, other_clauses_written}
use Rattle.erl_expressions.specs.declared.delimiter.Delimiter.TheVariants.{Semicolon, Arrow, When, End}
use Rattle.erl_expressions.specs.Delimiters.{after}
use Rattle.erl_expressions.specs.Reading.{Reader, Arm, and_then, separated, row, alternatives, guarded, guarded_by, arm, one_clause, clauses_to_end, with_guards, with_last_guard, with_clauses, with_last_clause, rest_of_guards, rest_of_clauses}
use Rattle.erl_expressions.specs.Readings.{BeginsWith}
use Rattle.erl_expressions.proofs.Inversion.{inverts, after_is}
use Rattle.erl_expressions.proofs.SoundRows.{Sound, Things, only, then_more, things_sound, IsRow, row_sound}

-- Guards in a row

abbrev pub guards_of : List Trees → Guards
guards_of [] = no_guards
guards_of (g ∷ gs) = guard g (guards_of gs)

abbrev pub behind_guards : Guards → Guards → Guards
behind_guards no_guards hs = hs
behind_guards (guard g gs) hs = guard g (behind_guards gs hs)

last_and_guards : (gs : Guards) (g : Trees) (hs : Guards) → behind_guards (with_last_guard gs g) hs ≡ behind_guards gs (guard g hs)
last_and_guards no_guards g hs = refl
last_and_guards (guard u vs) g hs = ap (λ ws. guard u ws) (last_and_guards vs g hs)

pub guards_of-with_guards : (gs : Guards) (hs : List Trees) → with_guards gs hs ≡ behind_guards gs (guards_of hs)
guards_of-with_guards no_guards [] = refl
guards_of-with_guards (guard g gs) [] = ap (λ hs. guard g hs) (guards_of-with_guards gs [])
guards_of-with_guards gs (h ∷ hs) = guards_of-with_guards (with_last_guard gs h) hs ∙ last_and_guards gs h (guards_of hs)

pub record AreGuards (levels : ℕ) (ts : List Terminal) (gs : Guards) (rest : List Terminal) : Type 0 where
  pub are_written : ts ≡ guards_written gs rest
  pub are_well : AreWellGuards gs
  pub are_deep : guards_depth gs ≤ levels

record AreAlternatives (levels : ℕ) (ts : List Terminal) (gs : Guards) (rest : List Terminal) : Type 0 where
  pub are_written : mark marks.Semicolon ∷ ts ≡ other_guards_written gs rest
  pub first_written : word words.When ∷ ts ≡ guards_written gs rest
  pub are_well : AreWellGuards gs
  pub are_deep : guards_depth gs ≤ levels

module _ (n : ℕ) where
  alternatives_written : {ts : List Terminal} {gs : List Trees} {rest : List Terminal} →
      Things Semicolon (IsRow Test operations n) ts gs rest → AreAlternatives n ts (guards_of gs) rest
  alternatives_written (only first) = record {
    are_written = ap (λ us. mark marks.Semicolon ∷ us) first.is_written;
    first_written = ap (λ us. word words.When ∷ us) first.is_written;
    are_well = (first.is_some, first.are_well, tt);
    are_deep = omega (arith, first.are_deep);
  }
  alternatives_written (then_more {x = g} first things) =
      let others = alternatives_written things in
      record {
        are_written = ap (λ us. mark marks.Semicolon ∷ us) first.is_written ∙
            ap (λ us. mark marks.Semicolon ∷ row_written g us) others.are_written;
        first_written = ap (λ us. word words.When ∷ us) first.is_written ∙
            ap (λ us. word words.When ∷ row_written g us) others.are_written;
        are_well = (first.is_some, first.are_well, others.are_well);
        are_deep = omega (arith, first.are_deep, others.are_deep);
      }

room_for_tests : 1 ≤ operations
room_for_tests = omega arith

room_for_matches : 1 ≤ matches
room_for_matches = omega arith

module _ (p : Reader) (n : ℕ) (sound : Sound p n) where
  alternatives_sound : (ts : List Terminal) (gs : Guards) (rest : List Terminal) → alternatives p ts ≡ Some (gs, rest) →
      AreAlternatives n ts gs rest
  unfolding alternatives
  alternatives_sound ts gs rest is =
      let found = inverts (separated Semicolon (length ts) (row (p Test operations)) ts) (rest_of_guards no_guards) (gs, rest) is in
      let things = things_sound Semicolon (row (p Test operations)) (IsRow Test operations n)
      (λ us g vs read. row_sound p n sound Test operations room_for_tests us g vs read) (length ts) ts found.0.0 found.0.1 found.1 in
      subst (λ g. AreAlternatives n ts g.0 g.1) (same_Some {A = Guards × List Terminal} (with_guards no_guards found.0.0, found.0.1) (gs, rest) found.2)
      (subst (λ hs. AreAlternatives n ts hs found.0.1) (sym (guards_of-with_guards no_guards found.0.0)) (alternatives_written n things))

  guarded_by_sound : (ts : List Terminal) (o : Option (List Terminal)) (gs : Guards) (rest : List Terminal) → after When ts ≡ o →
      guarded_by o p ts ≡ Some (gs, rest) → AreGuards n ts gs rest
  guarded_by_sound ts None gs rest ends is =
      subst (λ g. AreGuards n ts g.0 g.1) (same_Some {A = Guards × List Terminal} (no_guards, ts) (gs, rest) is)
      (record { are_written = refl; are_well = tt; are_deep = omega arith })
  guarded_by_sound ts (Some behind) gs rest begins is =
      let others = alternatives_sound behind gs rest is in
      record {
        are_written = after_is When ts behind begins ∙ others.first_written;
        are_well = others.are_well;
        are_deep = others.are_deep;
      }

  pub guarded_sound : (ts : List Terminal) (gs : Guards) (rest : List Terminal) → guarded p ts ≡ Some (gs, rest) → AreGuards n ts gs rest
  unfolding guarded
  guarded_sound ts gs rest is = guarded_by_sound ts (after When ts) gs rest refl is

-- A guard sequence and a body

pub record IsArm (levels : ℕ) (ts : List Terminal) (it : Arm) (rest : List Terminal) : Type 0 where
  pub is_written : ts ≡ guards_written it.0 (mark marks.Arrow ∷ row_written it.1 rest)
  pub are_well : AreWellGuards it.0
  pub is_body : 1 ≤ tree_count it.1
  pub is_well : AreWell Expression matches it.1
  pub is_deep : max (guards_depth it.0) (trees_depth it.1) ≤ levels

module _ (p : Reader) (n : ℕ) (sound : Sound p n) where
  pub arm_sound : (ts : List Terminal) (it : Arm) (rest : List Terminal) → arm p ts ≡ Some (it, rest) → IsArm n ts it rest
  unfolding arm
  arm_sound ts it rest is =
      let g = inverts (guarded p ts) (λ g. and_then (after Arrow g.1) (λ us. and_then (row (p Expression matches) us) (λ b. Some ((g.0, b.0), b.1)))) (it, rest) is in
      let a = inverts (after Arrow g.0.1) (λ us. and_then (row (p Expression matches) us) (λ b. Some ((g.0.0, b.0), b.1))) (it, rest) g.2 in
      let b = inverts (row (p Expression matches) a.0) (λ b. Some ((g.0.0, b.0), b.1)) (it, rest) a.2 in
      let guards = guarded_sound p n sound ts g.0.0 g.0.1 g.1 in
      let body = row_sound p n sound Expression matches room_for_matches a.0 b.0.0 b.0.1 b.1 in
      subst (λ f. IsArm n ts f.0 f.1) (same_Some {A = Arm × List Terminal} ((g.0.0, b.0.0), b.0.1) (it, rest) b.2)
      (record {
        is_written = guards.are_written ∙ ap (λ us. guards_written g.0.0 us)
            (after_is Arrow g.0.1 a.0 a.1 ∙ ap (λ us. mark marks.Arrow ∷ us) body.is_written);
        are_well = guards.are_well;
        is_body = body.is_some;
        is_well = body.are_well;
        is_deep = omega (arith, guards.are_deep, body.are_deep);
      })

-- Clauses in a row

record IsClause (levels : ℕ) (ts : List Terminal) (c : Tree × Arm) (rest : List Terminal) : Type 0 where
  pub is_pattern : (mid : List Terminal) × BeginsWith Pattern matches levels ts c.0 mid × IsArm levels mid c.1 rest

module _ (p : Reader) (n : ℕ) (sound : Sound p n) where
  clause_sound : (ts : List Terminal) (c : Tree × Arm) (rest : List Terminal) → one_clause p ts ≡ Some (c, rest) → IsClause n ts c rest
  unfolding one_clause
  clause_sound ts c rest is =
      let f = inverts (p Pattern matches ts) (λ f. and_then (arm p f.1) (λ g. Some ((f.0, g.0), g.1))) (c, rest) is in
      let g = inverts (arm p f.0.1) (λ g. Some ((f.0.0, g.0), g.1)) (c, rest) f.2 in
      subst (λ h. IsClause n ts h.0 h.1) (same_Some {A = (Tree × Arm) × List Terminal} ((f.0.0, g.0.0), g.0.1) (c, rest) g.2)
      (record { is_pattern = (f.0.1, sound Pattern matches ts f.0.0 f.0.1 room_for_matches f.1, arm_sound p n sound f.0.1 g.0.0 g.0.1 g.1) })

abbrev pub clauses_of : List (Tree × Arm) → Clauses
clauses_of [] = no_clauses
clauses_of (c ∷ cs) = clause (more c.0 none) c.1.0 c.1.1 (clauses_of cs)

abbrev pub behind_clauses : Clauses → Clauses → Clauses
behind_clauses no_clauses ds = ds
behind_clauses (clause ps gs body cs) ds = clause ps gs body (behind_clauses cs ds)

last_and_clauses : (cs : Clauses) (c : Tree × Arm) (ds : Clauses) →
    behind_clauses (with_last_clause cs c) ds ≡ behind_clauses cs (clause (more c.0 none) c.1.0 c.1.1 ds)
last_and_clauses no_clauses c ds = refl
last_and_clauses (clause ps gs body cs) c ds = ap (λ es. clause ps gs body es) (last_and_clauses cs c ds)

pub clauses_of-with_clauses : (cs : Clauses) (ds : List (Tree × Arm)) → with_clauses cs ds ≡ behind_clauses cs (clauses_of ds)
clauses_of-with_clauses no_clauses [] = refl
clauses_of-with_clauses (clause ps gs body cs) [] = ap (λ es. clause ps gs body es) (clauses_of-with_clauses cs [])
clauses_of-with_clauses cs (d ∷ ds) = clauses_of-with_clauses (with_last_clause cs d) ds ∙ last_and_clauses cs d (clauses_of ds)

pub record AreClauses (levels : ℕ) (ts : List Terminal) (cs : Clauses) (rest : List Terminal) : Type 0 where
  pub are_written : ts ≡ clauses_written cs rest
  pub are_others : mark marks.Semicolon ∷ ts ≡ other_clauses_written cs rest
  pub are_some : IsTrue (has_clause cs)
  pub are_well : AreWellClauses cs
  pub are_deep : clauses_depth cs ≤ levels

module _ (n : ℕ) where
  clauses_are_written : {ts : List Terminal} {cs : List (Tree × Arm)} {rest : List Terminal} →
      Things Semicolon (IsClause n) ts cs rest → AreClauses n ts (clauses_of cs) rest
  clauses_are_written (only {x = c} first) =
      let parts = first.is_pattern in
      let text = parts.1.is_written ∙ ap (λ us. written c.0 us) parts.2.is_written in
      record {
        are_written = text;
        are_others = ap (λ us. mark marks.Semicolon ∷ us) text;
        are_some = refl;
        are_well = (refl, (parts.1.is_level, parts.1.is_well, tt), parts.2.are_well, parts.2.is_body, parts.2.is_well, tt);
        are_deep = omega (arith, parts.1.is_deep, parts.2.is_deep);
      }
  clauses_are_written (then_more {x = c} first things) =
      let parts = first.is_pattern in
      let others = clauses_are_written things in
      let text = parts.1.is_written ∙ ap (λ us. written c.0 us) (parts.2.is_written ∙
      ap (λ us. guards_written c.1.0 (mark marks.Arrow ∷ row_written c.1.1 us)) others.are_others) in
      record {
        are_written = text;
        are_others = ap (λ us. mark marks.Semicolon ∷ us) text;
        are_some = refl;
        are_well = (refl, (parts.1.is_level, parts.1.is_well, tt), parts.2.are_well, parts.2.is_body, parts.2.is_well, others.are_well);
        are_deep = omega (arith, parts.1.is_deep, parts.2.is_deep, others.are_deep);
      }

module _ (p : Reader) (n : ℕ) (sound : Sound p n) where
  pub clauses_sound : (ts : List Terminal) (cs : Clauses) (rest : List Terminal) → clauses_to_end p ts ≡ Some (cs, rest) →
      AreClauses n ts cs (word words.End ∷ rest)
  unfolding clauses_to_end
  clauses_sound ts cs rest is =
      let found = inverts (separated Semicolon (length ts) (one_clause p) ts) (rest_of_clauses no_clauses) (cs, rest) is in
      let end = inverts (after End found.0.1) (λ us. Some (with_clauses no_clauses found.0.0, us)) (cs, rest) found.2 in
      let things = things_sound Semicolon (one_clause p) (IsClause n) (clause_sound p n sound) (length ts) ts found.0.0 found.0.1 found.1 in
      let text = clauses_are_written n things in
      subst (λ g. AreClauses n ts g.0 (word words.End ∷ g.1)) (same_Some {A = Clauses × List Terminal} (with_clauses no_clauses found.0.0, end.0) (cs, rest) end.2)
      (subst (λ ds. AreClauses n ts ds (word words.End ∷ end.0)) (sym (clauses_of-with_clauses no_clauses found.0.0))
      (subst (λ us. AreClauses n ts (clauses_of found.0.0) us) (after_is End found.0.1 end.0 end.1) text))
