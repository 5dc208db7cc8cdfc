-- What is read as a node is written as that node.
use Rattle.std.proofs.Common.{◌≡◌, ℕ, suc, ◌≤◌, max, Bool, true, false, ◌&&◌, if◌then◌else◌, IsTrue, List, ◌∷◌, Option, Some, None, ap, subst, sym, ◌∙◌, refl, arith}
use Rattle.std.proofs.lemmas.Option.{none-some, same_Some}
use Rattle.erl_scan.specs.declared.mark.Mark.TheVariants as marks
use Rattle.erl_scan.specs.declared.word.Word.TheVariants as words
use Rattle.erl_ast.specs.declared.leaf.Named.{Named}
use Rattle.erl_ast.specs.declared.role.Role.{Role}
use Rattle.erl_ast.specs.declared.role.Role.TheVariants.{Expression, Pattern, Test}
use Rattle.erl_ast.specs.declared.shape.Prefix.{Prefix}
use Rattle.erl_ast.specs.declared.shape.Qualifier.{Qualifier}
use Rattle.erl_ast.specs.declared.shape.Shape.{Shape}
use Rattle.erl_ast.specs.declared.shape.Shape.TheVariants as shapes
use Rattle.erl_ast.specs.Terminal.{Terminal, mark, word}
use Rattle.erl_ast.specs.Tree.{Tree, Trees, node, case, none, more, tree_count, tree_depth, trees_depth}
use Rattle.erl_ast.specs.Grammar.{level, matches, in_brackets, first_level, other_level, first_role, has, begins, is_expression, is_pattern, IsWell, AreWell}
use Rattle.erl_ast.specs.Written.{written, row_written, others_written, parts_written, other_parts_written, before_part, opened, closed, prefix_terminal}
use Rattle.erl_expressions.specs.declared.delimiter.Delimiter.{Delimiter}
use Rattle.erl_expressions.specs.declared.delimiter.Delimiter.TheVariants.{CloseParen, CloseBracket, Bar, Of}
use Rattle.erl_expressions.specs.Delimiters.{delimiter, after}
use Rattle.erl_expressions.specs.Reading.{Found, Reader, and_then, row, parts, parts_by, closing, opens, made, bracketed, parenthesized, tailed, list_end, listed_by, listed, prefixed, cased, clauses_to_end, with_last}
use Rattle.erl_expressions.specs.Readings.{BeginsWith}
use Rattle.erl_expressions.proofs.Inversion.{inverts, if_some, both, after_is}
use Rattle.erl_expressions.proofs.Roles.{parts_of_row}
use Rattle.erl_expressions.proofs.SoundRows.{Sound, IsRow, row_sound}
use Rattle.erl_expressions.proofs.SoundClauses.{clauses_sound}

pub room_in_brackets : (role : Role) → 1 ≤ in_brackets role
room_in_brackets Expression = omega arith
room_in_brackets Pattern = omega arith
room_in_brackets Test = omega arith

abbrev node_found : Shape → Trees → List Terminal → Found Tree
node_found shape us rest = Some (node shape us, rest)

abbrev found : Tree → List Terminal → Found Tree
found t left = Some (t, left)

-- what a node was made of
pub record IsMade (role : Role) (shape : Shape) (us : Trees) (rest : List Terminal) (t : Tree) (left : List Terminal) : Type 0 where
  pub has_parts : IsTrue (has role shape (tree_count us))
  pub begins_so : IsTrue (begins shape us)
  pub same : node_found shape us rest ≡ found t left

pub made_is : (role : Role) (shape : Shape) (us : Trees) (rest : List Terminal) (t : Tree) (left : List Terminal) →
    made role shape us rest ≡ Some (t, left) → IsMade role shape us rest t left
made_is role shape us rest t left is =
    let there = if_some (has role shape (tree_count us) && begins shape us) (Some (node shape us, rest)) (t, left) is in
    let asked = both (has role shape (tree_count us)) (begins shape us) there.0 in
    record { has_parts = asked.0; begins_so = asked.1; same = there.1 }

-- Brackets around parts with commas between them
pub record IsBracket (role : Role) (shape : Shape) : Type 0 where
  pub same_role : first_role role shape ≡ role
  pub same_level : other_level role shape ≡ first_level role shape
  pub room : 1 ≤ first_level role shape
  pub flat : (us : Trees) → level (node shape us) ≡ 0
  pub commas : (us : Trees) → before_part shape us ≡ mark marks.Comma
  pub closes : (rest : List Terminal) → closed shape rest ≡ delimiter (closing shape) ∷ rest

pub tuples : (role : Role) → IsBracket role shapes.Tuple
tuples role = record { same_role = refl; same_level = refl; room = room_in_brackets role; flat = λ us. refl; commas = λ us. refl; closes = λ rest. refl }

pub lists : (role : Role) → IsBracket role shapes.List
lists role = record { same_role = refl; same_level = refl; room = room_in_brackets role; flat = λ us. refl; commas = λ us. refl; closes = λ rest. refl }

pub parentheses : (role : Role) → IsBracket role shapes.Parenthesized
parentheses role = record { same_role = refl; same_level = refl; room = room_in_brackets role; flat = λ us. refl; commas = λ us. refl; closes = λ rest. refl }

pub blocks : (role : Role) → IsBracket role shapes.Block
blocks role = record { same_role = refl; same_level = refl; room = omega arith; flat = λ us. refl; commas = λ us. refl; closes = λ rest. refl }

pub locals : (role : Role) (f : Named) → IsBracket role (shapes.Local f)
locals role f = record { same_role = refl; same_level = refl; room = room_in_brackets role; flat = λ us. refl; commas = λ us. refl; closes = λ rest. refl }

pub remotes : (role : Role) (m : Qualifier) (f : Named) → IsBracket role (shapes.Remote m f)
remotes role m f = record { same_role = refl; same_level = refl; room = room_in_brackets role; flat = λ us. refl; commas = λ us. refl; closes = λ rest. refl }

others_of_bracket : (shape : Shape) → ((us : Trees) → before_part shape us ≡ mark marks.Comma) → (us : Trees) (rest : List Terminal) →
    other_parts_written shape us rest ≡ others_written us rest
others_of_bracket shape commas none rest = refl
others_of_bracket shape commas (more t ts) rest =
    λ i. commas ts i ∷ written t (others_of_bracket shape commas ts rest i)

pub parts_of_bracket : (shape : Shape) → ((us : Trees) → before_part shape us ≡ mark marks.Comma) → (us : Trees) (rest : List Terminal) →
    parts_written shape us rest ≡ row_written us rest
parts_of_bracket shape commas none rest = refl
parts_of_bracket shape commas (more t ts) rest = ap (λ us. written t us) (others_of_bracket shape commas ts rest)

pub record AreParts (role : Role) (most levels : ℕ) (close : Delimiter) (ts : List Terminal) (us : Trees) (rest : List Terminal) : Type 0 where
  pub are_written : ts ≡ row_written us (delimiter close ∷ rest)
  pub are_well : AreWell role most us
  pub are_deep : trees_depth us ≤ levels

behind_first_written : (us : Trees) (t : Tree) (rest : List Terminal) →
    other_parts_written shapes.Cons (with_last us t) rest ≡ others_written us (mark marks.Bar ∷ written t rest)
behind_first_written none t rest = refl
behind_first_written (more u none) t rest = refl
behind_first_written (more u (more v us)) t rest =
    ap (λ vs. mark marks.Comma ∷ written u vs) (behind_first_written (more v us) t rest)

pub with_last_written : (us : Trees) (t : Tree) (rest : List Terminal) → 1 ≤ tree_count us →
    parts_written shapes.Cons (with_last us t) rest ≡ row_written us (mark marks.Bar ∷ written t rest)
with_last_written none t rest some = absurd (omega (arith, some))
with_last_written (more u us) t rest some = ap (λ vs. written u vs) (behind_first_written us t rest)

module _ (p : Reader) (n : ℕ) (sound : Sound p n) where
  parts_by_sound : (role : Role) (most : ℕ) → 1 ≤ most → (close : Delimiter) (ts : List Terminal) (o : Option (List Terminal))
      (us : Trees) (rest : List Terminal) → after close ts ≡ o →
      parts_by o (p role most) close ts ≡ Some (us, rest) → AreParts role most n close ts us rest
  parts_by_sound role most room close ts (Some behind) us rest ends is =
      subst (λ g. AreParts role most n close ts g.0 g.1) (same_Some {A = Trees × List Terminal} (none, behind) (us, rest) is)
      (record { are_written = after_is close ts behind ends; are_well = tt; are_deep = omega arith })
  parts_by_sound role most room close ts None us rest ends is =
      let f = inverts (row (p role most) ts) (λ f. and_then (after close f.1) (λ vs. Some (f.0, vs))) (us, rest) is in
      let g = inverts (after close f.0.1) (λ vs. Some (f.0.0, vs)) (us, rest) f.2 in
      let found = row_sound p n sound role most room ts f.0.0 f.0.1 f.1 in
      subst (λ h. AreParts role most n close ts h.0 h.1) (same_Some {A = Trees × List Terminal} (f.0.0, g.0) (us, rest) g.2)
      (record {
        are_written = found.is_written ∙ ap (λ vs. row_written f.0.0 vs) (after_is close f.0.1 g.0 g.1);
        are_well = found.are_well;
        are_deep = found.are_deep;
      })

  pub parts_sound : (role : Role) (most : ℕ) → 1 ≤ most → (close : Delimiter) (ts : List Terminal) (us : Trees) (rest : List Terminal) →
      parts (p role most) close ts ≡ Some (us, rest) → AreParts role most n close ts us rest
  unfolding parts
  parts_sound role most room close ts us rest is = parts_by_sound role most room close ts (after close ts) us rest refl is

  pub bracketed_sound : (role : Role) (shape : Shape) → IsBracket role shape → (most : ℕ) (ts : List Terminal) (t : Tree)
      (rest : List Terminal) → bracketed p role shape ts ≡ Some (t, rest) → BeginsWith role most (suc n) (opened shape ts) t rest
  unfolding bracketed
  bracketed_sound role shape bracket most ts t rest is =
      let found = if_some (opens role shape) (and_then (parts (p role (first_level role shape)) (closing shape) ts) (λ f. made role shape f.0 f.1)) (t, rest) is in
      let f = inverts (parts (p role (first_level role shape)) (closing shape) ts) (λ f. made role shape f.0 f.1) (t, rest) found.1 in
      let there = parts_sound role (first_level role shape) bracket.room (closing shape) ts f.0.0 f.0.1 f.1 in
      let it = made_is role shape f.0.0 f.0.1 t rest f.2 in
      subst (λ h. BeginsWith role most (suc n) (opened shape ts) h.0 h.1) (same_Some {A = Tree × List Terminal} (node shape f.0.0, f.0.1) (t, rest) it.same)
      (record {
        is_written = ap (λ us. opened shape us) (there.are_written ∙
            ap (λ us. row_written f.0.0 us) (sym (bracket.closes f.0.1)) ∙
            sym (parts_of_bracket shape bracket.commas f.0.0 (closed shape f.0.1)));
        is_well = (it.has_parts, it.begins_so, parts_of_row role shape bracket.same_role bracket.same_level f.0.0 there.are_well);
        is_level = omega (arith, bracket.flat f.0.0);
        is_deep = omega (arith, there.are_deep);
      })

  pub parenthesized_sound : (role : Role) (most : ℕ) (ts : List Terminal) (t : Tree) (rest : List Terminal) →
      parenthesized p role ts ≡ Some (t, rest) → BeginsWith role most (suc n) (mark marks.OpenParen ∷ ts) t rest
  unfolding parenthesized
  parenthesized_sound role most ts t rest is =
      let f = inverts (p role (in_brackets role) ts) (λ f. and_then (after CloseParen f.1) (λ us. Some (node shapes.Parenthesized (more f.0 none), us))) (t, rest) is in
      let g = inverts (after CloseParen f.0.1) (λ us. Some (node shapes.Parenthesized (more f.0.0 none), us)) (t, rest) f.2 in
      let it = sound role (in_brackets role) ts f.0.0 f.0.1 (room_in_brackets role) f.1 in
      subst (λ h. BeginsWith role most (suc n) (mark marks.OpenParen ∷ ts) h.0 h.1)
      (same_Some {A = Tree × List Terminal} (node shapes.Parenthesized (more f.0.0 none), g.0) (t, rest) g.2)
      (record {
        is_written = ap (λ us. mark marks.OpenParen ∷ us) (it.is_written ∙ ap (λ us. written f.0.0 us) (after_is CloseParen f.0.1 g.0 g.1));
        is_well = (refl, refl, (it.is_level, it.is_well, tt));
        is_level = omega arith;
        is_deep = omega (arith, it.is_deep);
      })

  if_none : {A : Type 0} (b : Bool) (o : Option A) (y : A) → (if b then None else o) ≡ Some y → o ≡ Some y
  if_none true o y is = absurd (none-some y is)
  if_none false o y is = is

  -- Operators before their operand

  pub prefixed_sound : (role : Role) (op : Prefix) (most : ℕ) → 1 ≤ most → (ts : List Terminal) (t : Tree) (rest : List Terminal) →
      prefixed p role op ts ≡ Some (t, rest) → BeginsWith role most (suc n) (prefix_terminal op ∷ ts) t rest
  unfolding prefixed
  prefixed_sound role op most room ts t rest is =
      let found = if_none (is_pattern role) (and_then (p role 1 ts) (λ f. made role (shapes.Prefix op) (more f.0 none) f.1)) (t, rest) is in
      let f = inverts (p role 1 ts) (λ f. made role (shapes.Prefix op) (more f.0 none) f.1) (t, rest) found in
      let one = sound role 1 ts f.0.0 f.0.1 (omega arith) f.1 in
      let it = made_is role (shapes.Prefix op) (more f.0.0 none) f.0.1 t rest f.2 in
      subst (λ h. BeginsWith role most (suc n) (prefix_terminal op ∷ ts) h.0 h.1)
      (same_Some {A = Tree × List Terminal} (node (shapes.Prefix op) (more f.0.0 none), f.0.1) (t, rest) it.same)
      (record {
        is_written = ap (λ us. prefix_terminal op ∷ us) one.is_written;
        is_well = (it.has_parts, it.begins_so, (one.is_level, one.is_well, tt));
        is_level = room;
        is_deep = omega (arith, one.is_deep);
      })

  -- Lists

  with_last_well : (role : Role) (m : ℕ) (us : Trees) (t : Tree) → AreWell role m us → level t ≤ m → IsWell role t →
      AreWell role m (with_last us t)
  with_last_well role m none t well flat is = (flat, is, tt)
  with_last_well role m (more u us) t well flat is = (well.0, well.1, with_last_well role m us t well.2 flat is)

  with_last_deep : (us : Trees) (t : Tree) → trees_depth (with_last us t) ≡ max (trees_depth us) (tree_depth t)
  with_last_deep none t = omega arith
  with_last_deep (more u us) t = omega (arith, with_last_deep us t)

  tailed_sound : (role : Role) (most : ℕ) (us : Trees) → 1 ≤ tree_count us → AreWell role (in_brackets role) us →
      trees_depth us ≤ n → (ts behind : List Terminal) (t : Tree) (rest : List Terminal) →
      ts ≡ row_written us (mark marks.Bar ∷ behind) → tailed p role us behind ≡ Some (t, rest) →
      BeginsWith role most (suc n) (mark marks.OpenBracket ∷ ts) t rest
  tailed_sound role most us some well deep ts behind t rest text is =
      let f = inverts (p role (in_brackets role) behind) (λ f. and_then (after CloseBracket f.1) (λ vs. made role shapes.Cons (with_last us f.0) vs)) (t, rest) is in
      let g = inverts (after CloseBracket f.0.1) (λ vs. made role shapes.Cons (with_last us f.0.0) vs) (t, rest) f.2 in
      let last = sound role (in_brackets role) behind f.0.0 f.0.1 (room_in_brackets role) f.1 in
      let it = made_is role shapes.Cons (with_last us f.0.0) g.0 t rest g.2 in
      subst (λ h. BeginsWith role most (suc n) (mark marks.OpenBracket ∷ ts) h.0 h.1)
      (same_Some {A = Tree × List Terminal} (node shapes.Cons (with_last us f.0.0), g.0) (t, rest) it.same)
      (record {
        is_written = ap (λ vs. mark marks.OpenBracket ∷ vs) (text ∙
            ap (λ vs. row_written us (mark marks.Bar ∷ vs)) (last.is_written ∙ ap (λ vs. written f.0.0 vs) (after_is CloseBracket f.0.1 g.0 g.1)) ∙
            sym (with_last_written us f.0.0 (mark marks.CloseBracket ∷ g.0) some));
        is_well = (
          it.has_parts,
          it.begins_so,
          parts_of_row role shapes.Cons refl refl (with_last us f.0.0) (with_last_well role (in_brackets role) us f.0.0 well last.is_level last.is_well),
        );
        is_level = omega arith;
        is_deep = omega (arith, with_last_deep us f.0.0, deep, last.is_deep);
      })

  listed_whole : (role : Role) (most : ℕ) (us : Trees) → AreWell role (in_brackets role) us → trees_depth us ≤ n →
      (ts behind : List Terminal) (t : Tree) (rest : List Terminal) → ts ≡ row_written us (mark marks.CloseBracket ∷ behind) →
      made role shapes.List us behind ≡ Some (t, rest) → BeginsWith role most (suc n) (mark marks.OpenBracket ∷ ts) t rest
  listed_whole role most us well deep ts behind t rest text is =
      let it = made_is role shapes.List us behind t rest is in
      subst (λ h. BeginsWith role most (suc n) (mark marks.OpenBracket ∷ ts) h.0 h.1)
      (same_Some {A = Tree × List Terminal} (node shapes.List us, behind) (t, rest) it.same)
      (record {
        is_written = ap (λ vs. mark marks.OpenBracket ∷ vs) (text ∙
            sym (parts_of_bracket shapes.List (λ vs. refl) us (mark marks.CloseBracket ∷ behind)));
        is_well = (it.has_parts, it.begins_so, parts_of_row role shapes.List refl refl us well);
        is_level = omega arith;
        is_deep = omega (arith, deep);
      })

  list_end_sound : (role : Role) (most : ℕ) (ts : List Terminal) (us : Trees) (left : List Terminal) →
      IsRow role (in_brackets role) n ts us left → (o bar : Option (List Terminal)) → after CloseBracket left ≡ o → after Bar left ≡ bar →
      (t : Tree) (rest : List Terminal) → list_end p role us o bar ≡ Some (t, rest) →
      BeginsWith role most (suc n) (mark marks.OpenBracket ∷ ts) t rest
  list_end_sound role most ts us left found (Some behind) bar ends bars t rest is =
      listed_whole role most us found.are_well found.are_deep ts behind t rest
      (found.is_written ∙ ap (λ vs. row_written us vs) (after_is CloseBracket left behind ends)) is
  list_end_sound role most ts us left found None (Some behind) ends bars t rest is =
      tailed_sound role most us found.is_some found.are_well found.are_deep ts behind t rest
      (found.is_written ∙ ap (λ vs. row_written us vs) (after_is Bar left behind bars)) is
  list_end_sound role most ts us left found None None ends bars t rest is = absurd (none-some (t, rest) is)

  listed_by_sound : (role : Role) (most : ℕ) (ts : List Terminal) (o : Option (List Terminal)) → after CloseBracket ts ≡ o →
      (t : Tree) (rest : List Terminal) → listed_by o p role ts ≡ Some (t, rest) →
      BeginsWith role most (suc n) (mark marks.OpenBracket ∷ ts) t rest
  listed_by_sound role most ts (Some behind) ends t rest is =
      listed_whole role most none tt (omega arith) ts behind t rest (after_is CloseBracket ts behind ends) is
  listed_by_sound role most ts None ends t rest is =
      let f = inverts (row (p role (in_brackets role)) ts) (λ f. list_end p role f.0 (after CloseBracket f.1) (after Bar f.1)) (t, rest) is in
      list_end_sound role most ts f.0.0 f.0.1 (row_sound p n sound role (in_brackets role) (room_in_brackets role) ts f.0.0 f.0.1 f.1)
      (after CloseBracket f.0.1) (after Bar f.0.1) refl refl t rest f.2

  pub listed_sound : (role : Role) (most : ℕ) (ts : List Terminal) (t : Tree) (rest : List Terminal) →
      listed p role ts ≡ Some (t, rest) → BeginsWith role most (suc n) (mark marks.OpenBracket ∷ ts) t rest
  unfolding listed
  listed_sound role most ts t rest is = listed_by_sound role most ts (after CloseBracket ts) refl t rest is

  -- `case`

  pub cased_sound : (role : Role) (most : ℕ) (ts : List Terminal) (t : Tree) (rest : List Terminal) →
      cased p role ts ≡ Some (t, rest) → BeginsWith role most (suc n) (word words.Case ∷ ts) t rest
  unfolding cased
  cased_sound role most ts t rest is =
      let found = if_some (is_expression role) (and_then (p Expression matches ts) (λ f. and_then (after Of f.1) (λ us. and_then (clauses_to_end p us) (λ g. Some (case (more f.0 none) g.0, g.1))))) (t, rest) is in
      let f = inverts (p Expression matches ts) (λ f. and_then (after Of f.1) (λ us. and_then (clauses_to_end p us) (λ g. Some (case (more f.0 none) g.0, g.1)))) (t, rest) found.1 in
      let o = inverts (after Of f.0.1) (λ us. and_then (clauses_to_end p us) (λ g. Some (case (more f.0.0 none) g.0, g.1))) (t, rest) f.2 in
      let g = inverts (clauses_to_end p o.0) (λ g. Some (case (more f.0.0 none) g.0, g.1)) (t, rest) o.2 in
      let subject = sound Expression matches ts f.0.0 f.0.1 (omega arith) f.1 in
      let clauses = clauses_sound p n sound o.0 g.0.0 g.0.1 g.1 in
      subst (λ h. BeginsWith role most (suc n) (word words.Case ∷ ts) h.0 h.1)
      (same_Some {A = Tree × List Terminal} (case (more f.0.0 none) g.0.0, g.0.1) (t, rest) g.2)
      (record {
        is_written = ap (λ us. word words.Case ∷ us) (subject.is_written ∙ ap (λ us. written f.0.0 us)
            (after_is Of f.0.1 o.0 o.1 ∙ ap (λ us. word words.Of ∷ us) clauses.are_written));
        is_well = (found.0, refl, (subject.is_level, subject.is_well, tt), clauses.are_some, clauses.are_well);
        is_level = omega arith;
        is_deep = omega (arith, subject.is_deep, clauses.are_deep);
      })
