-- What is written of a tree is read as that tree.
use Rattle.std.proofs.Common.{◌≡◌, ℕ, suc, ◌+◌, ◌-◌, ◌≤◌, nat_lt, nat_le, ◌==◌, Bool, true, false, ◌&&◌, not, if◌then◌else◌, IsTrue, is_some, List, [], ◌∷◌, Option, Some, None, ap, subst, sym, ◌∙◌, refl, arith, rules, true≢false}
use Rattle.erl_scan.specs.declared.mark.Mark.TheVariants as marks
use Rattle.erl_scan.specs.declared.word.Word.TheVariants as words
use Rattle.erl_ast.specs.declared.leaf.Sign.TheVariants as signs
use Rattle.erl_ast.specs.declared.leaf.Leaf.{Leaf}
use Rattle.erl_ast.specs.declared.leaf.Leaf.TheVariants as leaves
use Rattle.erl_ast.specs.declared.role.Role.{Role}
use Rattle.erl_ast.specs.declared.role.Role.TheVariants.{Expression, Pattern, Test}
use Rattle.erl_ast.specs.declared.shape.Infix.{Infix}
use Rattle.erl_ast.specs.declared.shape.Prefix.{Prefix}
use Rattle.erl_ast.specs.declared.shape.Prefix.TheVariants.{Negate, Not}
use Rattle.erl_ast.specs.declared.shape.Qualifier.TheVariants as qualifier
use Rattle.erl_ast.specs.declared.shape.Shape.{Shape}
use Rattle.erl_ast.specs.declared.shape.Shape.TheVariants as shapes
use Rattle.erl_ast.specs.Functions.{guard_arity, is_arity, is_guard_function}
use Rattle.erl_ast.specs.Terminal.{Terminal, word, string, mark}
use Rattle.erl_ast.specs.Tree.{Tree, Trees, Clauses, leaf, node, case, none, more, tree_count, tree_depth, trees_depth, clauses_depth}
use Rattle.erl_ast.specs.Grammar.{level, right_level, matches, operations, in_brackets, first_level, has, has_operator, begins, is_unsigned, is_pattern, is_erlang, is_leaf, IsWell, AreWell, AreWellClauses, has_clause}
use Rattle.erl_ast.specs.Written.{written, leaf_written, strings_written, infix_terminal, closed, parts_written, row_written, clauses_written}
use Rattle.erl_expressions.specs.declared.delimiter.Delimiter.{Delimiter}
use Rattle.erl_expressions.specs.declared.delimiter.Delimiter.TheVariants.{Comma, CloseParen, CloseBracket, Bar, Of}
use Rattle.erl_expressions.specs.Delimiters.{delimiter, after}
use Rattle.erl_expressions.specs.Leaves.{leaf_ahead, number_ahead, strings_ahead, after_strings, call_ahead, colon_ahead}
use Rattle.erl_expressions.specs.Reading.{Found, Reader, and_then, parts, parts_by, closing, opens, made, bracketed, parenthesized, list_end, listed_by, listed, prefixed, remote, called, own_called, cased, clauses_to_end, construct, leaf_read, begun_by, begun, fits, joined, climbed, with_last}
use Rattle.erl_expressions.proofs.ByLevels.{climbed_one}
use Rattle.erl_expressions.proofs.Inversion.{both}
use Rattle.erl_expressions.proofs.Lengths.{two_parts}
use Rattle.erl_expressions.specs.Readings.{Stops, is_quiet}
use Rattle.erl_expressions.proofs.Levels.{stops_before, operator_there, above_prefix, left_at_most, end_level, stops_at_operator}
use Rattle.erl_expressions.proofs.Roles.{row_of_parts, own_role, fits_operation}
use Rattle.erl_expressions.proofs.Sound.{and_true}
use Rattle.erl_expressions.proofs.SoundNodes.{IsBracket, tuples, blocks, locals, remotes, parts_of_bracket, with_last_written}
use Rattle.erl_expressions.proofs.WholeRows.{Whole, after_there, row_no_delimiter, row_whole}
use Rattle.erl_expressions.proofs.WholeClauses.{clauses_whole}

abbrev trees_found : Trees → List Terminal → Found Trees
trees_found us rest = Some (us, rest)

abbrev parenthesis_found : Tree → List Terminal → Found Tree
parenthesis_found t rest = Some (node shapes.Parenthesized (more t none), rest)

abbrev found : Tree → List Terminal → Found Tree
found t rest = Some (t, rest)

-- Leaves

no_strings : (rest : List Terminal) → IsTrue (is_quiet rest) → (strings_ahead rest ≡ []) × (after_strings rest ≡ rest)
no_strings (string s ∷ ts) quiet = absurd (true≢false (sym quiet))
no_strings [] quiet = (refl, refl)
no_strings (_ ∷ ts) quiet = (refl, refl)

strings_there : (ss : List (List ℕ)) (rest : List Terminal) → IsTrue (is_quiet rest) → strings_ahead (strings_written ss rest) ≡ ss
strings_there [] rest quiet = (no_strings rest quiet).0
strings_there (s ∷ ss) rest quiet = ap (λ us. s ∷ us) (strings_there ss rest quiet)

behind_strings : (ss : List (List ℕ)) (rest : List Terminal) → IsTrue (is_quiet rest) → after_strings (strings_written ss rest) ≡ rest
behind_strings [] rest quiet = (no_strings rest quiet).1
behind_strings (s ∷ ss) rest quiet = behind_strings ss rest quiet

no_call : (rest : List Terminal) → IsTrue (is_quiet rest) → call_ahead rest ≡ false
no_call (mark marks.OpenParen ∷ ts) quiet = absurd (true≢false (sym quiet))
no_call (mark marks.Colon ∷ ts) quiet = absurd (true≢false (sym quiet))
no_call [] quiet = refl
no_call (_ ∷ ts) quiet = refl

no_colon : (rest : List Terminal) → IsTrue (is_quiet rest) → colon_ahead rest ≡ false
no_colon (mark marks.Colon ∷ ts) quiet = absurd (true≢false (sym quiet))
no_colon [] quiet = refl
no_colon (_ ∷ ts) quiet = refl

abbrev leaf_found : Leaf → List Terminal → Option (Leaf × List Terminal)
leaf_found l rest = Some (l, rest)

abbrev module_if : Bool → Leaf → List Terminal → Option (Leaf × List Terminal)
module_if b l rest = if not b then Some (l, rest) else None

pub leaf_whole : (l : Leaf) (rest : List Terminal) → IsTrue (is_leaf l) → IsTrue (is_quiet rest) → leaf_ahead (leaf_written l rest) ≡ Some (l, rest)
unfolding leaf_ahead
leaf_whole (leaves.Integer signs.Unsigned n) rest is quiet = refl
leaf_whole (leaves.Integer signs.Plus n) rest is quiet = refl
leaf_whole (leaves.Integer signs.Minus n) rest is quiet = refl
leaf_whole (leaves.Atom named) rest is quiet =
    ap (λ b. if b then None else leaf_found (leaves.Atom named) rest) (no_call rest quiet)
leaf_whole (leaves.Strings []) rest is quiet = absurd (true≢false (sym is))
leaf_whole (leaves.Strings (s ∷ ss)) rest is quiet =
    λ i. leaf_found (leaves.Strings (s ∷ strings_there ss rest quiet i)) (behind_strings ss rest quiet i)
leaf_whole (leaves.Variable name at) rest is quiet = refl
leaf_whole (leaves.ModuleName at) rest is quiet = ap (λ b. module_if b (leaves.ModuleName at) rest) (no_colon rest quiet)

pub leaf_read_whole : (l : Leaf) (rest : List Terminal) → IsTrue (is_leaf l) → leaf_read (l, rest) ≡ Some (leaf l, rest)
leaf_read_whole l rest is = ap (λ b. if b then found (leaf l) rest else None) is

-- Nodes

pub if_true : {A : Type 0} (b : Bool) (o : Option A) → IsTrue b → (if b then o else None) ≡ o
if_true true o is = refl
if_true false o is = absurd (true≢false (sym is))

made_whole : (role : Role) (shape : Shape) (us : Trees) (rest : List Terminal) → IsTrue (has role shape (tree_count us)) →
    IsTrue (begins shape us) → made role shape us rest ≡ Some (node shape us, rest)
made_whole role shape us rest has_it begins_it =
    if_true (has role shape (tree_count us) && begins shape us) (found (node shape us) rest)
    (and_true (has role shape (tree_count us)) (begins shape us) has_it begins_it)

some_arity : (o : Option ℕ) (n : ℕ) → IsTrue (is_arity o n) → IsTrue (is_some o)
some_arity None n is = absurd (true≢false (sym is))
some_arity (Some k) n is = refl

pub opens_tuple : (role : Role) → IsTrue (opens role shapes.Tuple)
opens_tuple Expression = refl
opens_tuple Pattern = refl
opens_tuple Test = refl

opens_list : (role : Role) → IsTrue (opens role shapes.List)
opens_list Expression = refl
opens_list Pattern = refl
opens_list Test = refl

opens_cons : (role : Role) → IsTrue (opens role shapes.Cons)
opens_cons Expression = refl
opens_cons Pattern = refl
opens_cons Test = refl

opens_parenthesized : (role : Role) → IsTrue (opens role shapes.Parenthesized)
opens_parenthesized Expression = refl
opens_parenthesized Pattern = refl
opens_parenthesized Test = refl

opens_whole : (role : Role) (shape : Shape) (n : ℕ) → IsTrue (has role shape n) → IsTrue (opens role shape)
opens_whole role shapes.Tuple n is = opens_tuple role
opens_whole role shapes.List n is = opens_list role
opens_whole role shapes.Cons n is = opens_cons role
opens_whole role shapes.Parenthesized n is = opens_parenthesized role
opens_whole Expression shapes.Block n is = refl
opens_whole Pattern shapes.Block n is = absurd (true≢false (sym is))
opens_whole Test shapes.Block n is = absurd (true≢false (sym is))
opens_whole Expression (shapes.Local f) n is = refl
opens_whole Pattern (shapes.Local f) n is = absurd (true≢false (sym is))
opens_whole Test (shapes.Local f) n is = some_arity (guard_arity f.name) n is
opens_whole Expression (shapes.Remote m f) n is = refl
opens_whole Pattern (shapes.Remote m f) n is = absurd (true≢false (sym is))
opens_whole Test (shapes.Remote m f) n is =
    let parts = both (is_erlang m) (is_guard_function f.name n) is in
    and_true (is_erlang m) (is_some (guard_arity f.name)) parts.0 (some_arity (guard_arity f.name) n parts.1)
opens_whole Expression (shapes.Prefix op) n is = refl
opens_whole Pattern (shapes.Prefix op) n is = absurd (true≢false (sym is))
opens_whole Test (shapes.Prefix op) n is = refl
opens_whole Expression (shapes.Infix op) n is = refl
opens_whole Pattern (shapes.Infix op) n is = refl
opens_whole Test (shapes.Infix op) n is = refl

abbrev case_found : Tree → Clauses × List Terminal → Found Tree
case_found t g = Some (case (more t none) g.0, g.1)

-- the last tree of a row, and those before it
pub record HasLast (us : Trees) : Type 0 where
  pub front : Trees
  pub last : Tree
  pub is : us ≡ with_last front last
  pub some : 1 ≤ tree_count front
  pub front_deep : trees_depth front ≤ trees_depth us
  pub last_deep : tree_depth last ≤ trees_depth us

pub last_of : (us : Trees) → 2 ≤ tree_count us → HasLast us
last_of none two = absurd (omega (arith, two))
last_of (more t none) two = absurd (omega (arith, two))
last_of (more t (more u none)) two = record {
  front = more t none;
  last = u;
  is = refl;
  some = omega arith;
  front_deep = omega arith;
  last_deep = omega arith;
}
last_of (more t (more u (more v us))) two =
    let others = last_of (more u (more v us)) (omega arith) in
    record {
      front = more t others.front;
      last = others.last;
      is = ap (λ vs. more t vs) others.is;
      some = omega arith;
      front_deep = omega (arith, others.front_deep);
      last_deep = omega (arith, others.last_deep);
    }

pub well_apart : (role : Role) (m : ℕ) (us : Trees) (t : Tree) → AreWell role m (with_last us t) →
    AreWell role m us × (level t ≤ m) × IsWell role t
well_apart role m none t well = (tt, well.0, well.1)
well_apart role m (more u us) t well =
    let others = well_apart role m us t well.2 in
    ((well.0, well.1, others.0), others.1, others.2)

pub count_two : (n : ℕ) → IsTrue (nat_le 2 n) → 2 ≤ n
count_two n is = search rules

one_is : (n : ℕ) → IsTrue (n == 1) → n ≡ 1
one_is n is = search rules

pub count_one : (n : ℕ) → IsTrue (1 + (1 + n) == 1) → suc n ≤ n
count_one n is = absurd (omega (arith, one_is (1 + (1 + n)) is))

no_number : (role : Role) (t : Tree) (rest : List Terminal) → IsWell role t → IsTrue (not (is_unsigned t)) → level t ≤ 1 → number_ahead signs.Minus (written t rest) ≡ None
no_number role (leaf (leaves.Integer signs.Unsigned n)) rest well is low = absurd (true≢false (sym is))
no_number role (leaf (leaves.Integer signs.Plus n)) rest well is low = refl
no_number role (leaf (leaves.Integer signs.Minus n)) rest well is low = refl
no_number role (leaf (leaves.Atom named)) rest well is low = refl
no_number role (leaf (leaves.Strings [])) rest well is low = absurd (true≢false (sym well))
no_number role (leaf (leaves.Strings (s ∷ ss))) rest well is low = refl
no_number role (leaf (leaves.Variable name at)) rest well is low = refl
no_number role (leaf (leaves.ModuleName at)) rest well is low = refl
no_number role (case subject cs) rest well is low = refl
no_number role (node shapes.Tuple ts) rest well is low = refl
no_number role (node shapes.List ts) rest well is low = refl
no_number role (node shapes.Cons ts) rest well is low = refl
no_number role (node shapes.Parenthesized ts) rest well is low = refl
no_number role (node shapes.Block ts) rest well is low = refl
no_number role (node (shapes.Local f) ts) rest well is low = refl
no_number role (node (shapes.Remote (qualifier.Module m) f) ts) rest well is low = refl
no_number role (node (shapes.Remote (qualifier.ModuleName at) f) ts) rest well is low = refl
no_number role (node (shapes.Prefix Negate) ts) rest well is low = refl
no_number role (node (shapes.Prefix Not) ts) rest well is low = refl
no_number role (node (shapes.Infix op) ts) rest well is low = absurd (omega (arith, above_prefix op, low))

-- operators in what stands left of operators
abbrev pub spine : Tree → ℕ
spine (node (shapes.Infix op) (more t us)) = suc (spine t)
spine t = 0

pub spine_depth : (t : Tree) → spine t ≤ tree_depth t
spine_depth (node (shapes.Infix op) (more t us)) = omega (arith, spine_depth t)
spine_depth _ = omega arith

abbrev infix_found : Tree → Infix → Tree × List Terminal → Found Tree
infix_found t op f = Some (node (shapes.Infix op) (more t (more f.0 none)), f.1)

abbrev pub climbing : ℕ → Reader → Role → ℕ → ℕ → Tree × List Terminal → Found Tree
climbing k p role most levels f = climbed k p role most levels f.0 f.1

is_less : (a b : ℕ) → suc a ≤ b → IsTrue (nat_lt a b)
is_less a b le = search rules

module _ (p : Reader) (n : ℕ) (whole : Whole p n) where
  pub parts_whole : (role : Role) (most : ℕ) (close : Delimiter) (us : Trees) (rest : List Terminal) → AreWell role most us →
      trees_depth us ≤ n → after Comma (delimiter close ∷ rest) ≡ None →
      parts (p role most) close (row_written us (delimiter close ∷ rest)) ≡ Some (us, rest)
  unfolding parts
  parts_whole role most close none rest well deep ends =
      ap (λ o. parts_by o (p role most) close (delimiter close ∷ rest)) (after_there close rest)
  parts_whole role most close (more t us) rest well deep ends =
      let text = row_written (more t us) (delimiter close ∷ rest) in
      ap (λ o. parts_by o (p role most) close text) (row_no_delimiter close role most (more t us) (delimiter close ∷ rest) (omega arith) well) ∙
      ap (λ o. and_then o (λ f. and_then (after close f.1) (trees_found f.0)))
      (row_whole p n whole role most (more t us) (delimiter close ∷ rest) (omega arith) well deep (stops_before close most rest) ends) ∙
      ap (λ o. and_then o (trees_found (more t us))) (after_there close rest)

  bracketed_whole : (role : Role) (shape : Shape) → IsBracket role shape → (us : Trees) (rest : List Terminal) → IsWell role (node shape us) →
      trees_depth us ≤ n → after Comma (delimiter (closing shape) ∷ rest) ≡ None →
      bracketed p role shape (parts_written shape us (closed shape rest)) ≡ Some (node shape us, rest)
  unfolding bracketed
  bracketed_whole role shape bracket us rest well deep ends =
      let text : parts_written shape us (closed shape rest) ≡ row_written us (delimiter (closing shape) ∷ rest) =
      parts_of_bracket shape bracket.commas us (closed shape rest) ∙ ap (λ vs. row_written us vs) (bracket.closes rest) in
      let row_well = row_of_parts role shape bracket.same_role bracket.same_level us well.2 in
      if_true (opens role shape) (and_then (parts (p role (first_level role shape)) (closing shape) (parts_written shape us (closed shape rest))) (λ f. made role shape f.0 f.1))
      (opens_whole role shape (tree_count us) well.0) ∙
      ap (λ vs. and_then (parts (p role (first_level role shape)) (closing shape) vs) (λ f. made role shape f.0 f.1)) text ∙
      ap (λ o. and_then o (λ f. made role shape f.0 f.1)) (parts_whole role (first_level role shape) (closing shape) us rest row_well deep ends) ∙
      made_whole role shape us rest well.0 well.1

  parenthesized_whole : (role : Role) (t : Tree) (rest : List Terminal) → IsWell role t → level t ≤ in_brackets role → tree_depth t ≤ n →
      parenthesized p role (written t (mark marks.CloseParen ∷ rest)) ≡ Some (node shapes.Parenthesized (more t none), rest)
  unfolding parenthesized
  parenthesized_whole role t rest well low deep =
      ap (λ o. and_then o (λ f. and_then (after CloseParen f.1) (parenthesis_found f.0)))
      (whole role (in_brackets role) t (mark marks.CloseParen ∷ rest) well low deep (stops_before CloseParen (in_brackets role) rest))

  prefixed_whole : (role : Role) (op : Prefix) (t : Tree) (rest : List Terminal) → IsWell role (node (shapes.Prefix op) (more t none)) →
      tree_depth t ≤ n → Stops 1 rest → prefixed p role op (written t rest) ≡ Some (node (shapes.Prefix op) (more t none), rest)
  unfolding prefixed
  prefixed_whole Pattern op t rest well deep stops = absurd (true≢false (sym well.0))
  prefixed_whole Expression op t rest well deep stops =
      ap (λ o. and_then o (λ f. made Expression (shapes.Prefix op) (more f.0 none) f.1)) (whole Expression 1 t rest well.2.1 well.2.0 deep stops) ∙
      made_whole Expression (shapes.Prefix op) (more t none) rest well.0 well.1
  prefixed_whole Test op t rest well deep stops =
      ap (λ o. and_then o (λ f. made Test (shapes.Prefix op) (more f.0 none) f.1)) (whole Test 1 t rest well.2.1 well.2.0 deep stops) ∙
      made_whole Test (shapes.Prefix op) (more t none) rest well.0 well.1

  -- Lists

  list_whole : (role : Role) (us : Trees) (rest : List Terminal) → IsWell role (node shapes.List us) → trees_depth us ≤ n →
      listed p role (parts_written shapes.List us (mark marks.CloseBracket ∷ rest)) ≡ Some (node shapes.List us, rest)
  unfolding listed
  list_whole role none rest well deep = refl
  list_whole role (more t us) rest well deep =
      let tail = mark marks.CloseBracket ∷ rest in
      let text : parts_written shapes.List (more t us) tail ≡ row_written (more t us) tail = parts_of_bracket shapes.List (λ vs. refl) (more t us) tail in
      let row_well = row_of_parts role shapes.List refl refl (more t us) well.2 in
      ap (λ vs. listed_by (after CloseBracket vs) p role vs) text ∙
      ap (λ o. listed_by o p role (row_written (more t us) tail))
      (row_no_delimiter CloseBracket role (in_brackets role) (more t us) tail (omega arith) row_well) ∙
      ap (λ o. and_then o (λ f. list_end p role f.0 (after CloseBracket f.1) (after Bar f.1)))
      (row_whole p n whole role (in_brackets role) (more t us) tail (omega arith) row_well deep (stops_before CloseBracket (in_brackets role) rest) refl) ∙
      made_whole role shapes.List (more t us) rest well.0 well.1

  cons_whole : (role : Role) (us : Trees) (t : Tree) (rest : List Terminal) → 1 ≤ tree_count us →
      IsWell role (node shapes.Cons (with_last us t)) → trees_depth us ≤ n → tree_depth t ≤ n →
      listed p role (parts_written shapes.Cons (with_last us t) (mark marks.CloseBracket ∷ rest)) ≡ Some (node shapes.Cons (with_last us t), rest)
  unfolding listed
  cons_whole role us t rest some well deep deep_last =
      let tail = mark marks.Bar ∷ written t (mark marks.CloseBracket ∷ rest) in
      let apart = well_apart role (in_brackets role) us t (row_of_parts role shapes.Cons refl refl (with_last us t) well.2) in
      ap (λ vs. listed_by (after CloseBracket vs) p role vs) (with_last_written us t (mark marks.CloseBracket ∷ rest) some) ∙
      ap (λ o. listed_by o p role (row_written us tail))
      (row_no_delimiter CloseBracket role (in_brackets role) us tail some apart.0) ∙
      ap (λ o. and_then o (λ f. list_end p role f.0 (after CloseBracket f.1) (after Bar f.1)))
      (row_whole p n whole role (in_brackets role) us tail some apart.0 deep (stops_before Bar (in_brackets role) (written t (mark marks.CloseBracket ∷ rest))) refl) ∙
      ap (λ o. and_then o (λ f. and_then (after CloseBracket f.1) (λ behind. made role shapes.Cons (with_last us f.0) behind)))
      (whole role (in_brackets role) t (mark marks.CloseBracket ∷ rest) apart.2 apart.1 deep_last (stops_before CloseBracket (in_brackets role) rest)) ∙
      made_whole role shapes.Cons (with_last us t) rest well.0 well.1

  -- `case`

  cased_whole : (t : Tree) (cs : Clauses) (rest : List Terminal) → IsWell Expression t → level t ≤ matches → tree_depth t ≤ n →
      IsTrue (has_clause cs) → AreWellClauses cs → clauses_depth cs ≤ n →
      cased p Expression (written t (word words.Of ∷ clauses_written cs (word words.End ∷ rest))) ≡ Some (case (more t none) cs, rest)
  unfolding cased
  cased_whole t cs rest well low deep some wells deeps =
      ap (λ o. and_then o (λ f. and_then (after Of f.1) (λ us. and_then (clauses_to_end p us) (case_found f.0))))
      (whole Expression matches t (word words.Of ∷ clauses_written cs (word words.End ∷ rest)) well low deep
      (stops_before Of matches (clauses_written cs (word words.End ∷ rest)))) ∙
      ap (λ o. and_then o (case_found t)) (clauses_whole p n whole cs rest some wells deeps)

  -- Up to the first operator

  pub not_leaf : (role : Role) (ts : List Terminal) (t : Tree) (rest : List Terminal) → leaf_ahead ts ≡ None →
      construct p role ts ≡ Some (t, rest) → begun p role ts ≡ Some (t, rest)
  unfolding begun
  not_leaf role ts t rest none_ahead is = ap (λ o. begun_by o p role ts) none_ahead ∙ is

  leaf_begun : (role : Role) (l : Leaf) (rest : List Terminal) → IsTrue (is_leaf l) → IsTrue (is_quiet rest) →
      begun p role (leaf_written l rest) ≡ Some (leaf l, rest)
  unfolding begun
  leaf_begun role l rest is quiet =
      ap (λ o. begun_by o p role (leaf_written l rest)) (leaf_whole l rest is quiet) ∙ leaf_read_whole l rest is

  pub begun_whole : (role : Role) (t : Tree) (rest : List Terminal) → IsWell role t → level t ≤ 1 → tree_depth t ≤ suc n →
      Stops (end_level t) rest → begun p role (written t rest) ≡ Some (t, rest)
  unfolding construct called remote own_called leaf_ahead
  begun_whole role (leaf l) rest well low deep stops = leaf_begun role l rest well stops.quiet
  begun_whole role (node shapes.Tuple us) rest well low deep stops =
      not_leaf role (written (node shapes.Tuple us) rest) (node shapes.Tuple us) rest refl
      (bracketed_whole role shapes.Tuple (tuples role) us rest well (omega (arith, deep)) refl)
  begun_whole role (node shapes.List us) rest well low deep stops =
      not_leaf role (written (node shapes.List us) rest) (node shapes.List us) rest refl (list_whole role us rest well (omega (arith, deep)))
  begun_whole role (node shapes.Cons us) rest well low deep stops =
      let parts = last_of us (count_two (tree_count us) well.0) in
      subst (λ vs. begun p role (written (node shapes.Cons vs) rest) ≡ found (node shapes.Cons vs) rest) (sym parts.is)
      (not_leaf role (written (node shapes.Cons (with_last parts.front parts.last)) rest) (node shapes.Cons (with_last parts.front parts.last)) rest refl
      (cons_whole role parts.front parts.last rest parts.some (subst (λ vs. IsWell role (node shapes.Cons vs)) parts.is well)
      (omega (arith, deep, parts.front_deep)) (omega (arith, deep, parts.last_deep))))
  begun_whole role (node shapes.Parenthesized none) rest well low deep stops = absurd (true≢false (sym well.0))
  begun_whole role (node shapes.Parenthesized (more t none)) rest well low deep stops =
      not_leaf role (written (node shapes.Parenthesized (more t none)) rest) (node shapes.Parenthesized (more t none)) rest refl
      (parenthesized_whole role t rest well.2.1 well.2.0 (omega (arith, deep)))
  begun_whole role (node shapes.Parenthesized (more t (more u us))) rest well low deep stops = absurd (omega (arith, count_one (tree_count us) well.0))
  begun_whole role (node shapes.Block us) rest well low deep stops =
      not_leaf role (written (node shapes.Block us) rest) (node shapes.Block us) rest refl
      (bracketed_whole role shapes.Block (blocks role) us rest well (omega (arith, deep)) refl)
  begun_whole role (node (shapes.Local f) us) rest well low deep stops =
      not_leaf role (written (node (shapes.Local f) us) rest) (node (shapes.Local f) us) rest refl
      (bracketed_whole role (shapes.Local f) (locals role f) us rest well (omega (arith, deep)) refl)
  begun_whole role (node (shapes.Remote (qualifier.Module m) f) us) rest well low deep stops =
      not_leaf role (written (node (shapes.Remote (qualifier.Module m) f) us) rest) (node (shapes.Remote (qualifier.Module m) f) us) rest refl
      (bracketed_whole role (shapes.Remote (qualifier.Module m) f) (remotes role (qualifier.Module m) f) us rest well (omega (arith, deep)) refl)
  begun_whole role (node (shapes.Remote (qualifier.ModuleName at) f) us) rest well low deep stops =
      not_leaf role (written (node (shapes.Remote (qualifier.ModuleName at) f) us) rest) (node (shapes.Remote (qualifier.ModuleName at) f) us) rest refl
      (bracketed_whole role (shapes.Remote (qualifier.ModuleName at) f) (remotes role (qualifier.ModuleName at) f) us rest well (omega (arith, deep)) refl)
  begun_whole role (node (shapes.Prefix op) none) rest well low deep stops =
      absurd (true≢false (sym (both (not (is_pattern role)) false well.0).1))
  begun_whole role (node (shapes.Prefix Negate) (more t none)) rest well low deep stops =
      not_leaf role (written (node (shapes.Prefix Negate) (more t none)) rest) (node (shapes.Prefix Negate) (more t none)) rest
      (no_number role t rest well.2.1 well.1 well.2.0)
      (prefixed_whole role Negate t rest well (omega (arith, deep)) stops)
  begun_whole role (node (shapes.Prefix Not) (more t none)) rest well low deep stops =
      not_leaf role (written (node (shapes.Prefix Not) (more t none)) rest) (node (shapes.Prefix Not) (more t none)) rest refl
      (prefixed_whole role Not t rest well (omega (arith, deep)) stops)
  begun_whole role (node (shapes.Prefix op) (more t (more u us))) rest well low deep stops =
      absurd (omega (arith, count_one (tree_count us) (both (not (is_pattern role)) (1 + (1 + tree_count us) == 1) well.0).1))
  begun_whole role (node (shapes.Infix op) us) rest well low deep stops = absurd (omega (arith, above_prefix op, low))
  begun_whole Pattern (case subject cs) rest well low deep stops = absurd (true≢false (sym well.0))
  begun_whole Test (case subject cs) rest well low deep stops = absurd (true≢false (sym well.0))
  begun_whole Expression (case none cs) rest well low deep stops = absurd (omega (arith, well.1))
  begun_whole Expression (case (more t none) cs) rest well low deep stops =
      not_leaf Expression (written (case (more t none) cs) rest) (case (more t none) cs) rest refl
      (cased_whole t cs rest well.2.1 well.2.0 (omega (arith, deep)) well.3 well.4 (omega (arith, deep)))
  begun_whole Expression (case (more t (more u us)) cs) rest well low deep stops = absurd (omega (arith, well.1))

  -- Operators, from the left

  pub joined_whole : (was role : Role) (t : Tree) (op : Infix) (u : Tree) (rest : List Terminal) → IsTrue (fits was op t) → IsWell role u →
      level u ≤ right_level op → tree_depth (node (shapes.Infix op) (more t (more u none))) ≤ suc n → Stops (right_level op) rest →
      joined p was role (suc n) t op (infix_terminal op ∷ written u rest) ≡ Some (node (shapes.Infix op) (more t (more u none)), rest)
  joined_whole was role t op u rest fit well low deep stops =
      if_true (nat_lt (tree_depth t) (suc n)) (if fits was op t then
      and_then (p role (right_level op) (written u rest)) (infix_found t op) else None) (is_less (tree_depth t) (suc n) (omega (arith, deep))) ∙
      if_true (fits was op t) (and_then (p role (right_level op) (written u rest)) (infix_found t op)) fit ∙
      ap (λ o. and_then o (infix_found t op)) (whole role (right_level op) u rest well low (omega (arith, deep)) stops)

  -- what is no match

  pub spine_whole : (role : Role) (most k : ℕ) (t : Tree) (rest : List Terminal) → IsWell role t → level t ≤ most →
      level t ≤ operations → tree_depth t ≤ suc n →
      Stops (end_level t) rest → spine t ≤ k →
      and_then (begun p role (written t rest)) (climbing k p role most (suc n)) ≡ climbed (k - spine t) p role most (suc n) t rest
  spine_whole role most k (leaf l) rest well low flat deep stops short =
      ap (λ o. and_then o (climbing k p role most (suc n))) (begun_whole role (leaf l) rest well (omega arith) deep stops) ∙
      ap (λ m. climbed m p role most (suc n) (leaf l) rest) {x = k} {y = k - 0} (omega arith)
  spine_whole role most k (case subject cs) rest well low flat deep stops short =
      ap (λ o. and_then o (climbing k p role most (suc n))) (begun_whole role (case subject cs) rest well (omega arith) deep stops) ∙
      ap (λ m. climbed m p role most (suc n) (case subject cs) rest) {x = k} {y = k - 0} (omega arith)
  spine_whole role most k (node shapes.Tuple us) rest well low flat deep stops short =
      ap (λ o. and_then o (climbing k p role most (suc n))) (begun_whole role (node shapes.Tuple us) rest well (omega arith) deep stops) ∙
      ap (λ m. climbed m p role most (suc n) (node shapes.Tuple us) rest) {x = k} {y = k - 0} (omega arith)
  spine_whole role most k (node shapes.List us) rest well low flat deep stops short =
      ap (λ o. and_then o (climbing k p role most (suc n))) (begun_whole role (node shapes.List us) rest well (omega arith) deep stops) ∙
      ap (λ m. climbed m p role most (suc n) (node shapes.List us) rest) {x = k} {y = k - 0} (omega arith)
  spine_whole role most k (node shapes.Cons us) rest well low flat deep stops short =
      ap (λ o. and_then o (climbing k p role most (suc n))) (begun_whole role (node shapes.Cons us) rest well (omega arith) deep stops) ∙
      ap (λ m. climbed m p role most (suc n) (node shapes.Cons us) rest) {x = k} {y = k - 0} (omega arith)
  spine_whole role most k (node shapes.Parenthesized us) rest well low flat deep stops short =
      ap (λ o. and_then o (climbing k p role most (suc n))) (begun_whole role (node shapes.Parenthesized us) rest well (omega arith) deep stops) ∙
      ap (λ m. climbed m p role most (suc n) (node shapes.Parenthesized us) rest) {x = k} {y = k - 0} (omega arith)
  spine_whole role most k (node shapes.Block us) rest well low flat deep stops short =
      ap (λ o. and_then o (climbing k p role most (suc n))) (begun_whole role (node shapes.Block us) rest well (omega arith) deep stops) ∙
      ap (λ m. climbed m p role most (suc n) (node shapes.Block us) rest) {x = k} {y = k - 0} (omega arith)
  spine_whole role most k (node (shapes.Local f) us) rest well low flat deep stops short =
      ap (λ o. and_then o (climbing k p role most (suc n))) (begun_whole role (node (shapes.Local f) us) rest well (omega arith) deep stops) ∙
      ap (λ m. climbed m p role most (suc n) (node (shapes.Local f) us) rest) {x = k} {y = k - 0} (omega arith)
  spine_whole role most k (node (shapes.Remote owner f) us) rest well low flat deep stops short =
      ap (λ o. and_then o (climbing k p role most (suc n))) (begun_whole role (node (shapes.Remote owner f) us) rest well (omega arith) deep stops) ∙
      ap (λ m. climbed m p role most (suc n) (node (shapes.Remote owner f) us) rest) {x = k} {y = k - 0} (omega arith)
  spine_whole role most k (node (shapes.Prefix op) us) rest well low flat deep stops short =
      ap (λ o. and_then o (climbing k p role most (suc n))) (begun_whole role (node (shapes.Prefix op) us) rest well (omega arith) deep stops) ∙
      ap (λ m. climbed m p role most (suc n) (node (shapes.Prefix op) us) rest) {x = k} {y = k - 0} (omega arith)
  spine_whole role most k (node (shapes.Infix op) none) rest well low flat deep stops short =
      absurd (omega (arith, two_parts (has_operator role op) 0 well.0))
  spine_whole role most k (node (shapes.Infix op) (more t none)) rest well low flat deep stops short =
      absurd (omega (arith, two_parts (has_operator role op) 1 well.0))
  spine_whole role most k (node (shapes.Infix op) (more t (more u (more v us)))) rest well low flat deep stops short =
      absurd (omega (arith, two_parts (has_operator role op) (1 + (1 + (1 + tree_count us))) well.0))
  spine_whole role most k (node (shapes.Infix op) (more t (more u none))) rest well low flat deep stops short =
      let behind = infix_terminal op ∷ written u rest in
      let it = node (shapes.Infix op) (more t (more u none)) in
      spine_whole role most k t behind (subst (λ r. IsWell r t) (own_role role op flat) well.2.1) (omega (arith, well.2.0, left_at_most op, low))
      (omega (arith, well.2.0, left_at_most op, flat)) (omega (arith, deep)) (stops_at_operator t op (written u rest) well.2.0) (omega (arith, short)) ∙
      ap (λ m. climbed m p role most (suc n) t behind) {x = k - spine t} {y = suc (k - spine it)} (omega (arith, short)) ∙
      climbed_one (k - spine it) p role most (suc n) t it behind rest op
      (operator_there role most (level t) op (written u rest) (both (has_operator role op) true well.0).0 low well.2.0)
      (joined_whole role role t op u rest (fits_operation role op t flat) well.2.2.1 well.2.2.0 deep stops)
