-- Reading as a function of tokens: the tree that tokens begin with, and what is left behind it, if they begin with one. Each
-- function has as an argument the reader of trees that are nested one level less.
use Rattle.std.specs.Prelude.{ℕ, zero, suc, Bool, true, false, ◌&&◌, nat_lt, nat_le, if◌then◌else◌, is_some, List, [], ◌∷◌}
use Rattle.std.specs.Prelude.{length, codes, Option, None, Some}
use Rattle.std.specs.Str.{bytes_eq}
use Rattle.erl_scan.specs.declared.mark.Mark.{Mark}
use Rattle.erl_scan.specs.declared.mark.Mark.TheVariants as marks
use Rattle.erl_scan.specs.declared.word.Word.{Word}
use Rattle.erl_scan.specs.declared.word.Word.TheVariants as words
use Rattle.erl_ast.specs.declared.leaf.Leaf.{Leaf}
use Rattle.erl_ast.specs.declared.leaf.Named.{Named}
use Rattle.erl_ast.specs.declared.role.Role.{Role}
use Rattle.erl_ast.specs.declared.role.Role.TheVariants.{Expression, Pattern, Test}
use Rattle.erl_ast.specs.declared.shape.Infix.{Infix}
use Rattle.erl_ast.specs.declared.shape.Infix.TheVariants as operators
use Rattle.erl_ast.specs.declared.shape.Prefix.{Prefix}
use Rattle.erl_ast.specs.declared.shape.Prefix.TheVariants.{Negate, Not}
use Rattle.erl_ast.specs.declared.shape.Qualifier.{Qualifier}
use Rattle.erl_ast.specs.declared.shape.Qualifier.TheVariants as qualifier
use Rattle.erl_ast.specs.declared.shape.Shape.{Shape}
use Rattle.erl_ast.specs.declared.shape.Shape.TheVariants as shapes
use Rattle.erl_ast.specs.Functions.{guard_arity}
use Rattle.erl_ast.specs.Terminal.{Terminal, atom, variable, mark, word}
use Rattle.erl_ast.specs.Tree.{Tree, Trees, Guards, Clauses, leaf, node, case, none, more, no_guards, guard, no_clauses, clause}
use Rattle.erl_ast.specs.Tree.{tree_count, tree_depth}
use Rattle.erl_ast.specs.Grammar.{matches, operations, level, right_level, in_brackets, first_level, is_leaf, has}
use Rattle.erl_ast.specs.Grammar.{begins, is_expression, is_pattern, is_erlang}
use Rattle.erl_expressions.specs.declared.delimiter.Delimiter.{Delimiter}
use Rattle.erl_expressions.specs.declared.delimiter.Delimiter.TheVariants.{Comma, Semicolon, Bar, Arrow, CloseParen, CloseBrace}
use Rattle.erl_expressions.specs.declared.delimiter.Delimiter.TheVariants.{CloseBracket, When, Of, End}
use Rattle.erl_expressions.specs.Delimiters.{after}
use Rattle.erl_expressions.specs.Leaves.{leaf_ahead, operator_ahead, colon_ahead, paren_ahead}

-- what was read, and what is left
abbrev pub Found : Type 0 → Type 0
Found A = Option (A × List Terminal)

-- trees in a role, of at most a level
abbrev pub Reader : Type 0
Reader = Role → ℕ → List Terminal → Found Tree

abbrev pub and_then : {A B : Type 0} → Option A → (A → Option B) → Option B
and_then None f = None
and_then (Some x) f = f x

-- Things in a row, with a delimiter between them

abbrev pub other_things : {A : Type 0} → A × List Terminal → Option (List Terminal) → (List Terminal → Found (List A)) →
    Found (List A)
other_things f None others = Some (f.0 ∷ [], f.1)
other_things f (Some ts) others = and_then (others ts) (λ g. Some (f.0 ∷ g.0, g.1))

abbrev pub separated : {A : Type 0} → Delimiter → ℕ → (List Terminal → Found A) → List Terminal → Found (List A)
separated d zero read ts = None
separated d (suc turns) read ts = and_then (read ts) (λ f. other_things f (after d f.1) (separated d turns read))

abbrev pub with_last : Trees → Tree → Trees
with_last none t = more t none
with_last (more u us) t = more u (with_last us t)

-- a row, and trees behind it
abbrev pub with_more : Trees → List Tree → Trees
with_more ts [] = ts
with_more ts (u ∷ us) = with_more (with_last ts u) us

abbrev pub rest_of_row : Trees → List Tree × List Terminal → Found Trees
rest_of_row us f = Some (with_more us f.0, f.1)

-- what goes on with trees of a row, of at most so many more
abbrev pub rest_of_trees : ℕ → (List Terminal → Found Tree) → Trees → List Terminal → Found Trees
rest_of_trees turns read us ts = and_then (separated Comma turns read ts) (rest_of_row us)

unfoldable pub row : (List Terminal → Found Tree) → List Terminal → Found Trees
row read ts = and_then (separated Comma (length ts) read ts) (rest_of_row none)

-- Brackets and calls

abbrev pub closing : Shape → Delimiter
closing shapes.Tuple = CloseBrace
closing shapes.List = CloseBracket
closing shapes.Cons = CloseBracket
closing shapes.Block = End
closing shape = CloseParen

-- whether a role has such a node with some number of parts
abbrev pub opens : Role → Shape → Bool
opens role shapes.Block = is_expression role
opens Pattern (shapes.Local f) = false
opens Pattern (shapes.Remote m f) = false
opens Pattern (shapes.Prefix op) = false
opens Test (shapes.Local f) = is_some (guard_arity f.name)
opens Test (shapes.Remote m f) = is_erlang m && is_some (guard_arity f.name)
opens role shape = true

abbrev pub made : Role → Shape → Trees → List Terminal → Found Tree
made role shape ts rest = if has role shape (tree_count ts) && begins shape ts then Some (node shape ts, rest) else None

-- parts up to a closing bracket

abbrev pub parts_by : Option (List Terminal) → (List Terminal → Found Tree) → Delimiter → List Terminal → Found Trees
parts_by (Some rest) read close ts = Some (none, rest)
parts_by None read close ts = and_then (row read ts) (λ f. and_then (after close f.1) (λ rest. Some (f.0, rest)))

unfoldable pub parts : (List Terminal → Found Tree) → Delimiter → List Terminal → Found Trees
parts read close ts = parts_by (after close ts) read close ts

unfoldable pub bracketed : Reader → Role → Shape → List Terminal → Found Tree
bracketed p role shape ts =
    if opens role shape then and_then (parts (p role (first_level role shape)) (closing shape) ts) (λ f. made role shape f.0 f.1)
    else None

-- `(E)`
unfoldable pub parenthesized : Reader → Role → List Terminal → Found Tree
parenthesized p role ts =
    and_then (p role (in_brackets role) ts) (λ f.
    and_then (after CloseParen f.1) (λ rest. Some (node shapes.Parenthesized (more f.0 none), rest)))

-- a list, with a tail or without

abbrev pub tailed : Reader → Role → Trees → List Terminal → Found Tree
tailed p role ts rest =
    and_then (p role (in_brackets role) rest) (λ f.
    and_then (after CloseBracket f.1) (λ behind. made role shapes.Cons (with_last ts f.0) behind))

abbrev pub list_end : Reader → Role → Trees → Option (List Terminal) → Option (List Terminal) → Found Tree
list_end p role ts (Some rest) bar = made role shapes.List ts rest
list_end p role ts None (Some rest) = tailed p role ts rest
list_end p role ts None None = None

abbrev pub listed_by : Option (List Terminal) → Reader → Role → List Terminal → Found Tree
listed_by (Some rest) p role ts = made role shapes.List none rest
listed_by None p role ts = and_then (row (p role (in_brackets role)) ts) (λ f.
    list_end p role f.0 (after CloseBracket f.1) (after Bar f.1))

unfoldable pub listed : Reader → Role → List Terminal → Found Tree
listed p role ts = listed_by (after CloseBracket ts) p role ts

unfoldable pub prefixed : Reader → Role → Prefix → List Terminal → Found Tree
prefixed p role op ts =
    if is_pattern role then None else and_then (p role 1 ts) (λ f. made role (shapes.Prefix op) (more f.0 none) f.1)

abbrev pub behind_first : List Terminal → List Terminal
behind_first [] = []
behind_first (t ∷ ts) = ts

unfoldable pub remote : Reader → Role → Qualifier → List Terminal → Found Tree
remote p role m (atom name at ∷ ts) =
    if paren_ahead ts then bracketed p role (shapes.Remote m (record { name = name; at = at })) (behind_first ts) else None
remote p role m ts = None

unfoldable pub called : Reader → Role → Named → List Terminal → Found Tree
called p role f (mark marks.OpenParen ∷ ts) = bracketed p role (shapes.Local f) ts
called p role f (mark marks.Colon ∷ ts) = remote p role (qualifier.Module f) ts
called p role f ts = None

-- `?MODULE:f(..)`, behind the first sign
unfoldable pub own_called : Reader → Role → List Terminal → Found Tree
own_called p role (variable name at ∷ ts) =
    if bytes_eq name (codes "MODULE") && colon_ahead ts then remote p role (qualifier.ModuleName at) (behind_first ts) else None
own_called p role ts = None

-- Clauses

abbrev pub with_last_guard : Guards → Trees → Guards
with_last_guard no_guards tests = guard tests no_guards
with_last_guard (guard us gs) tests = guard us (with_last_guard gs tests)

abbrev pub with_guards : Guards → List Trees → Guards
with_guards gs [] = gs
with_guards gs (tests ∷ others) = with_guards (with_last_guard gs tests) others

abbrev pub rest_of_guards : Guards → List Trees × List Terminal → Found Guards
rest_of_guards gs f = Some (with_guards gs f.0, f.1)

unfoldable pub alternatives : Reader → List Terminal → Found Guards
alternatives p ts = and_then (separated Semicolon (length ts) (row (p Test operations)) ts) (rest_of_guards no_guards)

abbrev pub guarded_by : Option (List Terminal) → Reader → List Terminal → Found Guards
guarded_by None p ts = Some (no_guards, ts)
guarded_by (Some rest) p ts = alternatives p rest

-- a guard sequence, if there is one
unfoldable pub guarded : Reader → List Terminal → Found Guards
guarded p ts = guarded_by (after When ts) p ts

-- a guard sequence and a body
abbrev pub Arm : Type 0
Arm = Guards × Trees

unfoldable pub arm : Reader → List Terminal → Found Arm
arm p ts =
    and_then (guarded p ts) (λ g. and_then (after Arrow g.1) (λ rest.
    and_then (row (p Expression matches) rest) (λ b. Some ((g.0, b.0), b.1))))

-- a clause of one pattern
unfoldable pub one_clause : Reader → List Terminal → Found (Tree × Arm)
one_clause p ts = and_then (p Pattern matches ts) (λ f. and_then (arm p f.1) (λ g. Some ((f.0, g.0), g.1)))

abbrev pub with_last_clause : Clauses → Tree × Arm → Clauses
with_last_clause no_clauses c = clause (more c.0 none) c.1.0 c.1.1 no_clauses
with_last_clause (clause ps gs body cs) c = clause ps gs body (with_last_clause cs c)

abbrev pub with_clauses : Clauses → List (Tree × Arm) → Clauses
with_clauses cs [] = cs
with_clauses cs (c ∷ others) = with_clauses (with_last_clause cs c) others

abbrev pub closed : Clauses → List Terminal → Found Clauses
closed cs ts = and_then (after End ts) (λ rest. Some (cs, rest))

abbrev pub rest_of_clauses : Clauses → List (Tree × Arm) × List Terminal → Found Clauses
rest_of_clauses cs f = closed (with_clauses cs f.0) f.1

-- clauses of a `case` or of a `receive`, and the word behind them
unfoldable pub clauses_to_end : Reader → List Terminal → Found Clauses
clauses_to_end p ts =
    and_then (separated Semicolon (length ts) (one_clause p) ts) (rest_of_clauses no_clauses)

unfoldable pub cased : Reader → Role → List Terminal → Found Tree
cased p role ts =
    if is_expression role then
    and_then (p Expression matches ts) (λ f. and_then (after Of f.1) (λ rest.
    and_then (clauses_to_end p rest) (λ g. Some (case (more f.0 none) g.0, g.1))))
    else None

-- Expressions

abbrev pub begun_by_mark : Reader → Role → Mark → List Terminal → Found Tree
begun_by_mark p role marks.OpenBrace ts = bracketed p role shapes.Tuple ts
begun_by_mark p role marks.OpenBracket ts = listed p role ts
begun_by_mark p role marks.OpenParen ts = parenthesized p role ts
begun_by_mark p role marks.Minus ts = prefixed p role Negate ts
begun_by_mark p role marks.Question ts = own_called p role ts
begun_by_mark p role m ts = None

abbrev pub begun_by_word : Reader → Role → Word → List Terminal → Found Tree
begun_by_word p role words.Not ts = prefixed p role Not ts
begun_by_word p role words.Begin ts = bracketed p role shapes.Block ts
begun_by_word p role words.Case ts = cased p role ts
begun_by_word p role w ts = None

-- what is no leaf and begins with no part
unfoldable pub construct : Reader → Role → List Terminal → Found Tree
construct p role (atom name at ∷ ts) = called p role (record { name = name; at = at }) ts
construct p role (mark m ∷ ts) = begun_by_mark p role m ts
construct p role (word w ∷ ts) = begun_by_word p role w ts
construct p role ts = None

abbrev pub leaf_read : Leaf × List Terminal → Found Tree
leaf_read f = if is_leaf f.0 then Some (leaf f.0, f.1) else None

abbrev pub begun_by : Option (Leaf × List Terminal) → Reader → Role → List Terminal → Found Tree
begun_by (Some f) p role ts = leaf_read f
begun_by None p role ts = construct p role ts

-- an expression up to the first operator between parts
unfoldable pub begun : Reader → Role → List Terminal → Found Tree
begun p role ts = begun_by (leaf_ahead ts) p role ts

-- What was read as an expression may stand left of `=` if it is a pattern: literals, variables, tuples and lists of them.

abbrev pub makes_pattern : Shape → Bool
makes_pattern shapes.Tuple = true
makes_pattern shapes.List = true
makes_pattern shapes.Cons = true
makes_pattern shapes.Parenthesized = true
makes_pattern shape = false

abbrev mutual
  pub fits_pattern : Tree → Bool
  fits_pattern (leaf l) = true
  fits_pattern (node shape ts) = makes_pattern shape && fit_pattern ts
  fits_pattern (case subject cs) = false

  pub fit_pattern : Trees → Bool
  fit_pattern none = true
  fit_pattern (more t ts) = fits_pattern t && fit_pattern ts

-- whether what was read in a role may stand left of an operator, its level aside
abbrev pub fits : Role → Infix → Tree → Bool
fits Expression operators.Match t = fits_pattern t
fits was op t = true

-- An operator goes on with what stands left of it, which was read in a role of its own, if that leaves room for it within so
-- many levels.
abbrev pub joined : Reader → Role → Role → ℕ → Tree → Infix → List Terminal → Found Tree
joined p was role levels t op ts =
    if nat_lt (tree_depth t) levels then
    (if fits was op t then
    and_then (p role (right_level op) (behind_first ts)) (λ f. Some (node (shapes.Infix op) (more t (more f.0 none)), f.1))
    else None)
    else None

abbrev pub climbed_by : Option Infix → Reader → Role → ℕ → Tree → List Terminal → (Tree → List Terminal → Found Tree) → Found Tree
climbed_by None p role levels t ts go = Some (t, ts)
climbed_by (Some op) p role levels t ts go = and_then (joined p role role levels t op ts) (λ f. go f.0 f.1)

abbrev pub ended_by : Option Infix → Tree × List Terminal → Found Tree
ended_by None f = Some f
ended_by (Some op) f = None

-- as many operators as go on with a tree, in at most so many turns
abbrev pub climbed : ℕ → Reader → Role → ℕ → ℕ → Tree → List Terminal → Found Tree
climbed zero p role most levels t ts = ended_by (operator_ahead role most (level t) ts) (t, ts)
climbed (suc turns) p role most levels t ts =
    climbed_by (operator_ahead role most (level t) ts) p role levels t ts (climbed turns p role most levels)

abbrev pub only_leaf : Option (Leaf × List Terminal) → Role → ℕ → Found Tree
only_leaf None role most = None
only_leaf (Some f) role most = and_then (leaf_read f) (λ g. ended_by (operator_ahead role most 0 g.1) g)

abbrev pub match_ahead : List Terminal → Bool
match_ahead (mark marks.Match ∷ ts) = true
match_ahead ts = false

abbrev pub matched_by : Tree × List Terminal → Reader → Role → ℕ → Found Tree
matched_by f p role levels = if match_ahead f.1 then joined p Pattern role levels f.0 operators.Match f.1 else None

-- A match whose pattern is no expression, as another match stands in it.
abbrev pub matched : Reader → Role → ℕ → ℕ → List Terminal → Found Tree
matched p role most levels ts =
    if is_expression role && nat_le matches most then and_then (begun p Pattern ts) (λ f. matched_by f p role levels) else None

abbrev pub read_by : Found Tree → Reader → Role → ℕ → ℕ → List Terminal → Found Tree
read_by None p role most levels ts = matched p role most levels ts
read_by (Some f) p role most levels ts = climbed levels p role most levels f.0 f.1

-- The expression, pattern or test of at most a level that tokens begin with, nested at most so deep: as long as it goes on.
unfoldable pub read : ℕ → Reader
read zero role most ts = only_leaf (leaf_ahead ts) role most
read (suc levels) role most ts = read_by (begun (read levels) role ts) (read levels) role most (suc levels) ts
