-- Things in a row: one more of them, the last, and none.
use Rattle.std.proofs.Common.{◌≡◌, ℕ, zero, suc, ◌+◌, ◌-◌, ◌<◌, ◌≤◌, List, [], ◌∷◌, length, Option, Some, None, ap, ◌∙◌, ◌≢◌, refl, arith}
use Rattle.erl_scan.specs.declared.token.Spot.{Spot}
use Rattle.erl_ast.specs.declared.role.Role.TheVariants.{Test}
use Rattle.erl_ast.specs.Grammar.{operations}
use Rattle.erl_ast.specs.Terminal.{Terminal, terminals}
use Rattle.erl_expressions.proofs.Strings.{terminals_length}
use Rattle.erl_expressions.specs.Reading.{Reader, row, alternatives, clauses_to_end, one_clause}
use Rattle.erl_ast.specs.Tree.{Tree, Trees, Guards, Clauses, none, no_guards, no_clauses}
use Rattle.erl_expressions.specs.declared.delimiter.Delimiter.{Delimiter}
use Rattle.erl_expressions.specs.declared.delimiter.Delimiter.TheVariants.{Comma, Semicolon}
use Rattle.erl_expressions.specs.Delimiters.{after}
use Rattle.erl_expressions.specs.Reading.{Found, Arm, and_then, other_things, separated, closed, rest_of_row, rest_of_trees, rest_of_guards, rest_of_clauses, with_last, with_last_guard, with_last_clause}

left : (n i : ℕ) → i < n → n - i ≡ suc (n - (i + 1))
left n i within = omega (arith, within)

past : (n i : ℕ) → n ≤ i → n - i ≡ zero
past n i is = omega (arith, is)

module _ {A B : Type 0} (d : Delimiter) (n i : ℕ) (read : List Terminal → Found A) (ts : List Terminal)
    (go : List A × List Terminal → Option B) where
  twice : (o : Found (List A)) (x : A) →
      and_then (and_then o (λ g. Some (x ∷ g.0, g.1))) go ≡ and_then o (λ f. go (x ∷ f.0, f.1))
  twice None x = refl
  twice (Some f) x = refl

  pub things_more : (x : A) (rest more : List Terminal) → i < n → read ts ≡ Some (x, rest) → after d rest ≡ Some more →
      and_then (separated d (n - i) read ts) go ≡ and_then (separated d (n - (i + 1)) read more) (λ f. go (x ∷ f.0, f.1))
  things_more x rest more within found others =
      ap (λ k. and_then (separated d k read ts) go) (left n i within) ∙
      ap (λ o. and_then (and_then o (λ f. other_things f (after d f.1) (separated d (n - (i + 1)) read))) go) found ∙
      ap (λ o. and_then (other_things (x, rest) o (separated d (n - (i + 1)) read)) go) others ∙
      twice (separated d (n - (i + 1)) read more) x

  pub things_last : (x : A) (rest : List Terminal) → i < n → read ts ≡ Some (x, rest) → after d rest ≡ None →
      and_then (separated d (n - i) read ts) go ≡ go (x ∷ [], rest)
  things_last x rest within found others =
      ap (λ k. and_then (separated d k read ts) go) (left n i within) ∙
      ap (λ o. and_then (and_then o (λ f. other_things f (after d f.1) (separated d (n - (i + 1)) read))) go) found ∙
      ap (λ o. and_then (other_things (x, rest) o (separated d (n - (i + 1)) read)) go) others

  pub things_not : i < n → read ts ≡ None → and_then (separated d (n - i) read ts) go ≡ None
  things_not within found =
      ap (λ k. and_then (separated d k read ts) go) (left n i within) ∙
      ap (λ o. and_then (and_then o (λ f. other_things f (after d f.1) (separated d (n - (i + 1)) read))) go) found

  pub things_out : n ≤ i → and_then (separated d (n - i) read ts) go ≡ None
  things_out is = ap (λ k. and_then (separated d k read ts) go) (past n i is)

-- trees with commas between them

module _ (n i : ℕ) (read : List Terminal → Found Tree) (ts : List Terminal) (us : Trees) where
  pub row_more : (t : Tree) (rest more : List Terminal) → i < n → read ts ≡ Some (t, rest) → after Comma rest ≡ Some more →
      and_then (separated Comma (n - i) read ts) (rest_of_row us) ≡
      and_then (separated Comma (n - (i + 1)) read more) (rest_of_row (with_last us t))
  row_more = things_more Comma n i read ts (rest_of_row us)

  pub row_last : (t : Tree) (rest : List Terminal) → i < n → read ts ≡ Some (t, rest) → after Comma rest ≡ None →
      and_then (separated Comma (n - i) read ts) (rest_of_row us) ≡ Some (with_last us t, rest)
  row_last = things_last Comma n i read ts (rest_of_row us)

  pub row_not : i < n → read ts ≡ None → and_then (separated Comma (n - i) read ts) (rest_of_row us) ≡ None
  row_not = things_not Comma n i read ts (rest_of_row us)

  pub row_out : n ≤ i → and_then (separated Comma (n - i) read ts) (rest_of_row us) ≡ None
  row_out = things_out Comma n i read ts (rest_of_row us)

-- guards with semicolons between them

module _ (n i : ℕ) (read : List Terminal → Found Trees) (ts : List Terminal) (gs : Guards) where
  pub guards_more : (t : Trees) (rest more : List Terminal) → i < n → read ts ≡ Some (t, rest) → after Semicolon rest ≡ Some more →
      and_then (separated Semicolon (n - i) read ts) (rest_of_guards gs) ≡
      and_then (separated Semicolon (n - (i + 1)) read more) (rest_of_guards (with_last_guard gs t))
  guards_more = things_more Semicolon n i read ts (rest_of_guards gs)

  pub guards_last : (t : Trees) (rest : List Terminal) → i < n → read ts ≡ Some (t, rest) → after Semicolon rest ≡ None →
      and_then (separated Semicolon (n - i) read ts) (rest_of_guards gs) ≡ Some (with_last_guard gs t, rest)
  guards_last = things_last Semicolon n i read ts (rest_of_guards gs)

  pub guards_not : i < n → read ts ≡ None →
      and_then (separated Semicolon (n - i) read ts) (rest_of_guards gs) ≡ None
  guards_not = things_not Semicolon n i read ts (rest_of_guards gs)

  pub guards_out : n ≤ i → and_then (separated Semicolon (n - i) read ts) (rest_of_guards gs) ≡ None
  guards_out = things_out Semicolon n i read ts (rest_of_guards gs)

-- clauses with semicolons between them

module _ (n i : ℕ) (read : List Terminal → Found (Tree × Arm)) (ts : List Terminal) (cs : Clauses) where
  pub clauses_more : (c : Tree × Arm) (rest more : List Terminal) → i < n → read ts ≡ Some (c, rest) →
      after Semicolon rest ≡ Some more →
      and_then (separated Semicolon (n - i) read ts) (rest_of_clauses cs) ≡
      and_then (separated Semicolon (n - (i + 1)) read more) (rest_of_clauses (with_last_clause cs c))
  clauses_more = things_more Semicolon n i read ts (rest_of_clauses cs)

  pub clauses_last : (c : Tree × Arm) (rest : List Terminal) → i < n → read ts ≡ Some (c, rest) → after Semicolon rest ≡ None →
      and_then (separated Semicolon (n - i) read ts) (rest_of_clauses cs) ≡ closed (with_last_clause cs c) rest
  clauses_last = things_last Semicolon n i read ts (rest_of_clauses cs)

  pub clauses_not : i < n → read ts ≡ None →
      and_then (separated Semicolon (n - i) read ts) (rest_of_clauses cs) ≡ None
  clauses_not = things_not Semicolon n i read ts (rest_of_clauses cs)

  pub clauses_out : n ≤ i → and_then (separated Semicolon (n - i) read ts) (rest_of_clauses cs) ≡ None
  clauses_out = things_out Semicolon n i read ts (rest_of_clauses cs)

-- a row, and what is left of it

begins : {A : Type 0} (d : Delimiter) (read : List Terminal → Found A) (ss : List Spot) →
    separated d (length (terminals ss)) read (terminals ss) ≡ separated d (length ss - 0) read (terminals ss)
begins d read ss = ap (λ k. separated d k read (terminals ss)) {x = length (terminals ss)} {y = length ss - 0}
    (omega (arith, terminals_length ss))

pub row_begins : (read : List Terminal → Found Tree) (ss : List Spot) →
    row read (terminals ss) ≡ and_then (separated Comma (length ss - 0) read (terminals ss)) (rest_of_row none)
unfolding row
row_begins read ss = ap (λ o. and_then o (rest_of_row none)) (begins Comma read ss)

-- a row by its first tree

pub row_empty : (read : List Terminal → Found Tree) (ss : List Spot) → length ss ≤ 0 → row read (terminals ss) ≡ None
row_empty read ss is = row_begins read ss ∙ row_out (length ss) 0 read (terminals ss) none is

pub row_first_not : (read : List Terminal → Found Tree) (ss : List Spot) → 0 < length ss → read (terminals ss) ≡ None →
    row read (terminals ss) ≡ None
row_first_not read ss some found = row_begins read ss ∙ row_not (length ss) 0 read (terminals ss) none some found

pub row_of_one : (read : List Terminal → Found Tree) (ss : List Spot) (t : Tree) (rest : List Terminal) → 0 < length ss →
    read (terminals ss) ≡ Some (t, rest) → after Comma rest ≡ None → row read (terminals ss) ≡ Some (with_last none t, rest)
row_of_one read ss t rest some found last = row_begins read ss ∙ row_last (length ss) 0 read (terminals ss) none t rest some found last

pub row_first : (read : List Terminal → Found Tree) (ss : List Spot) (t : Tree) (rest behind : List Terminal) → 0 < length ss →
    read (terminals ss) ≡ Some (t, rest) → after Comma rest ≡ Some behind →
    row read (terminals ss) ≡ and_then (separated Comma (length ss - 1) read behind) (rest_of_row (with_last none t))
row_first read ss t rest behind some found next =
    row_begins read ss ∙ row_more (length ss) 0 read (terminals ss) none t rest behind some found next

-- what goes on with trees of a row

pub rest_begins : (n : ℕ) (read : List Terminal → Found Tree) (us : Trees) (ts : List Terminal) →
    rest_of_trees n read us ts ≡ and_then (separated Comma (n - 0) read ts) (rest_of_row us)
rest_begins n read us ts = ap (λ k. and_then (separated Comma k read ts) (rest_of_row us)) {x = n} {y = n - 0} (omega arith)

pub rest_none : (n : ℕ) (read : List Terminal → Found Tree) (us : Trees) (ts : List Terminal) → n ≡ 0 → rest_of_trees n read us ts ≡ None
rest_none n read us ts is = ap (λ k. and_then (separated Comma k read ts) (rest_of_row us)) is

pub rest_not : (n : ℕ) (read : List Terminal → Found Tree) (us : Trees) (ts : List Terminal) → n ≢ 0 → read ts ≡ None →
    rest_of_trees n read us ts ≡ None
rest_not n read us ts some found = rest_begins n read us ts ∙ row_not n 0 read ts us (omega (arith, some)) found

pub rest_last : (n : ℕ) (read : List Terminal → Found Tree) (us : Trees) (ts : List Terminal) (t : Tree) (rest : List Terminal) → n ≢ 0 →
    read ts ≡ Some (t, rest) → after Comma rest ≡ None → rest_of_trees n read us ts ≡ Some (with_last us t, rest)
rest_last n read us ts t rest some found last = rest_begins n read us ts ∙ row_last n 0 read ts us t rest (omega (arith, some)) found last

pub rest_more : (n : ℕ) (read : List Terminal → Found Tree) (us : Trees) (ts : List Terminal) (t : Tree) (rest more : List Terminal) →
    n ≢ 0 → read ts ≡ Some (t, rest) → after Comma rest ≡ Some more →
    rest_of_trees n read us ts ≡ rest_of_trees (n - 1) read (with_last us t) more
rest_more n read us ts t rest more some found next =
    rest_begins n read us ts ∙ row_more n 0 read ts us t rest more (omega (arith, some)) found next

pub guards_begin : (p : Reader) (ss : List Spot) →
    alternatives p (terminals ss) ≡
    and_then (separated Semicolon (length ss - 0) (row (p Test operations)) (terminals ss)) (rest_of_guards no_guards)
unfolding alternatives
guards_begin p ss = ap (λ o. and_then o (rest_of_guards no_guards)) (begins Semicolon (row (p Test operations)) ss)

pub clauses_begin : (p : Reader) (ss : List Spot) →
    clauses_to_end p (terminals ss) ≡
    and_then (separated Semicolon (length ss - 0) (one_clause p) (terminals ss)) (rest_of_clauses no_clauses)
unfolding clauses_to_end
clauses_begin p ss = ap (λ o. and_then o (rest_of_clauses no_clauses)) (begins Semicolon (one_clause p) ss)
