-- What is read as a tree is written as that tree.
use Rattle.std.proofs.Common.{◌≡◌, ℕ, zero, suc, ◌≤◌, nat_lt, nat_le, Bool, true, false, ◌&&◌, not, if◌then◌else◌, IsTrue, List, [], ◌∷◌, codes, Option, Some, None, ap, subst, sym, ◌∙◌, refl, arith, rules, true≢false}
use Rattle.std.proofs.lemmas.Option.{none-some, same_Some}
use Rattle.std.proofs.lemmas.Slice.Eq.{bytes_eq-Decides}
use Rattle.std.specs.Str.{bytes_eq}
use Rattle.erl_scan.specs.declared.mark.Mark.{Mark}
use Rattle.erl_scan.specs.declared.mark.Mark.TheVariants as marks
use Rattle.erl_scan.specs.declared.word.Word.{Word}
use Rattle.erl_scan.specs.declared.word.Word.TheVariants as words
use Rattle.erl_ast.specs.declared.leaf.Sign.{Sign}
use Rattle.erl_ast.specs.declared.leaf.Sign.TheVariants as signs
use Rattle.erl_ast.specs.declared.leaf.Leaf.{Leaf}
use Rattle.erl_ast.specs.declared.leaf.Leaf.TheVariants as leaves
use Rattle.erl_ast.specs.declared.leaf.Named.{Named}
use Rattle.erl_ast.specs.declared.role.Role.{Role}
use Rattle.erl_ast.specs.declared.role.Role.TheVariants.{Expression, Pattern, Test}
use Rattle.erl_ast.specs.declared.shape.Infix.{Infix}
use Rattle.erl_ast.specs.declared.shape.Infix.TheVariants as infixes
use Rattle.erl_ast.specs.declared.shape.Prefix.TheVariants.{Negate, Not}
use Rattle.erl_ast.specs.declared.shape.Qualifier.{Qualifier}
use Rattle.erl_ast.specs.declared.shape.Qualifier.TheVariants as qualifier
use Rattle.erl_ast.specs.declared.shape.Shape.TheVariants as shapes
use Rattle.erl_ast.specs.Terminal.{Terminal, integer, atom, word, variable, string, mark}
use Rattle.erl_ast.specs.Tree.{Tree, leaf, node, none, more, tree_depth}
use Rattle.erl_ast.specs.Grammar.{matches, operations, level, level_of, left_level, right_level, first_role, has_operator, is_leaf, IsWell}
use Rattle.erl_ast.specs.Written.{written, leaf_written, strings_written, infix_terminal, qualified, signed}
use Rattle.erl_expressions.specs.Leaves.{leaf_ahead, leaf_behind, number_ahead, module_ahead, strings_ahead, after_strings, call_ahead, colon_ahead, paren_ahead, infix_ahead, fitting, operator_ahead}
use Rattle.erl_expressions.specs.Reading.{Found, Reader, and_then, behind_first, bracketed, remote, called, own_called, begun_by_mark, begun_by_word, construct, leaf_read, begun_by, begun, fits, joined, climbed_by, climbed, ended_by, only_leaf, match_ahead, matched_by, matched, read_by, read}
use Rattle.erl_expressions.specs.Readings.{BeginsWith}
use Rattle.erl_expressions.proofs.ByLevels.{read_next}
use Rattle.erl_expressions.proofs.Inversion.{inverts, if_some, both, infix_is}
use Rattle.erl_expressions.proofs.Roles.{left_well}
use Rattle.erl_expressions.proofs.SoundRows.{Sound}
use Rattle.erl_expressions.proofs.SoundNodes.{tuples, blocks, locals, remotes, bracketed_sound, parenthesized_sound, prefixed_sound, listed_sound, cased_sound}

-- Leaves

same_text : (a b : List ℕ) → IsTrue (bytes_eq a b) → a ≡ b
same_text a b is = (bytes_eq-Decides a b).0 is

strings_sound : (ts : List Terminal) → ts ≡ strings_written (strings_ahead ts) (after_strings ts)
strings_sound (string s ∷ ts) = ap (λ us. string s ∷ us) (strings_sound ts)
strings_sound [] = refl
strings_sound (_ ∷ ts) = refl

number_sound : (sign : Sign) (ts : List Terminal) (l : Leaf) (rest : List Terminal) → number_ahead sign ts ≡ Some (l, rest) →
    signed sign ts ≡ leaf_written l rest
number_sound sign (integer n ∷ ts) l rest is =
    ap (λ f. leaf_written f.0 f.1) (same_Some {A = Leaf × List Terminal} (leaves.Integer sign n, ts) (l, rest) is)
number_sound sign [] l rest is = absurd (none-some (l, rest) is)
number_sound sign (_ ∷ ts) l rest is = absurd (none-some (l, rest) is)

module_sound : (ts : List Terminal) (l : Leaf) (rest : List Terminal) → module_ahead ts ≡ Some (l, rest) →
    mark marks.Question ∷ ts ≡ leaf_written l rest
module_sound (variable name at ∷ ts) l rest is =
    let found = if_some (bytes_eq name (codes "MODULE") && not (colon_ahead ts)) (Some (leaves.ModuleName at, ts)) (l, rest) is in
    let name_is = both (bytes_eq name (codes "MODULE")) (not (colon_ahead ts)) found.0 in
    ap (λ n. mark marks.Question ∷ variable n at ∷ ts) (same_text name (codes "MODULE") name_is.0) ∙
    ap (λ f. leaf_written f.0 f.1) (same_Some {A = Leaf × List Terminal} (leaves.ModuleName at, ts) (l, rest) found.1)
module_sound [] l rest is = absurd (none-some (l, rest) is)
module_sound (_ ∷ ts) l rest is = absurd (none-some (l, rest) is)

leaf_behind_sound : (m : Mark) (ts : List Terminal) (l : Leaf) (rest : List Terminal) → leaf_behind m ts ≡ Some (l, rest) →
    mark m ∷ ts ≡ leaf_written l rest
leaf_behind_sound marks.Plus ts l rest is = number_sound signs.Plus ts l rest is
leaf_behind_sound marks.Minus ts l rest is = number_sound signs.Minus ts l rest is
leaf_behind_sound marks.Question ts l rest is = module_sound ts l rest is
leaf_behind_sound _ ts l rest is = absurd (none-some (l, rest) is)

if_not : {A : Type 0} (b : Bool) (o : Option A) (y : A) → (if b then None else o) ≡ Some y → o ≡ Some y
if_not true o y is = absurd (none-some y is)
if_not false o y is = is

leaf_sound : (ts : List Terminal) (l : Leaf) (rest : List Terminal) → leaf_ahead ts ≡ Some (l, rest) → ts ≡ leaf_written l rest
unfolding leaf_ahead
leaf_sound (integer n ∷ ts) l rest is =
    ap (λ f. leaf_written f.0 f.1) (same_Some {A = Leaf × List Terminal} (leaves.Integer signs.Unsigned n, ts) (l, rest) is)
leaf_sound (atom name at ∷ ts) l rest is =
    let named : Named = record { name = name; at = at } in
    ap (λ f. leaf_written f.0 f.1) (same_Some {A = Leaf × List Terminal} (leaves.Atom named, ts) (l, rest)
    (if_not (call_ahead ts) (Some (leaves.Atom named, ts)) (l, rest) is))
leaf_sound (variable name at ∷ ts) l rest is =
    ap (λ f. leaf_written f.0 f.1) (same_Some {A = Leaf × List Terminal} (leaves.Variable name at, ts) (l, rest) is)
leaf_sound (string s ∷ ts) l rest is =
    ap (λ us. string s ∷ us) (strings_sound ts) ∙
    ap (λ f. leaf_written f.0 f.1) (same_Some {A = Leaf × List Terminal} (leaves.Strings (s ∷ strings_ahead ts), after_strings ts) (l, rest) is)
leaf_sound (mark m ∷ ts) l rest is = leaf_behind_sound m ts l rest is
leaf_sound [] l rest is = absurd (none-some (l, rest) is)
leaf_sound (_ ∷ ts) l rest is = absurd (none-some (l, rest) is)

leaf_read_sound : (role : Role) (most levels : ℕ) (ts : List Terminal) (f : Leaf × List Terminal) → leaf_ahead ts ≡ Some f →
    (t : Tree) (rest : List Terminal) → leaf_read f ≡ Some (t, rest) → BeginsWith role most levels ts t rest
leaf_read_sound role most levels ts f ahead t rest is =
    let found = if_some (is_leaf f.0) (Some (leaf f.0, f.1)) (t, rest) is in
    subst (λ h. BeginsWith role most levels ts h.0 h.1) (same_Some {A = Tree × List Terminal} (leaf f.0, f.1) (t, rest) found.1)
    (record {
      is_written = leaf_sound ts f.0 f.1 ahead;
      is_well = found.0;
      is_level = omega arith;
      is_deep = omega arith;
    })

-- Operators

pub record Fits (role : Role) (most low : ℕ) (ts : List Terminal) (op : Infix) : Type 0 where
  pub is_there : ts ≡ infix_terminal op ∷ behind_first ts
  pub is_allowed : IsTrue (has_operator role op)
  pub is_low : level_of op ≤ most
  pub is_left : low ≤ left_level op

at_most : (a b : ℕ) → IsTrue (nat_le a b) → a ≤ b
at_most a b is = search rules

fitting_sound : (role : Role) (most low : ℕ) (ts : List Terminal) (o : Option Infix) → infix_ahead ts ≡ o → (op : Infix) →
    fitting role most low o ≡ Some op → Fits role most low ts op
fitting_sound role most low ts None there op is = absurd (none-some op is)
fitting_sound role most low ts (Some it) there op is =
    let found = if_some (has_operator role it && (nat_le (level_of it) most && nat_le low (left_level it))) (Some it) op is in
    let one = both (has_operator role it) (nat_le (level_of it) most && nat_le low (left_level it)) found.0 in
    let two = both (nat_le (level_of it) most) (nat_le low (left_level it)) one.1 in
    subst (λ k. Fits role most low ts k) (same_Some it op found.1)
    (record {
      is_there = infix_is ts it there;
      is_allowed = one.0;
      is_low = at_most (level_of it) most two.0;
      is_left = at_most low (left_level it) two.1;
    })

pub operator_sound : (role : Role) (most low : ℕ) (ts : List Terminal) (op : Infix) → operator_ahead role most low ts ≡ Some op →
    Fits role most low ts op
operator_sound role most low ts op is = fitting_sound role most low ts (infix_ahead ts) refl op is

pub room_right : (op : Infix) → 1 ≤ right_level op
room_right infixes.Multiply = omega arith
room_right infixes.Divide = omega arith
room_right infixes.Remainder = omega arith
room_right infixes.And = omega arith
room_right infixes.Add = omega arith
room_right infixes.Subtract = omega arith
room_right infixes.Or = omega arith
room_right infixes.Append = omega arith
room_right infixes.Equal = omega arith
room_right infixes.NotEqual = omega arith
room_right infixes.ExactlyEqual = omega arith
room_right infixes.ExactlyNotEqual = omega arith
room_right infixes.Less = omega arith
room_right infixes.Greater = omega arith
room_right infixes.AtMost = omega arith
room_right infixes.AtLeast = omega arith
room_right infixes.AndAlso = omega arith
room_right infixes.OrElse = omega arith
room_right infixes.Send = omega arith
room_right infixes.Match = omega arith

pub and_true : (a b : Bool) → IsTrue a → IsTrue b → IsTrue (a && b)
and_true true b one two = two
and_true false b one two = one

below : (a b : ℕ) → IsTrue (nat_lt a b) → suc a ≤ b
below a b is = search rules

paren_is : (ts : List Terminal) → IsTrue (paren_ahead ts) → ts ≡ mark marks.OpenParen ∷ behind_first ts
paren_is (mark marks.OpenParen ∷ ts) is = refl
paren_is [] is = absurd (true≢false (sym is))
paren_is (_ ∷ ts) is = absurd (true≢false (sym is))

pub match_is : (ts : List Terminal) → IsTrue (match_ahead ts) → ts ≡ mark marks.Match ∷ behind_first ts
match_is (mark marks.Match ∷ ts) is = refl
match_is [] is = absurd (true≢false (sym is))
match_is (_ ∷ ts) is = absurd (true≢false (sym is))

colon_is : (ts : List Terminal) → IsTrue (colon_ahead ts) → ts ≡ mark marks.Colon ∷ behind_first ts
colon_is (mark marks.Colon ∷ ts) is = refl
colon_is [] is = absurd (true≢false (sym is))
colon_is (_ ∷ ts) is = absurd (true≢false (sym is))

module _ (p : Reader) (n : ℕ) (sound : Sound p n) where
  remote_sound : (role : Role) (m : Qualifier) (most : ℕ) (ts : List Terminal) (t : Tree) (rest : List Terminal) →
      remote p role m ts ≡ Some (t, rest) → BeginsWith role most (suc n) (qualified m ts) t rest
  unfolding remote
  remote_sound role m most (atom name at ∷ ts) t rest is =
      let named : Named = record { name = name; at = at } in
      let found = if_some (paren_ahead ts) (bracketed p role (shapes.Remote m named) (behind_first ts)) (t, rest) is in
      subst (λ us. BeginsWith role most (suc n) (qualified m (atom name at ∷ us)) t rest) (sym (paren_is ts found.0))
      (bracketed_sound p n sound role (shapes.Remote m named) (remotes role m named) most (behind_first ts) t rest found.1)
  remote_sound role m most [] t rest is = absurd (none-some (t, rest) is)
  remote_sound role m most (_ ∷ ts) t rest is = absurd (none-some (t, rest) is)

  called_sound : (role : Role) (f : Named) (most : ℕ) (ts : List Terminal) (t : Tree) (rest : List Terminal) →
      called p role f ts ≡ Some (t, rest) → BeginsWith role most (suc n) (atom f.name f.at ∷ ts) t rest
  unfolding called
  called_sound role f most (mark marks.OpenParen ∷ ts) t rest is =
      bracketed_sound p n sound role (shapes.Local f) (locals role f) most ts t rest is
  called_sound role f most (mark marks.Colon ∷ ts) t rest is = remote_sound role (qualifier.Module f) most ts t rest is
  called_sound role f most [] t rest is = absurd (none-some (t, rest) is)
  called_sound role f most (_ ∷ ts) t rest is = absurd (none-some (t, rest) is)

  own_called_sound : (role : Role) (most : ℕ) (ts : List Terminal) (t : Tree) (rest : List Terminal) →
      own_called p role ts ≡ Some (t, rest) → BeginsWith role most (suc n) (mark marks.Question ∷ ts) t rest
  unfolding own_called
  own_called_sound role most (variable name at ∷ ts) t rest is =
      let found = if_some (bytes_eq name (codes "MODULE") && colon_ahead ts) (remote p role (qualifier.ModuleName at) (behind_first ts)) (t, rest) is in
      let name_is = both (bytes_eq name (codes "MODULE")) (colon_ahead ts) found.0 in
      subst (λ us. BeginsWith role most (suc n) (mark marks.Question ∷ us) t rest)
      (sym (λ i. variable (same_text name (codes "MODULE") name_is.0 i) at ∷ colon_is ts name_is.1 i))
      (remote_sound role (qualifier.ModuleName at) most (behind_first ts) t rest found.1)
  own_called_sound role most [] t rest is = absurd (none-some (t, rest) is)
  own_called_sound role most (_ ∷ ts) t rest is = absurd (none-some (t, rest) is)

  by_mark_sound : (role : Role) (m : Mark) (most : ℕ) → 1 ≤ most → (ts : List Terminal) (t : Tree) (rest : List Terminal) →
      begun_by_mark p role m ts ≡ Some (t, rest) → BeginsWith role most (suc n) (mark m ∷ ts) t rest
  by_mark_sound role marks.OpenBrace most room ts t rest is = bracketed_sound p n sound role shapes.Tuple (tuples role) most ts t rest is
  by_mark_sound role marks.OpenBracket most room ts t rest is = listed_sound p n sound role most ts t rest is
  by_mark_sound role marks.OpenParen most room ts t rest is = parenthesized_sound p n sound role most ts t rest is
  by_mark_sound role marks.Minus most room ts t rest is = prefixed_sound p n sound role Negate most room ts t rest is
  by_mark_sound role marks.Question most room ts t rest is = own_called_sound role most ts t rest is
  by_mark_sound role _ most room ts t rest is = absurd (none-some (t, rest) is)

  by_word_sound : (role : Role) (w : Word) (most : ℕ) → 1 ≤ most → (ts : List Terminal) (t : Tree) (rest : List Terminal) →
      begun_by_word p role w ts ≡ Some (t, rest) → BeginsWith role most (suc n) (word w ∷ ts) t rest
  by_word_sound role words.Not most room ts t rest is = prefixed_sound p n sound role Not most room ts t rest is
  by_word_sound role words.Begin most room ts t rest is = bracketed_sound p n sound role shapes.Block (blocks role) most ts t rest is
  by_word_sound role words.Case most room ts t rest is = cased_sound p n sound role most ts t rest is
  by_word_sound role _ most room ts t rest is = absurd (none-some (t, rest) is)

  construct_sound : (role : Role) (most : ℕ) → 1 ≤ most → (ts : List Terminal) (t : Tree) (rest : List Terminal) →
      construct p role ts ≡ Some (t, rest) → BeginsWith role most (suc n) ts t rest
  unfolding construct
  construct_sound role most room (atom name at ∷ ts) t rest is =
      let named : Named = record { name = name; at = at } in
      called_sound role named most ts t rest is
  construct_sound role most room (mark m ∷ ts) t rest is = by_mark_sound role m most room ts t rest is
  construct_sound role most room (word w ∷ ts) t rest is = by_word_sound role w most room ts t rest is
  construct_sound role most room [] t rest is = absurd (none-some (t, rest) is)
  construct_sound role most room (_ ∷ ts) t rest is = absurd (none-some (t, rest) is)

  begun_by_sound : (role : Role) (most : ℕ) → 1 ≤ most → (ts : List Terminal) (o : Option (Leaf × List Terminal)) → leaf_ahead ts ≡ o →
      (t : Tree) (rest : List Terminal) → begun_by o p role ts ≡ Some (t, rest) → BeginsWith role most (suc n) ts t rest
  begun_by_sound role most room ts (Some f) ahead t rest is = leaf_read_sound role most (suc n) ts f ahead t rest is
  begun_by_sound role most room ts None ahead t rest is = construct_sound role most room ts t rest is

  begun_sound : (role : Role) (most : ℕ) → 1 ≤ most → (ts : List Terminal) (t : Tree) (rest : List Terminal) →
      begun p role ts ≡ Some (t, rest) → BeginsWith role most (suc n) ts t rest
  unfolding begun
  begun_sound role most room ts t rest is = begun_by_sound role most room ts (leaf_ahead ts) refl t rest is

  -- An operator behind a tree

  joined_sound : (was role : Role) (most : ℕ) (us : List Terminal) (t : Tree) (ts : List Terminal) (op : Infix) → us ≡ written t ts →
      (IsTrue (fits was op t) → IsWell (first_role role (shapes.Infix op)) t) → Fits role most (level t) ts op →
      (u : Tree) (rest : List Terminal) → joined p was role (suc n) t op ts ≡ Some (u, rest) → BeginsWith role most (suc n) us u rest
  joined_sound was role most us t ts op text left there u rest is =
      let deep = if_some (nat_lt (tree_depth t) (suc n)) (if fits was op t then
      and_then (p role (right_level op) (behind_first ts)) (λ f. Some (node (shapes.Infix op) (more t (more f.0 none)), f.1)) else None) (u, rest) is in
      let begun = if_some (fits was op t)
      (and_then (p role (right_level op) (behind_first ts)) (λ f. Some (node (shapes.Infix op) (more t (more f.0 none)), f.1))) (u, rest) deep.1 in
      let f = inverts (p role (right_level op) (behind_first ts)) (λ f. Some (node (shapes.Infix op) (more t (more f.0 none)), f.1)) (u, rest) begun.1 in
      let right = sound role (right_level op) (behind_first ts) f.0.0 f.0.1 (room_right op) f.1 in
      subst (λ h. BeginsWith role most (suc n) us h.0 h.1)
      (same_Some {A = Tree × List Terminal} (node (shapes.Infix op) (more t (more f.0.0 none)), f.0.1) (u, rest) f.2)
      (record {
        is_written = text ∙ ap (λ vs. written t vs) (there.is_there ∙ ap (λ vs. infix_terminal op ∷ vs) right.is_written);
        is_well = (
          and_true (has_operator role op) true there.is_allowed refl,
          refl,
          (there.is_left, left begun.0, (right.is_level, right.is_well, tt)),
        );
        is_level = there.is_low;
        is_deep = omega (arith, below (tree_depth t) (suc n) deep.0, right.is_deep);
      })

  climbed_by_sound : (go : Tree → List Terminal → Found Tree) (role : Role) (most : ℕ) (us : List Terminal)
      (goes : (t : Tree) (ts : List Terminal) → BeginsWith role most (suc n) us t ts → (u : Tree) (rest : List Terminal) →
      go t ts ≡ Some (u, rest) → BeginsWith role most (suc n) us u rest)
      (t : Tree) (ts : List Terminal) → BeginsWith role most (suc n) us t ts → (o : Option Infix) →
      operator_ahead role most (level t) ts ≡ o → (u : Tree) (rest : List Terminal) →
      climbed_by o p role (suc n) t ts go ≡ Some (u, rest) → BeginsWith role most (suc n) us u rest
  climbed_by_sound go role most us goes t ts left None ahead u rest is =
      subst (λ h. BeginsWith role most (suc n) us h.0 h.1) (same_Some {A = Tree × List Terminal} (t, ts) (u, rest) is) left
  climbed_by_sound go role most us goes t ts left (Some op) ahead u rest is =
      let f = inverts (joined p role role (suc n) t op ts) (λ f. go f.0 f.1) (u, rest) is in
      let there = operator_sound role most (level t) ts op ahead in
      goes f.0.0 f.0.1 (joined_sound role role most us t ts op left.is_written (left_well role op t there.is_allowed left.is_well) there
      f.0.0 f.0.1 f.1) u rest f.2

  ended_sound : (o : Option Infix) (role : Role) (most : ℕ) (us : List Terminal) (t : Tree) (ts : List Terminal) →
      BeginsWith role most (suc n) us t ts → (u : Tree) (rest : List Terminal) →
      ended_by o (t, ts) ≡ Some (u, rest) → BeginsWith role most (suc n) us u rest
  ended_sound None role most us t ts left u rest is =
      subst (λ h. BeginsWith role most (suc n) us h.0 h.1) (same_Some {A = Tree × List Terminal} (t, ts) (u, rest) is) left
  ended_sound (Some op) role most us t ts left u rest is = absurd (none-some (u, rest) is)

  climbed_sound : (k : ℕ) (role : Role) (most : ℕ) (us : List Terminal) (t : Tree) (ts : List Terminal) →
      BeginsWith role most (suc n) us t ts → (u : Tree) (rest : List Terminal) →
      climbed k p role most (suc n) t ts ≡ Some (u, rest) → BeginsWith role most (suc n) us u rest
  climbed_sound zero role most us t ts left u rest is = ended_sound (operator_ahead role most (level t) ts) role most us t ts left u rest is
  climbed_sound (suc k) role most us t ts left u rest is =
      climbed_by_sound (climbed k p role most (suc n)) role most us (climbed_sound k role most us) t ts left
      (operator_ahead role most (level t) ts) refl u rest is

  -- A match whose pattern is no expression

  matched_by_sound : (most : ℕ) → matches ≤ most → (us : List Terminal) (f : Tree × List Terminal) →
      BeginsWith Pattern operations (suc n) us f.0 f.1 → (u : Tree) (rest : List Terminal) →
      matched_by f p Expression (suc n) ≡ Some (u, rest) → BeginsWith Expression most (suc n) us u rest
  matched_by_sound most high us f left u rest is =
      let found = if_some (match_ahead f.1) (joined p Pattern Expression (suc n) f.0 infixes.Match f.1) (u, rest) is in
      joined_sound Pattern Expression most us f.0 f.1 infixes.Match left.is_written (λ fit. left.is_well)
      (record { is_there = match_is f.1 found.0; is_allowed = refl; is_low = high; is_left = left.is_level }) u rest found.1

  matched_sound : (role : Role) (most : ℕ) (ts : List Terminal) (t : Tree) (rest : List Terminal) →
      matched p role most (suc n) ts ≡ Some (t, rest) → BeginsWith role most (suc n) ts t rest
  matched_sound Expression most ts t rest is =
      let found = if_some (nat_le matches most) (and_then (begun p Pattern ts) (λ f. matched_by f p Expression (suc n))) (t, rest) is in
      let f = inverts (begun p Pattern ts) (λ f. matched_by f p Expression (suc n)) (t, rest) found.1 in
      matched_by_sound most (at_most matches most found.0) ts f.0
      (begun_sound Pattern operations (omega arith) ts f.0.0 f.0.1 f.1) t rest f.2
  matched_sound Pattern most ts t rest is = absurd (none-some (t, rest) is)
  matched_sound Test most ts t rest is = absurd (none-some (t, rest) is)

  read_by_sound : (role : Role) (most : ℕ) → 1 ≤ most → (ts : List Terminal) (o : Found Tree) → begun p role ts ≡ o →
      (t : Tree) (rest : List Terminal) → read_by o p role most (suc n) ts ≡ Some (t, rest) → BeginsWith role most (suc n) ts t rest
  read_by_sound role most room ts None begins t rest is = matched_sound role most ts t rest is
  read_by_sound role most room ts (Some f) begins t rest is =
      climbed_sound (suc n) role most ts f.0 f.1 (begun_sound role most room ts f.0 f.1 begins) t rest is

-- All

alone_ended : (role : Role) (most : ℕ) (ts : List Terminal) (g : Tree × List Terminal) (o : Option Infix) (t : Tree) (rest : List Terminal) →
    ended_by o g ≡ Some (t, rest) → BeginsWith role most 0 ts g.0 g.1 → BeginsWith role most 0 ts t rest
alone_ended role most ts g None t rest is there =
    subst (λ h. BeginsWith role most 0 ts h.0 h.1) (same_Some {A = Tree × List Terminal} g (t, rest) is) there
alone_ended role most ts g (Some op) t rest is there = absurd (none-some (t, rest) is)

alone_sound : (role : Role) (most : ℕ) (ts : List Terminal) (o : Option (Leaf × List Terminal)) → leaf_ahead ts ≡ o →
    (t : Tree) (rest : List Terminal) → only_leaf o role most ≡ Some (t, rest) → BeginsWith role most 0 ts t rest
alone_sound role most ts None ahead t rest is = absurd (none-some (t, rest) is)
alone_sound role most ts (Some f) ahead t rest is =
    let g = inverts (leaf_read f) (λ g. ended_by (operator_ahead role most 0 g.1) g) (t, rest) is in
    alone_ended role most ts g.0 (operator_ahead role most 0 g.0.1) t rest g.2 (leaf_read_sound role most 0 ts f ahead g.0.0 g.0.1 g.1)

pub read_zero : (role : Role) (most : ℕ) (ts : List Terminal) → read zero role most ts ≡ only_leaf (leaf_ahead ts) role most
unfolding read
read_zero role most ts = refl

pub read_sound : (n : ℕ) → Sound (read n) n
read_sound zero role most ts t rest room is =
    alone_sound role most ts (leaf_ahead ts) refl t rest (sym (read_zero role most ts) ∙ is)
read_sound (suc n) role most ts t rest room is =
    read_by_sound (read n) n (read_sound n) role most room ts (begun (read n) role ts) refl t rest (sym (read_next n role most ts) ∙ is)
