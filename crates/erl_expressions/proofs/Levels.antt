-- Operators: what is written of one is read as it, and what levels say of a tree left of one.
use Rattle.std.proofs.Common.{◌≡◌, ℕ, ◌-◌, ◌<◌, ◌≤◌, nat_lt, nat_le, ◌==◌, Bool, true, false, ◌&&◌, ◌||◌, if◌then◌else◌, IsTrue, List, ◌∷◌, Option, Some, None, ap, subst, sym, ◌∙◌, refl, arith, rules, true≢false}
use Rattle.erl_ast.specs.declared.role.Role.{Role}
use Rattle.erl_ast.specs.declared.shape.Infix.{Infix}
use Rattle.erl_ast.specs.declared.shape.Infix.TheVariants as infixes
use Rattle.erl_ast.specs.declared.shape.Shape.TheVariants as shapes
use Rattle.erl_ast.specs.Terminal.{Terminal}
use Rattle.erl_ast.specs.Tree.{Tree, leaf, node, case}
use Rattle.erl_ast.specs.Grammar.{level, level_of, left_level, right_level, has_operator}
use Rattle.erl_ast.specs.Written.{infix_terminal}
use Rattle.erl_expressions.specs.declared.delimiter.Delimiter.{Delimiter}
use Rattle.erl_expressions.specs.declared.delimiter.Delimiter.TheVariants as delimiters
use Rattle.erl_expressions.specs.Delimiters.{delimiter}
use Rattle.erl_expressions.specs.Leaves.{infix_ahead, fitting, operator_ahead}
use Rattle.erl_expressions.specs.Readings.{is_quiet, is_above, Stops}

lower : (m most : ℕ) (o : Option Infix) → m ≤ most → IsTrue (is_above most o) → IsTrue (is_above m o)
lower m most None le is = refl
lower m most (Some op) le is = search rules

pub stops_lower : (m most : ℕ) (ts : List Terminal) → m ≤ most → Stops most ts → Stops m ts
stops_lower m most ts le is = record { quiet = is.quiet; above = lower m most (infix_ahead ts) le is.above }

pub stops_before : (d : Delimiter) (most : ℕ) (ts : List Terminal) → Stops most (delimiter d ∷ ts)
stops_before delimiters.Comma most ts = record { quiet = refl; above = refl }
stops_before delimiters.Semicolon most ts = record { quiet = refl; above = refl }
stops_before delimiters.Bar most ts = record { quiet = refl; above = refl }
stops_before delimiters.Arrow most ts = record { quiet = refl; above = refl }
stops_before delimiters.CloseParen most ts = record { quiet = refl; above = refl }
stops_before delimiters.CloseBrace most ts = record { quiet = refl; above = refl }
stops_before delimiters.CloseBracket most ts = record { quiet = refl; above = refl }
stops_before delimiters.When most ts = record { quiet = refl; above = refl }
stops_before delimiters.Of most ts = record { quiet = refl; above = refl }
stops_before delimiters.End most ts = record { quiet = refl; above = refl }

passed_over : (a b c : Bool) (op : Infix) → b ≡ false → (if a && (b && c) then Some op else None) ≡ None
passed_over true true c op is = absurd (true≢false is)
passed_over true false c op is = refl
passed_over false b c op is = refl

not_below : (a b : ℕ) → IsTrue (nat_lt a b) → nat_le b a ≡ false
not_below a b is = search rules

no_fit : (role : Role) (most low : ℕ) (o : Option Infix) → IsTrue (is_above most o) → fitting role most low o ≡ None
no_fit role most low None is = refl
no_fit role most low (Some op) is = passed_over (has_operator role op) (nat_le (level_of op) most) (nat_le low (left_level op)) op (not_below most (level_of op) is)

pub no_operator : (role : Role) (most low : ℕ) (ts : List Terminal) → Stops most ts → operator_ahead role most low ts ≡ None
no_operator role most low ts stops = no_fit role most low (infix_ahead ts) stops.above

-- An operator that is written

pub infix_there : (op : Infix) (ts : List Terminal) → infix_ahead (infix_terminal op ∷ ts) ≡ Some op
infix_there infixes.Multiply ts = refl
infix_there infixes.Divide ts = refl
infix_there infixes.Remainder ts = refl
infix_there infixes.And ts = refl
infix_there infixes.Add ts = refl
infix_there infixes.Subtract ts = refl
infix_there infixes.Or ts = refl
infix_there infixes.Append ts = refl
infix_there infixes.Equal ts = refl
infix_there infixes.NotEqual ts = refl
infix_there infixes.ExactlyEqual ts = refl
infix_there infixes.ExactlyNotEqual ts = refl
infix_there infixes.Less ts = refl
infix_there infixes.Greater ts = refl
infix_there infixes.AtMost ts = refl
infix_there infixes.AtLeast ts = refl
infix_there infixes.AndAlso ts = refl
infix_there infixes.OrElse ts = refl
infix_there infixes.Send ts = refl
infix_there infixes.Match ts = refl

quiet_there : (op : Infix) (ts : List Terminal) → IsTrue (is_quiet (infix_terminal op ∷ ts))
quiet_there infixes.Multiply ts = refl
quiet_there infixes.Divide ts = refl
quiet_there infixes.Remainder ts = refl
quiet_there infixes.And ts = refl
quiet_there infixes.Add ts = refl
quiet_there infixes.Subtract ts = refl
quiet_there infixes.Or ts = refl
quiet_there infixes.Append ts = refl
quiet_there infixes.Equal ts = refl
quiet_there infixes.NotEqual ts = refl
quiet_there infixes.ExactlyEqual ts = refl
quiet_there infixes.ExactlyNotEqual ts = refl
quiet_there infixes.Less ts = refl
quiet_there infixes.Greater ts = refl
quiet_there infixes.AtMost ts = refl
quiet_there infixes.AtLeast ts = refl
quiet_there infixes.AndAlso ts = refl
quiet_there infixes.OrElse ts = refl
quiet_there infixes.Send ts = refl
quiet_there infixes.Match ts = refl

all_fit : (a b c : Bool) (op : Infix) → IsTrue a → IsTrue b → IsTrue c → (if a && (b && c) then Some op else None) ≡ Some op
all_fit true true true op one two three = refl
all_fit true true false op one two three = absurd (true≢false (sym three))
all_fit true false c op one two three = absurd (true≢false (sym two))
all_fit false b c op one two three = absurd (true≢false (sym one))

is_at_most : (a b : ℕ) → a ≤ b → IsTrue (nat_le a b)
is_at_most a b le = search rules

pub operator_there : (role : Role) (most low : ℕ) (op : Infix) (ts : List Terminal) → IsTrue (has_operator role op) →
    level_of op ≤ most → low ≤ left_level op → operator_ahead role most low (infix_terminal op ∷ ts) ≡ Some op
operator_there role most low op ts allowed le left =
    ap (λ o. fitting role most low o) (infix_there op ts) ∙
    all_fit (has_operator role op) (nat_le (level_of op) most) (nat_le low (left_level op)) op allowed
    (is_at_most (level_of op) most le) (is_at_most low (left_level op) left)

-- Levels

abbrev right_at : ℕ → ℕ
right_at l = if (l == 4) || ((l == 8) || (l == 9)) then l else l - 1

right_by_level : (op : Infix) → right_level op ≡ right_at (level_of op)
right_by_level infixes.Multiply = refl
right_by_level infixes.Divide = refl
right_by_level infixes.Remainder = refl
right_by_level infixes.And = refl
right_by_level infixes.Add = refl
right_by_level infixes.Subtract = refl
right_by_level infixes.Or = refl
right_by_level infixes.Append = refl
right_by_level infixes.Equal = refl
right_by_level infixes.NotEqual = refl
right_by_level infixes.ExactlyEqual = refl
right_by_level infixes.ExactlyNotEqual = refl
right_by_level infixes.Less = refl
right_by_level infixes.Greater = refl
right_by_level infixes.AtMost = refl
right_by_level infixes.AtLeast = refl
right_by_level infixes.AndAlso = refl
right_by_level infixes.OrElse = refl
right_by_level infixes.Send = refl
right_by_level infixes.Match = refl

pub right_at_most : (op : Infix) → right_level op ≤ level_of op
right_at_most infixes.Multiply = omega arith
right_at_most infixes.Divide = omega arith
right_at_most infixes.Remainder = omega arith
right_at_most infixes.And = omega arith
right_at_most infixes.Add = omega arith
right_at_most infixes.Subtract = omega arith
right_at_most infixes.Or = omega arith
right_at_most infixes.Append = omega arith
right_at_most infixes.Equal = omega arith
right_at_most infixes.NotEqual = omega arith
right_at_most infixes.ExactlyEqual = omega arith
right_at_most infixes.ExactlyNotEqual = omega arith
right_at_most infixes.Less = omega arith
right_at_most infixes.Greater = omega arith
right_at_most infixes.AtMost = omega arith
right_at_most infixes.AtLeast = omega arith
right_at_most infixes.AndAlso = omega arith
right_at_most infixes.OrElse = omega arith
right_at_most infixes.Send = omega arith
right_at_most infixes.Match = omega arith

pub left_at_most : (op : Infix) → left_level op ≤ level_of op
left_at_most infixes.Multiply = omega arith
left_at_most infixes.Divide = omega arith
left_at_most infixes.Remainder = omega arith
left_at_most infixes.And = omega arith
left_at_most infixes.Add = omega arith
left_at_most infixes.Subtract = omega arith
left_at_most infixes.Or = omega arith
left_at_most infixes.Append = omega arith
left_at_most infixes.Equal = omega arith
left_at_most infixes.NotEqual = omega arith
left_at_most infixes.ExactlyEqual = omega arith
left_at_most infixes.ExactlyNotEqual = omega arith
left_at_most infixes.Less = omega arith
left_at_most infixes.Greater = omega arith
left_at_most infixes.AtMost = omega arith
left_at_most infixes.AtLeast = omega arith
left_at_most infixes.AndAlso = omega arith
left_at_most infixes.OrElse = omega arith
left_at_most infixes.Send = omega arith
left_at_most infixes.Match = omega arith

one_way : (op : Infix) → level_of op ≤ left_level op → right_level op < level_of op
one_way infixes.Multiply le = omega (arith, le)
one_way infixes.Divide le = omega (arith, le)
one_way infixes.Remainder le = omega (arith, le)
one_way infixes.And le = omega (arith, le)
one_way infixes.Add le = omega (arith, le)
one_way infixes.Subtract le = omega (arith, le)
one_way infixes.Or le = omega (arith, le)
one_way infixes.Append le = omega (arith, le)
one_way infixes.Equal le = omega (arith, le)
one_way infixes.NotEqual le = omega (arith, le)
one_way infixes.ExactlyEqual le = omega (arith, le)
one_way infixes.ExactlyNotEqual le = omega (arith, le)
one_way infixes.Less le = omega (arith, le)
one_way infixes.Greater le = omega (arith, le)
one_way infixes.AtMost le = omega (arith, le)
one_way infixes.AtLeast le = omega (arith, le)
one_way infixes.AndAlso le = omega (arith, le)
one_way infixes.OrElse le = omega (arith, le)
one_way infixes.Send le = omega (arith, le)
one_way infixes.Match le = omega (arith, le)

pub above_prefix : (op : Infix) → 1 < level_of op
above_prefix infixes.Multiply = omega arith
above_prefix infixes.Divide = omega arith
above_prefix infixes.Remainder = omega arith
above_prefix infixes.And = omega arith
above_prefix infixes.Add = omega arith
above_prefix infixes.Subtract = omega arith
above_prefix infixes.Or = omega arith
above_prefix infixes.Append = omega arith
above_prefix infixes.Equal = omega arith
above_prefix infixes.NotEqual = omega arith
above_prefix infixes.ExactlyEqual = omega arith
above_prefix infixes.ExactlyNotEqual = omega arith
above_prefix infixes.Less = omega arith
above_prefix infixes.Greater = omega arith
above_prefix infixes.AtMost = omega arith
above_prefix infixes.AtLeast = omega arith
above_prefix infixes.AndAlso = omega arith
above_prefix infixes.OrElse = omega arith
above_prefix infixes.Send = omega arith
above_prefix infixes.Match = omega arith

by_order : (m n : ℕ) → m ≤ n → ¬ (m ≡ n) → m < n
by_order m n le other = omega (arith, le, other)

levels_by : (b : Bool) (a op : Infix) → (level_of a == level_of op) ≡ b → level_of a ≤ left_level op → right_level a < level_of op
levels_by true a op same le =
    let equal : level_of a ≡ level_of op = search rules in
    let alike : right_level a ≡ right_level op = right_by_level a ∙ ap right_at equal ∙ sym (right_by_level op) in
    omega (arith, one_way op (omega (arith, le, equal)), alike, equal)
levels_by false a op other le =
    let apart : ¬ (level_of a ≡ level_of op) = search rules in
    omega (arith, right_at_most a, left_at_most op, le, apart)

levels_apart : (a op : Infix) → level_of a ≤ left_level op → right_level a < level_of op
levels_apart a op le = levels_by (level_of a == level_of op) a op refl le

-- the greatest level of what an operator behind a tree may be
abbrev pub end_level : Tree → ℕ
end_level (node (shapes.Prefix op) ts) = 1
end_level (node (shapes.Infix op) ts) = right_level op
end_level t = 0

pub end_below : (t : Tree) (op : Infix) → level t ≤ left_level op → end_level t < level_of op
end_below (leaf l) op le = omega (arith, above_prefix op)
end_below (case subject cs) op le = omega (arith, above_prefix op)
end_below (node (shapes.Prefix a) ts) op le = above_prefix op
end_below (node (shapes.Infix a) ts) op le = levels_apart a op le
end_below (node shapes.Tuple ts) op le = omega (arith, above_prefix op)
end_below (node shapes.List ts) op le = omega (arith, above_prefix op)
end_below (node shapes.Cons ts) op le = omega (arith, above_prefix op)
end_below (node shapes.Parenthesized ts) op le = omega (arith, above_prefix op)
end_below (node shapes.Block ts) op le = omega (arith, above_prefix op)
end_below (node (shapes.Local f) ts) op le = omega (arith, above_prefix op)
end_below (node (shapes.Remote m f) ts) op le = omega (arith, above_prefix op)

pub end_at_most : (t : Tree) → end_level t ≤ level t
end_at_most (leaf l) = omega arith
end_at_most (case subject cs) = omega arith
end_at_most (node (shapes.Prefix a) ts) = omega arith
end_at_most (node (shapes.Infix a) ts) = right_at_most a
end_at_most (node shapes.Tuple ts) = omega arith
end_at_most (node shapes.List ts) = omega arith
end_at_most (node shapes.Cons ts) = omega arith
end_at_most (node shapes.Parenthesized ts) = omega arith
end_at_most (node shapes.Block ts) = omega arith
end_at_most (node (shapes.Local f) ts) = omega arith
end_at_most (node (shapes.Remote m f) ts) = omega arith

is_below : (a b : ℕ) → a < b → IsTrue (nat_lt a b)
is_below a b lt = search rules

pub stops_at_operator : (t : Tree) (op : Infix) (ts : List Terminal) → level t ≤ left_level op → Stops (end_level t) (infix_terminal op ∷ ts)
stops_at_operator t op ts le = record {
  quiet = quiet_there op ts;
  above = subst (λ o. IsTrue (is_above (end_level t) o)) (sym (infix_there op ts)) (is_below (end_level t) (level_of op) (end_below t op le));
}
