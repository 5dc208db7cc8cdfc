-- Each operation has a rule of its own, by the words of its errors.
use Rattle.std.specs.Prelude.{◌≡◌, ◌≤◌, ◌+◌, ◌==◌, ◌&&◌, nat_le, ℕ, ℤ, neg_ℤ, int_div, int_rem, ◌+ℤ◌, ◌-ℤ◌, ◌*ℤ◌, pos, nat_abs, Bool, true, false}
use Rattle.std.specs.Prelude.{not, ◌||◌, if◌then◌else◌, List, Option, None, Some, is_some, IsTrue, codes, refl}
use Rattle.std.proofs.Common.{arith, rules, sym, true≢false}
use Rattle.erl_term.specs.Tree as term
use Rattle.erl_term.specs.Tree.{Tree, Trees, count}
use Rattle.erl_term.specs.Accessors.{int_of}
use Rattle.erl_term.specs.Rows.{append_trees}
use Rattle.erl_ir.specs.declared.operation.BuiltIn.{BuiltIn}
use Rattle.erl_ir.specs.declared.operation.BuiltIn.TheVariants as built_in
use Rattle.erl_ir.specs.declared.operation.Operator.{Operator}
use Rattle.erl_ir.specs.declared.operation.Operator.TheVariants as operator
use Rattle.erl_semantics.specs.State.{Result, value, rest, exit, exit_by, made, is_within, Mode, plain, start_mode, State, World, Startup}
use Rattle.erl_semantics.specs.State.{Receiver}
use Rattle.erl_semantics.specs.Operators.{integer, fits, of_integer, arithmetic, is_zero, divided, truth, of_truth, truth_of, logical}
use Rattle.erl_semantics.specs.Operators.{appended_to, appended, before_tail, consed_row, made_of, receiver_of, sent_to, of_one}
use Rattle.erl_semantics.specs.Operators.{of_two}
use Rattle.erl_semantics.specs.BuiltIns.{absolute, element, value_or_badarg, made_or_badarg, element_of, with_element, set_element}
use Rattle.erl_semantics.specs.BuiltIns.{head, tail, list_length, size_of_tuple, reversed, reversed_onto, member, if_receiver}
use Rattle.erl_semantics.specs.BuiltIns.{of_none, of_one as of_one_argument, of_two as of_two_arguments, of_three, not_in_profile}
use Rattle.erl_semantics.specs.Starting.{at_once, way_of, register_in, register_asked, register_in_mode}
use Rattle.source_laws.specs.Formed.{operands_of, takes}
use Rattle.source_laws.specs.Rules.{is_undef, ends_by_its_argument, OperatorsHaveRules, GuardOperatorsHaveRules, ListsHaveRules}
use Rattle.source_laws.specs.Rules.{FunctionsHaveRules, NamingHasRules}

-- a result that is no `undef`
abbrev Known : Result → Type 0
Known r = is_undef r ≡ false

either : (b : Bool) (one other : Result) → Known one → Known other → Known (if b then one else other)
either true one other known known_too = known
either false one other known known_too = known_too

made_known : (t : Tree) → Known (made t)
made_known t = either (is_within t) (value t) (exit_by (codes "system_limit")) refl refl

integer_known : (n : ℤ) → Known (integer n)
integer_known n = either (fits n) (value (term.int n)) (exit_by (codes "system_limit")) refl refl

of_integer_known : (f : ℤ → Result) → ((n : ℤ) → Known (f n)) → (o : Option ℤ) → Known (of_integer f o)
of_integer_known f known None = refl
of_integer_known f known (Some n) = known n

arithmetic_known : (f : ℤ → ℤ → Result) → ((m n : ℤ) → Known (f m n)) → (x y : Tree) → Known (arithmetic f x y)
arithmetic_known f known x y =
    of_integer_known (λ m. of_integer (λ n. f m n) (int_of y)) (λ m. of_integer_known (λ n. f m n) (known m) (int_of y))
    (int_of x)

divided_known : (f : ℤ → ℤ → ℤ) (m n : ℤ) → Known (divided f m n)
divided_known f m n = either (is_zero n) (exit_by (codes "badarith")) (integer (f m n)) refl (integer_known (f m n))

of_truth_known : (f : Bool → Result) → ((b : Bool) → Known (f b)) → (o : Option Bool) → Known (of_truth f o)
of_truth_known f known None = refl
of_truth_known f known (Some b) = known b

logical_known : (f : Bool → Bool → Bool) (x y : Tree) → Known (logical f x y)
logical_known f x y =
    of_truth_known (λ a. of_truth (λ b. value (truth (f a b))) (truth_of y))
    (λ a. of_truth_known (λ b. value (truth (f a b))) (λ b. refl) (truth_of y)) (truth_of x)

appended_to_known : (ts : Trees) (y : Tree) → Known (appended_to ts y)
appended_to_known term.none y = refl
appended_to_known (term.more t ts) (term.list us) = made_known (term.list (append_trees (term.more t ts) us))
appended_to_known (term.more t ts) _ = refl

appended_known : (x y : Tree) → Known (appended x y)
appended_known (term.list ts) y = appended_to_known ts y
appended_known _ y = refl

sent_known : (o : Option Receiver) (message : Tree) → Known (sent_to o message)
sent_known None message = refl
sent_known (Some receiver) message = refl

one_known : (o : Operator) (x : Tree) → 1 ≡ operands_of o → Known (of_one o x)
one_known operator.Negate x is = of_integer_known (λ n. integer (neg_ℤ n)) (λ n. integer_known (neg_ℤ n)) (int_of x)
one_known operator.Not x is = of_truth_known (λ a. value (truth (not a))) (λ a. refl) (truth_of x)
one_known _ x is = absurd (omega (arith, is))

two_known : (o : Operator) (x y : Tree) → 2 ≡ operands_of o → Known (of_two o x y)
two_known operator.Negate x y is = absurd (omega (arith, is))
two_known operator.Not x y is = absurd (omega (arith, is))
two_known operator.Multiply x y is = arithmetic_known (λ m n. integer (m *ℤ n)) (λ m n. integer_known (m *ℤ n)) x y
two_known operator.Divide x y is = arithmetic_known (divided int_div) (divided_known int_div) x y
two_known operator.Remainder x y is = arithmetic_known (divided int_rem) (divided_known int_rem) x y
two_known operator.And x y is = logical_known (λ a b. a && b) x y
two_known operator.Add x y is = arithmetic_known (λ m n. integer (m +ℤ n)) (λ m n. integer_known (m +ℤ n)) x y
two_known operator.Subtract x y is = arithmetic_known (λ m n. integer (m -ℤ n)) (λ m n. integer_known (m -ℤ n)) x y
two_known operator.Or x y is = logical_known (λ a b. a || b) x y
two_known operator.Append x y is = appended_known x y
two_known operator.Send x y is = sent_known (receiver_of x) y
two_known _ x y is = refl

some_operand : (o : Operator) → 0 ≡ operands_of o → ⊥
some_operand operator.Negate is = omega (arith, is)
some_operand operator.Not is = omega (arith, is)
some_operand _ is = omega (arith, is)

at_most_two : (o : Operator) (n : ℕ) → 1 + (1 + (1 + n)) ≡ operands_of o → ⊥
at_most_two operator.Negate n is = omega (arith, is)
at_most_two operator.Not n is = omega (arith, is)
at_most_two _ n is = omega (arith, is)

pub operators_have_rules : OperatorsHaveRules
operators_have_rules o term.none is = absurd (some_operand o is)
operators_have_rules o (term.more x term.none) is = one_known o x is
operators_have_rules o (term.more x (term.more y term.none)) is = two_known o x y is
operators_have_rules o (term.more x (term.more y (term.more z ts))) is = absurd (at_most_two o (count ts) is)

pub guard_operators_have_rules : GuardOperatorsHaveRules
guard_operators_have_rules operator.Append ts guards is = absurd (true≢false (sym guards))
guard_operators_have_rules operator.Send ts guards is = absurd (true≢false (sym guards))
guard_operators_have_rules o ts guards is = operators_have_rules o ts is

-- A list with a tail

tailed_known : (t : Tree) (r : Result) → Known r → Known (before_tail t r)
tailed_known t (value (term.list ts)) known = refl
tailed_known t (value _) known = refl
tailed_known t (rest p) known = known
tailed_known t (exit u) known = known

row_known : (t : Tree) (ts : Trees) → Known (consed_row (term.more t ts))
row_known (term.list us) term.none = refl
row_known (term.int n) term.none = refl
row_known (term.atom cs) term.none = refl
row_known (term.pid n) term.none = refl
row_known (term.tuple us) term.none = refl
row_known t (term.more u us) = tailed_known t (consed_row (term.more u us)) (row_known u us)

made_of_known : (r : Result) → Known r → Known (made_of r)
made_of_known (value t) known = made_known t
made_of_known (rest p) known = known
made_of_known (exit t) known = known

pub lists_have_rules : ListsHaveRules
lists_have_rules term.none h = absurd (omega (arith, h))
lists_have_rules (term.more t ts) h = made_of_known (consed_row (term.more t ts)) (row_known t ts)

-- Functions that are built in

absolute_known : (x : Tree) → Known (absolute x)
absolute_known (term.int n) = integer_known (pos (nat_abs n))
absolute_known _ = refl

head_known : (x : Tree) → Known (head x)
head_known (term.list (term.more t ts)) = refl
head_known _ = refl

tail_known : (x : Tree) → Known (tail x)
tail_known (term.list (term.more t ts)) = refl
tail_known _ = refl

length_known : (x : Tree) → Known (list_length x)
length_known (term.list ts) = refl
length_known _ = refl

size_known : (x : Tree) → Known (size_of_tuple x)
size_known (term.tuple ts) = refl
size_known _ = refl

reversed_known : (x : Tree) → Known (reversed x)
reversed_known (term.list ts) = made_known (term.list (reversed_onto ts term.none))
reversed_known _ = refl

value_known : (o : Option Tree) → Known (value_or_badarg o)
value_known None = refl
value_known (Some t) = refl

element_known : (x y : Tree) → Known (element x y)
element_known x (term.tuple ts) = value_known (element_of x ts)
element_known x _ = refl

made_or_known : (o : Option Trees) → Known (made_or_badarg o)
made_or_known None = refl
made_or_known (Some ts) = made_known (term.tuple ts)

set_known : (x y z : Tree) → Known (set_element x y z)
set_known x (term.tuple ts) u = made_or_known (with_element x u ts)
set_known x _ u = refl

member_known : (x y : Tree) → Known (member x y)
member_known t (term.list ts) = refl
member_known t _ = refl

receiver_known : (o : Option Receiver) → Known (if_receiver o)
receiver_known None = refl
receiver_known (Some receiver) = refl

none_known : (self : ℕ) (f : BuiltIn) → IsTrue (takes f 0) → Known (of_none self f)
none_known self built_in.SelfPid is = refl
none_known self _ is = absurd (true≢false (sym is))

argument_known : (f : BuiltIn) (x : Tree) → ends_by_its_argument f ≡ false → IsTrue (takes f 1) → Known (of_one_argument f x)
argument_known built_in.Abs x ends is = absolute_known x
argument_known built_in.Hd x ends is = head_known x
argument_known built_in.Tl x ends is = tail_known x
argument_known built_in.Length x ends is = length_known x
argument_known built_in.TupleSize x ends is = size_known x
argument_known built_in.IsAtom x ends is = refl
argument_known built_in.IsInteger x ends is = refl
argument_known built_in.IsList x ends is = refl
argument_known built_in.IsPid x ends is = refl
argument_known built_in.IsTuple x ends is = refl
argument_known built_in.IsBoolean x ends is = refl
argument_known built_in.Exit x ends is = absurd (true≢false ends)
argument_known built_in.Error x ends is = absurd (true≢false ends)
argument_known built_in.Reverse x ends is = reversed_known x
argument_known _ x ends is = absurd (true≢false (sym is))

arguments_known : (f : BuiltIn) (x y : Tree) → way_of f ≡ at_once → IsTrue (takes f 2) → Known (of_two_arguments f x y)
arguments_known built_in.Element x y way is = element_known x y
arguments_known built_in.Member x y way is = member_known x y
arguments_known built_in.Cast x y way is = receiver_known (receiver_of x)
arguments_known built_in.Reply x y way is = refl
arguments_known built_in.Call x y way is = refl
arguments_known built_in.Register x y way is = absurd (let no : ⊥ = cc in no)
arguments_known _ x y way is = absurd (true≢false (sym is))

three_known : (f : BuiltIn) (x y z : Tree) → way_of f ≡ at_once → IsTrue (takes f 3) → Known (of_three f x y z)
three_known built_in.SetElement x y z way is = set_known x y z
three_known built_in.Call x y z way is = refl
three_known built_in.Spawn x y z way is = absurd (let no : ⊥ = cc in no)
three_known built_in.SpawnLink x y z way is = absurd (let no : ⊥ = cc in no)
three_known built_in.ProcLibSpawnLink x y z way is = absurd (let no : ⊥ = cc in no)
three_known built_in.StartLink x y z way is = absurd (let no : ⊥ = cc in no)
three_known _ x y z way is = absurd (true≢false (sym is))

past : (n k : ℕ) → k ≤ 3 → (1 + (1 + (1 + (1 + n))) == k) ≡ true → ⊥
past n k small is = let same : 1 + (1 + (1 + (1 + n))) ≡ k = search rules in omega (arith, same, small)

past_both : (n k m : ℕ) → k ≤ 3 → m ≤ 3 → ((1 + (1 + (1 + (1 + n))) == k) || (1 + (1 + (1 + (1 + n))) == m)) ≡ true → ⊥
past_both n k m small small_too is =
    by_first (1 + (1 + (1 + (1 + n))) == k) refl
  where
    by_first : (b : Bool) → (1 + (1 + (1 + (1 + n))) == k) ≡ b → ⊥
    by_first true first = past n k small first
    by_first false first = past n m small_too (let none : (false || (1 + (1 + (1 + (1 + n))) == m)) ≡ true =
        Prim.rw first at is in none)

no_more : (f : BuiltIn) (n : ℕ) → way_of f ≡ at_once → IsTrue (takes f (1 + (1 + (1 + (1 + n))))) → ⊥
no_more built_in.SelfPid n way is = past n 0 (omega arith) is
no_more built_in.Element n way is = past n 2 (omega arith) is
no_more built_in.Member n way is = past n 2 (omega arith) is
no_more built_in.Cast n way is = past n 2 (omega arith) is
no_more built_in.Reply n way is = past n 2 (omega arith) is
no_more built_in.Register n way is = past n 2 (omega arith) is
no_more built_in.SetElement n way is = past n 3 (omega arith) is
no_more built_in.Spawn n way is = past n 3 (omega arith) is
no_more built_in.SpawnLink n way is = past n 3 (omega arith) is
no_more built_in.ProcLibSpawnLink n way is = past n 3 (omega arith) is
no_more built_in.Call n way is = past_both n 2 3 (omega arith) (omega arith) is
no_more built_in.StartLink n way is = let no : ⊥ = cc in no
no_more _ n way is = past n 1 (omega arith) is

pub functions_have_rules : FunctionsHaveRules
functions_have_rules self f term.none way ends is = none_known self f is
functions_have_rules self f (term.more x term.none) way ends is = argument_known f x ends is
functions_have_rules self f (term.more x (term.more y term.none)) way ends is = arguments_known f x y way is
functions_have_rules self f (term.more x (term.more y (term.more z term.none))) way ends is = three_known f x y z way is
functions_have_rules self f (term.more x (term.more y (term.more z (term.more u ts)))) way ends is =
    absurd (no_more f (count ts) way is)

-- A name

pair_known : (b : Bool) (one other : Result × State) → Known one.0 → Known other.0 → Known (if b then one else other).0
pair_known true one other known known_too = known
pair_known false one other known known_too = known_too

register_in_known : (name : List ℕ) (is_own : Bool) (startup : Option Startup) (s : State) →
    Known (register_in name is_own startup s).0
register_in_known name is_own None s = refl
register_in_known name true (Some u) s =
    pair_known (is_some u.registered) (not_in_profile, s)
    (value (truth true), record s { startup = Some (record u { registered = Some (name, true) }) }) refl refl
register_in_known name false (Some u) s = refl

two_terms : (n : ℕ) → (1 + (1 + (1 + n)) == 2) ≡ true → ⊥
two_terms n is = let same : 1 + (1 + (1 + n)) ≡ 2 = search rules in omega (arith, same)

register_known : (w : World) (ts : Trees) (s : State) → IsTrue (count ts == 2) → Known (register_asked w ts s).0
register_known w term.none s is = absurd (true≢false (sym is))
register_known w (term.more t term.none) s is = absurd (true≢false (sym is))
register_known w (term.more (term.atom name) (term.more (term.pid n) term.none)) s is =
    register_in_known name (nat_le n w.pid && nat_le w.pid n) s.startup s
register_known w (term.more t (term.more u term.none)) s is = refl
register_known w (term.more t (term.more u (term.more v ts))) s is = absurd (two_terms (count ts) is)

naming_in : (w : World) (mode : Mode) (ts : Trees) (s : State) → IsTrue (count ts == 2) → Known (register_in_mode w mode ts s).0
naming_in w plain ts s is = refl
naming_in w start_mode ts s is = register_known w ts s is

pub naming_has_rules : NamingHasRules
naming_has_rules w ts s is = naming_in w w.mode ts s is
