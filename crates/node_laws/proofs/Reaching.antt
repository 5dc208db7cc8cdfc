-- Which modules can be reached from code is decided: names are gathered from code to code, until no module is left of which a
-- name is known and its code is not.
use Rattle.std.specs.Prelude.{◌≡◌, ◌⊎◌, ◌||◌, ◌+◌, ◌≤◌, ℕ, zero, suc, Bool, true, false, List, [], ◌∷◌, ◌++◌, length, Any, Option, None, Some, is_some, refl}
use Rattle.std.specs.List.{list_any}
use Rattle.std.specs.Map.{keys_of, lookup}
use Rattle.std.specs.Option.{option_and_then}
use Rattle.std.specs.Str.{bytes_eq}
use Rattle.std.proofs.Common.{ap, arith, inl, inr, subst, sym, ◌∙◌}
use Rattle.std.proofs.lemmas.Bool.{true≢false}
use Rattle.std.proofs.lemmas.List.Folds.{list_any-append}
use Rattle.std.proofs.lemmas.Map.Made.{is_some-lookup}
use Rattle.std.proofs.lemmas.Option.{none-some}
use Rattle.std.proofs.lemmas.Slice.Eq.{bytes_eq-Decides}
use Rattle.std.proofs.lemmas.List.{length-append}
use Rattle.code_server.specs.Modules.{Table as Loaded, current_of}
use Rattle.code_server.specs.declared.modules.Instance as loaded
use Rattle.erl_ir.specs.Module.{Forms, called_in_functions}
use Rattle.node_laws.proofs.Deciding.{IsDecided}
use Rattle.process.specs.JobCode.{IsNamed, IsReached, named, named_by}

-- a name is one of some
abbrev Among : List (List ℕ) → List ℕ → Type 0
Among names name = list_any (bytes_eq name) names ≡ true

one_of : (a b : Bool) → (a || b) ≡ true → (a ≡ true) ⊎ (b ≡ true)
one_of true b is = inl refl
one_of false b is = inr is

or_right : (a : Bool) → (a || true) ≡ true
or_right true = refl
or_right false = refl

same_name : (a b : List ℕ) → bytes_eq a b ≡ true → a ≡ b
same_name a b = (bytes_eq-Decides a b).0

in_front : (name : List ℕ) (xs ys : List (List ℕ)) → Among xs name → Among (xs ++ ys) name
in_front name xs ys is = list_any-append (bytes_eq name) xs ys ∙ ap (λ b. b || list_any (bytes_eq name) ys) is

in_back : (name : List ℕ) (xs ys : List (List ℕ)) → Among ys name → Among (xs ++ ys) name
in_back name xs ys is =
    list_any-append (bytes_eq name) xs ys ∙ ap (λ b. list_any (bytes_eq name) xs || b) is ∙
    or_right (list_any (bytes_eq name) xs)

in_either : (name : List ℕ) (xs ys : List (List ℕ)) → Among (xs ++ ys) name → Among xs name ⊎ Among ys name
in_either name xs ys is =
    one_of (list_any (bytes_eq name) xs) (list_any (bytes_eq name) ys) (sym (list_any-append (bytes_eq name) xs ys) ∙ is)

-- what is named in code is among the names of its calls, and the other way round

is_among : (name : List ℕ) (names : List (List ℕ)) → Any (λ n. n ≡ name) names → Among names name
is_among name [] (k, x, within, at, is) = absurd (omega (arith, within))
is_among name (n ∷ names) (zero, x, within, at, is) =
    ap (λ b. b || list_any (bytes_eq name) names) ((bytes_eq-Decides name n).1 (sym is ∙ sym at))
is_among name (n ∷ names) (suc k, x, within, at, is) =
    ap (λ b. bytes_eq name n || b) (is_among name names (k, x, omega (arith, within), at, is)) ∙ or_right (bytes_eq name n)

there_behind : (name n : List ℕ) (names : List (List ℕ)) → Any (λ m. m ≡ name) names → Any (λ m. m ≡ name) (n ∷ names)
there_behind name n names (k, x, within, at, is) = (suc k, x, omega (arith, within), at, is)

any_by : (name n : List ℕ) (names : List (List ℕ)) → (Among names name → Any (λ m. m ≡ name) names) →
    (bytes_eq name n ≡ true) ⊎ Among names name → Any (λ m. m ≡ name) (n ∷ names)
any_by name n names later (inl same) = (0, n, omega arith, refl, sym (same_name name n same))
any_by name n names later (inr among) = there_behind name n names (later among)

is_any : (name : List ℕ) (names : List (List ℕ)) → Among names name → Any (λ n. n ≡ name) names
is_any name [] is = absurd (true≢false (sym is))
is_any name (n ∷ names) is =
    any_by name n names (is_any name names) (one_of (bytes_eq name n) (list_any (bytes_eq name) names) is)

-- A module of which a name is known, and that is left

record Found (rest known : List (List ℕ)) : Type 0 where
  before : List (List ℕ)
  name : List ℕ
  behind : List (List ℕ)
  stands : rest ≡ before ++ name ∷ behind
  is_known : Among known name

abbrev NoneLeft : List (List ℕ) → List (List ℕ) → Type 0
NoneLeft rest known = (name : List ℕ) → Among rest name → Among known name → ⊥

find_next : (rest known : List (List ℕ)) → Found rest known ⊎ NoneLeft rest known
find_next [] known = inr (λ name there. absurd (true≢false (sym there)))
find_next (x ∷ rest) known = by (list_any (bytes_eq x) known) refl (find_next rest known)
  where
    first : (name : List ℕ) → (list_any (bytes_eq x) known ≡ false) → (bytes_eq name x ≡ true) ⊎ Among rest name →
        NoneLeft rest known →
        Among known name → ⊥
    first name unknown (inl same) never is =
        true≢false (sym (subst (λ y. list_any (bytes_eq y) known ≡ true) (same_name name x same) is) ∙ unknown)
    first name unknown (inr later) never is = never name later is

    by : (b : Bool) → list_any (bytes_eq x) known ≡ b → Found rest known ⊎ NoneLeft rest known →
        Found (x ∷ rest) known ⊎ NoneLeft (x ∷ rest) known
    by true is others = inl (record { before = []; name = x; behind = rest; stands = refl; is_known = is })
    by false is (inl f) = inl (record {
      before = x ∷ f.before;
      name = f.name;
      behind = f.behind;
      stands = ap (λ xs. x ∷ xs) f.stands;
      is_known = f.is_known;
    })
    by false is (inr never) =
        inr (λ name there known_too. first name is (one_of (bytes_eq name x) (list_any (bytes_eq name) rest) there) never
        known_too)

module _ (t : Loaded Forms) (from : Forms) where
  -- what is named in the current code of a module is known
  abbrev CodeIsKnown : List (List ℕ) → List ℕ → Type 0
  CodeIsKnown known by = (i : loaded.Instance Forms) → current_of by t ≡ Some i → (name : List ℕ) → IsNamed name i.code →
      Among known name

  -- Names that are known can all be reached; what is named in the code is known; and of each module that isn't left the code is
  -- known.
  record AreKnown (rest known : List (List ℕ)) : Type 0 where
    sound : (name : List ℕ) → Among known name → IsReached t from name
    begins : (name : List ℕ) → IsNamed name from → Among known name
    done : (name : List ℕ) → Among (keys_of t.entries) name → Among rest name ⊎ CodeIsKnown known name

  -- the names in a module's current code

  named_in : Option (loaded.Instance Forms) → List (List ℕ)
  named_in None = []
  named_in (Some i) = called_in_functions i.code.functions

  reached_in : (by : List ℕ) (o : Option (loaded.Instance Forms)) → current_of by t ≡ o → IsReached t from by →
      (name : List ℕ) →
      Among (named_in o) name → IsReached t from name
  unfolding named_in
  reached_in by None is there name among = absurd (true≢false (sym among))
  reached_in by (Some i) is there name among = named_by there is (is_any name (called_in_functions i.code.functions) among)

  known_in : (by : List ℕ) (o : Option (loaded.Instance Forms)) → current_of by t ≡ o → (known : List (List ℕ)) →
      CodeIsKnown (known ++ named_in o) by
  unfolding named_in
  known_in by None is known i at name here = absurd (none-some i (sym is ∙ at))
  known_in by (Some j) is known i at name here =
      in_back name known (called_in_functions j.code.functions)
      (is_among name (called_in_functions j.code.functions)
      (subst (λ (o : Option (loaded.Instance Forms)). IsNamedIn name o) (sym at ∙ is) here))
    where
      IsNamedIn : List ℕ → Option (loaded.Instance Forms) → Type 0
      IsNamedIn name None = ⊥
      IsNamedIn name (Some k) = IsNamed name k.code

  -- one more
  more_known : (rest known : List (List ℕ)) (f : Found rest known) → AreKnown rest known →
      AreKnown (f.before ++ f.behind) (known ++ named_in (current_of f.name t))
  more_known rest known f are = record {
    sound = λ name among. sound_by name (in_either name known (named_in (current_of f.name t)) among);
    begins = λ name here. in_front name known (named_in (current_of f.name t)) (are.begins name here);
    done = λ name among. done_by name (are.done name among);
  } where
    sound_by : (name : List ℕ) → Among known name ⊎ Among (named_in (current_of f.name t)) name → IsReached t from name
    sound_by name (inl among) = are.sound name among
    sound_by name (inr among) = reached_in f.name (current_of f.name t) refl (are.sound f.name f.is_known) name among

    left_by : (name : List ℕ) → (bytes_eq name f.name ≡ true) ⊎ Among f.behind name →
        Among (f.before ++ f.behind) name ⊎ CodeIsKnown (known ++ (named_in (current_of f.name t))) name
    left_by name (inl same) =
        inr (subst (λ x. CodeIsKnown (known ++ (named_in (current_of f.name t))) x) (sym (same_name name f.name same))
        (known_in f.name (current_of f.name t) refl known))
    left_by name (inr behind) = inl (in_back name f.before f.behind behind)

    split_by : (name : List ℕ) → Among f.before name ⊎ Among (f.name ∷ f.behind) name →
        Among (f.before ++ f.behind) name ⊎ CodeIsKnown (known ++ (named_in (current_of f.name t))) name
    split_by name (inl before) = inl (in_front name f.before f.behind before)
    split_by name (inr there) = left_by name (one_of (bytes_eq name f.name) (list_any (bytes_eq name) f.behind) there)

    done_by : (name : List ℕ) → Among rest name ⊎ CodeIsKnown known name →
        Among (f.before ++ f.behind) name ⊎ CodeIsKnown (known ++ (named_in (current_of f.name t))) name
    done_by name (inl left) =
        split_by name (in_either name f.before (f.name ∷ f.behind) (subst (λ xs. Among xs name) f.stands left))
    done_by name (inr code) = inr (λ i at other here. in_front other known (named_in (current_of f.name t))
        (code i at other here))

  abbrev Closed : Type 0
  Closed = (rest known : List (List ℕ)) × AreKnown rest known × NoneLeft rest known

  fewer : (n : ℕ) (rest known : List (List ℕ)) (f : Found rest known) → length rest ≤ suc n → length (f.before ++ f.behind) ≤ n
  fewer n rest known f h =
      let whole : length rest ≡ length f.before + length (f.name ∷ f.behind) =
      ap (λ xs. length xs) f.stands ∙ length-append f.before (f.name ∷ f.behind) in
      let others : length (f.before ++ f.behind) ≡ length f.before + length f.behind = length-append f.before f.behind in
      omega (arith, whole, others, h)

  nothing_left : (rest known : List (List ℕ)) (f : Found rest known) → length rest ≤ zero → ⊥
  nothing_left rest known f h =
      let whole : length rest ≡ length f.before + length (f.name ∷ f.behind) =
      ap (λ xs. length xs) f.stands ∙ length-append f.before (f.name ∷ f.behind) in
      omega (arith, whole, h)

  close_last : (rest known : List (List ℕ)) → length rest ≤ zero → AreKnown rest known → Found rest known ⊎
      NoneLeft rest known →
      Closed
  close_last rest known h are (inl f) = absurd (nothing_left rest known f h)
  close_last rest known h are (inr never) = (rest, known, are, never)

  close_next : (n : ℕ) (rest known : List (List ℕ)) → length rest ≤ suc n → AreKnown rest known →
      ((rest known : List (List ℕ)) → length rest ≤ n → AreKnown rest known → Closed) → Found rest known ⊎ NoneLeft rest known →
      Closed
  close_next n rest known h are others (inl f) =
      others (f.before ++ f.behind) (known ++ named_in (current_of f.name t)) (fewer n rest known f h)
      (more_known rest known f are)
  close_next n rest known h are others (inr never) = (rest, known, are, never)

  close : (n : ℕ) (rest known : List (List ℕ)) → length rest ≤ n → AreKnown rest known → Closed
  close zero rest known h are = close_last rest known h are (find_next rest known)
  close (suc n) rest known h are =
      close_next n rest known h are (λ left more g also. close n left more g also) (find_next rest known)

  all_known : Closed
  all_known =
      close (length (keys_of t.entries)) (keys_of t.entries) (called_in_functions from.functions) (omega arith) (record {
        sound = λ name among. named (is_any name (called_in_functions from.functions) among);
        begins = λ name here. is_among name (called_in_functions from.functions) here;
        done = λ name among. inl among;
      })

  -- a module that has current code stands in the table
  there : {X : Type 0} (o : Option X) (f : X → Option (loaded.Instance Forms)) (i : loaded.Instance Forms) →
      option_and_then f o ≡ Some i → is_some o ≡ true
  there None f i is = absurd (none-some i is)
  there (Some x) f i is = refl

  stands_there : (by : List ℕ) (i : loaded.Instance Forms) → current_of by t ≡ Some i → Among (keys_of t.entries) by
  stands_there by i at =
      sym (is_some-lookup (bytes_eq by) t.entries) ∙ there (lookup (bytes_eq by) t.entries) (λ slots. slots.current) i at

  known_by : (rest known : List (List ℕ)) → NoneLeft rest known → (by name : List ℕ) (i : loaded.Instance Forms) →
      Among known by →
      current_of by t ≡ Some i → IsNamed name i.code → Among rest by ⊎ CodeIsKnown known by → Among known name
  known_by rest known never by name i is at here (inl left) = absurd (never by left is)
  known_by rest known never by name i is at here (inr code) = code i at name here

  complete : (rest known : List (List ℕ)) → AreKnown rest known → NoneLeft rest known → {name : List ℕ} →
      IsReached t from name →
      Among known name
  complete rest known are never (named {name = name} here) = are.begins name here
  complete rest known are never (named_by {by = by} {name = name} {i = i} reached at here) =
      known_by rest known never by name i (complete rest known are never reached) at here (are.done by (stands_there by i at))

  pub reached_or_not : (name : List ℕ) → IsDecided (IsReached t from name)
  reached_or_not name = by (list_any (bytes_eq name) all_known.1) refl
    where
      by : (b : Bool) → list_any (bytes_eq name) all_known.1 ≡ b → IsDecided (IsReached t from name)
      by true is = inl (all_known.2.sound name is)
      by false is =
          inr (λ reached. true≢false (sym (complete all_known.0 all_known.1 all_known.2 all_known.3 reached) ∙ is))
