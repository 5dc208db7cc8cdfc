-- What a term is, where a reader of it gives something.
use Rattle.std.proofs.Common.{◌≡◌, ℕ, pos, negsuc, Bool, true, false, List, [], ◌∷◌, Option, Some, None, option_map, refl, ap, subst, ◌∙◌, ◌⊎◌, inl, inr}
use Rattle.std.specs.Prelude.{if◌then◌else◌, ◌&&◌}
use Rattle.std.proofs.lemmas.Option.{same_Some}
use Rattle.erl_term.specs.Rows.{integers}
use Rattle.erl_term.specs.Accessors.{atom_of, tuple_of, list_of, first_of, one_of, two_of, three_of, all_of, char_of, string_of}
use Rattle.erl_term.specs.Tree.{Tree, Trees, int, atom, pid, tuple, list, none, more}
use Rattle.erl_term.specs.Term.{tree, term_of}
use Rattle.erl_term.specs.Conversions.{given, rows}
use Rattle.release_words.specs.Reading.{either_of}

-- Options

pub given_is : {A B : Type 0} (o : Option A) (f : A → Option B) (b : B) → given o f ≡ Some b → (a : A) × (o ≡ Some a) × (f a ≡ Some b)
given_is None f b e = absurd (let no : ⊥ = cc in no)
given_is (Some a) f b e = (a, refl, e)

pub map_is : {A B : Type 0} (f : A → B) (o : Option A) (b : B) → option_map f o ≡ Some b → (a : A) × (o ≡ Some a) × (f a ≡ b)
map_is f None b e = absurd (let no : ⊥ = cc in no)
map_is f (Some a) b e = (a, refl, same_Some (f a) b e)

pub either_is : {A : Type 0} (o p : Option A) (a : A) → either_of o p ≡ Some a → (o ≡ Some a) ⊎ (p ≡ Some a)
either_is None p a e = inr e
either_is (Some x) p a e = inl e

pub none_some : {A : Type 0} {P : Type 0} (x : A) → None ≡ Some x → P
none_some x e = absurd (let no : ⊥ = cc in no)

-- a choice between a thing and others
pub choice : {A : Type 0} (P : A → Type 0) (b : Bool) (x : A) (o : Option A) (y : A) → (b ≡ true → P x) → (o ≡ Some y → P y) → (if b then Some x else o) ≡ Some y → P y
choice P true x o y here others e = subst P (same_Some x y e) (here refl)
choice P false x o y here others e = others e

-- Terms

pub atom_is : (t : Tree) (cs : List ℕ) → atom_of t ≡ Some cs → t ≡ atom cs
atom_is (int n) cs e = absurd (let no : ⊥ = cc in no)
atom_is (atom ds) cs e = ap atom (same_Some ds cs e)
atom_is (pid n) cs e = absurd (let no : ⊥ = cc in no)
atom_is (tuple ts) cs e = absurd (let no : ⊥ = cc in no)
atom_is (list ts) cs e = absurd (let no : ⊥ = cc in no)

pub tuple_is : (t : Tree) (ts : Trees) → tuple_of t ≡ Some ts → t ≡ tuple ts
tuple_is (int n) ts e = absurd (let no : ⊥ = cc in no)
tuple_is (atom cs) ts e = absurd (let no : ⊥ = cc in no)
tuple_is (pid n) ts e = absurd (let no : ⊥ = cc in no)
tuple_is (tuple us) ts e = ap tuple (same_Some us ts e)
tuple_is (list us) ts e = absurd (let no : ⊥ = cc in no)

pub list_is : (t : Tree) (ts : Trees) → list_of t ≡ Some ts → t ≡ list ts
list_is (int n) ts e = absurd (let no : ⊥ = cc in no)
list_is (atom cs) ts e = absurd (let no : ⊥ = cc in no)
list_is (pid n) ts e = absurd (let no : ⊥ = cc in no)
list_is (tuple us) ts e = absurd (let no : ⊥ = cc in no)
list_is (list us) ts e = ap list (same_Some us ts e)

pub one_is : (ts : Trees) (t : Tree) → one_of ts ≡ Some t → ts ≡ more t none
one_is none t e = absurd (let no : ⊥ = cc in no)
one_is (more a none) t e = ap (λ u. more u none) (same_Some a t e)
one_is (more a (more b us)) t e = absurd (let no : ⊥ = cc in no)

pub two_is : (ts : Trees) (p : Tree × Tree) → two_of ts ≡ Some p → ts ≡ more p.0 (more p.1 none)
two_is none p e = absurd (let no : ⊥ = cc in no)
two_is (more a us) p e =
    let second = map_is _ (one_of us) p e in
    ap (λ r. more a r) (one_is us second.0 second.1) ∙ ap (λ (q : Tree × Tree). more q.0 (more q.1 none)) second.2

pub three_is : (ts : Trees) (p : Tree × Tree × Tree) → three_of ts ≡ Some p → ts ≡ more p.0 (more p.1 (more p.2 none))
three_is none p e = absurd (let no : ⊥ = cc in no)
three_is (more a us) p e =
    let others = map_is _ (two_of us) p e in
    ap (λ r. more a r) (two_is us others.0 others.1) ∙ ap (λ (q : Tree × Tree × Tree). more q.0 (more q.1 (more q.2 none))) others.2

pub first_is : (ts : Trees) (p : Tree × Trees) → first_of ts ≡ Some p → ts ≡ more p.0 p.1
first_is none p e = none_some p e
first_is (more a us) p e = ap (λ (q : Tree × Trees). more q.0 q.1) (same_Some (a, us) p e)

pub tree_back : (t : Tree) → tree (term_of t) ≡ t
tree_back (int n) = refl
tree_back (atom cs) = refl
tree_back (pid n) = refl
tree_back (tuple ts) = refl
tree_back (list ts) = refl

-- rows of so many terms, part by part

pub two_parts : (a b x y : Tree) → a ≡ x → b ≡ y → more a (more b none) ≡ more x (more y none)
two_parts a b x y first second =
    ap (λ t. more t (more b none)) first ∙ ap (λ t. more x (more t none)) second

pub three_parts : (a b c x y z : Tree) → a ≡ x → b ≡ y → c ≡ z → more a (more b (more c none)) ≡ more x (more y (more z none))
three_parts a b c x y z first second third =
    ap (λ t. more t (more b (more c none))) first ∙ ap (λ t. more x (more t (more c none))) second ∙ ap (λ t. more x (more y (more t none))) third

-- a tuple of two

pub pair_is : {B : Type 0} (f : Tree × Tree → Option B) (t : Tree) (b : B) → given (tuple_of t) (λ ts. given (two_of ts) f) ≡ Some b → (p : Tree × Tree) × (t ≡ tuple (more p.0 (more p.1 none))) × (f p ≡ Some b)
pair_is f t b e =
    let inside = given_is (tuple_of t) (λ ts. given (two_of ts) f) b e in
    let both = given_is (two_of inside.0) f b inside.2 in
    (both.0, tuple_is t inside.0 inside.1 ∙ ap tuple (two_is inside.0 both.0 both.1), both.2)

-- rows, item by item

pub all_is : {A : Type 0} (f : Tree → Option A) (write : A → Tree) → ((t : Tree) (x : A) → f t ≡ Some x → t ≡ write x) → (ts : Trees) (xs : List A) → all_of f ts ≡ Some xs → ts ≡ rows write xs
all_is f write each none xs e = ap (rows write) (same_Some [] xs e)
all_is f write each (more t ts) xs e =
    let first = given_is (f t) (λ a. option_map (λ as'. a ∷ as') (all_of f ts)) xs e in
    let others = map_is (λ as'. first.0 ∷ as') (all_of f ts) xs first.2 in
    ap (λ u. more u ts) (each t first.0 first.1) ∙ ap (λ us. more (write first.0) us) (all_is f write each ts others.0 others.1) ∙ ap (rows write) others.2

pub next_back : {A : Type 0} (o : Option A) (p : Option (List A)) (x : A) (xs : List A) → o ≡ Some x → p ≡ Some xs → given o (λ a. option_map (λ as'. a ∷ as') p) ≡ Some (x ∷ xs)
next_back o p x xs one others =
    ap (λ q. given q (λ a. option_map (λ as'. a ∷ as') p)) one ∙ ap (λ q. option_map (λ as'. x ∷ as') q) others

pub all_back : {A : Type 0} (f : Tree → Option A) (write : A → Tree) → ((x : A) → f (write x) ≡ Some x) → (xs : List A) → all_of f (rows write xs) ≡ Some xs
all_back f write each [] = refl
all_back f write each (x ∷ xs) =
    next_back (f (write x)) (all_of f (rows write xs)) x xs (each x) (all_back f write each xs)

pub both_true : (a b : Bool) → a ≡ true → b ≡ true → (a && b) ≡ true
both_true a b one other = ap (λ x. x && b) one ∙ other

-- Strings

abbrev pub char_tree : ℕ → Tree
char_tree c = int (pos c)

pub integers_rows : (cs : List ℕ) → rows char_tree cs ≡ integers cs
integers_rows [] = refl
integers_rows (c ∷ cs) = ap (λ ts. more (char_tree c) ts) (integers_rows cs)

pub char_is : (t : Tree) (c : ℕ) → char_of t ≡ Some c → t ≡ char_tree c
char_is (int (pos n)) c e = choice (λ k. char_tree n ≡ char_tree k) _ n None c (λ holds. refl) (λ no. absurd (let never : ⊥ = cc in never)) e
char_is (int (negsuc n)) c e = absurd (let no : ⊥ = cc in no)
char_is (atom cs) c e = absurd (let no : ⊥ = cc in no)
char_is (pid n) c e = absurd (let no : ⊥ = cc in no)
char_is (tuple ts) c e = absurd (let no : ⊥ = cc in no)
char_is (list ts) c e = absurd (let no : ⊥ = cc in no)

pub string_is : (t : Tree) (cs : List ℕ) → string_of t ≡ Some cs → t ≡ list (integers cs)
string_is t cs e =
    let inside = given_is (list_of t) (all_of char_of) cs e in
    list_is t inside.0 inside.1 ∙ ap list (all_is char_of char_tree char_is inside.0 cs inside.2 ∙ integers_rows cs)
