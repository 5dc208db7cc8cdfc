-- Readers that find what terms say, and nothing else.
use Rattle.std.proofs.Common.{◌≡◌, ℕ, List, [], ◌∷◌, Option, Some, None, option_map, refl, sym, ap, subst, ◌∙◌}
use Rattle.std.specs.Prelude.{⊤, if◌then◌else◌}
use Rattle.std.specs.Str.{bytes_eq}
use Rattle.std.proofs.lemmas.Option.{same_Some}
use Rattle.std.proofs.lemmas.Slice.Eq.{bytes_eq-Decides}
use Rattle.erl_term.specs.Accessors.{all_of, atom_of, list_of, three_of, tuple_of, two_of}
use Rattle.erl_term.specs.Conversions.{given, pair_of, rows_of, triple_of}
use Rattle.erl_term.specs.Term.{term_of, term_of-tree, tree}
use Rattle.erl_term.specs.Tree.{Tree, Trees, atom, more, none, tuple}
use Rattle.release_words.specs.Reading.{version_of}
use Rattle.release_words.proofs.Parts.{atom_is, choice, given_is, list_is, map_is, three_is, tuple_is, two_is, none_some, tree_back, next_back}
use Rattle.release_words.proofs.Words.{version_is}
use Rattle.release_words.proofs.Words.{version_back}
use Rattle.otp_files.specs.Parts.{Each, IsAny, IsList, IsListOf, IsName, IsPair, IsTriple, IsVersion, IsWord, Says}
use Rattle.otp_files.specs.Reading.{word_of}

pub record Reads {A : Type 0} (read : Tree → Option A) (Is : Tree → A → Type 0) : Type 0 where
  pub found : (t : Tree) (x : A) → read t ≡ Some x → Is t x
  pub back : (t : Tree) (x : A) → Is t x → read t ≡ Some x

-- where nothing is found, nothing is said
pub unsaid : {A : Type 0} (read : Tree → Option A) (Is : Tree → A → Type 0) → Reads read Is → (t : Tree) → read t ≡ None → Says Is t → ⊥
unsaid read Is reads t empty says = none_some says.value (sym empty ∙ reads.back t says.value says.is)

pub name_reads : Reads atom_of IsName
name_reads = record { found = atom_is; back = λ t x is. ap atom_of is }

pub list_reads : Reads list_of IsList
list_reads = record { found = list_is; back = λ t x is. ap list_of is }

pub any_reads : Reads (λ t. Some (term_of t)) IsAny
any_reads = record {
  found = λ t x e. sym (tree_back t) ∙ ap (λ u. tree u) (same_Some (term_of t) x e);
  back = λ t x is. ap (λ u. Some (term_of u)) is ∙ ap Some (term_of-tree x);
}

pub value_reads : Reads (λ t. Some t) (λ t u. t ≡ u)
value_reads = record { found = λ t x e. same_Some t x e; back = λ t x is. ap Some is }

pub version_reads : Reads version_of IsVersion
version_reads = record { found = version_is; back = λ t x is. ap version_of is.0 ∙ version_back x is.1 }

pub word_reads : (cs : List ℕ) → Reads (word_of cs) (IsWord cs)
word_reads cs = record { found = found; back = back }
  where
    found : (t : Tree) (x : ⊤) → word_of cs t ≡ Some x → t ≡ atom cs
    found t x e =
        let name = given_is (atom_of t) (λ ds. if bytes_eq ds cs then Some tt else None) x e in
        atom_is t name.0 name.1 ∙ choice (λ (u : ⊤). atom name.0 ≡ atom cs) (bytes_eq name.0 cs) tt None x (λ holds. ap atom ((bytes_eq-Decides name.0 cs).0 holds)) (none_some x) name.2

    back : (t : Tree) (x : ⊤) → t ≡ atom cs → word_of cs t ≡ Some x
    back t x is = ap (word_of cs) is ∙ ap (λ b. if b then Some tt else None) ((bytes_eq-Decides cs cs).1 refl)

-- Tuples

pub pair_reads : {A B : Type 0} (f : Tree → Option A) (g : Tree → Option B) (R : Tree → A → Type 0) (S : Tree → B → Type 0) → Reads f R → Reads g S → Reads (pair_of f g) (IsPair R S)
pair_reads {A} {B} f g R S reads_f reads_g = record { found = found; back = back }
  where
    found : (t : Tree) (p : A × B) → pair_of f g t ≡ Some p → IsPair R S t p
    found t p e =
        let q = given_is (given (tuple_of t) two_of) _ p e in
        let ts = given_is (tuple_of t) two_of q.0 q.1 in
        let a = given_is (f q.0.0) _ p q.2 in
        let b = map_is (λ b. (a.0, b)) (g q.0.1) p a.2 in
        subst (IsPair R S t) b.2 (record {
          first = q.0.0;
          second = q.0.1;
          is = tuple_is t ts.0 ts.1 ∙ ap tuple (two_is ts.0 q.0 ts.2);
          a = reads_f.found q.0.0 a.0 a.1;
          b = reads_g.found q.0.1 b.0 b.1;
        })

    back : (t : Tree) (p : A × B) → IsPair R S t p → pair_of f g t ≡ Some p
    back t p is =
        ap (pair_of f g) is.is ∙ ap (λ o. given {B = A × B} o (λ a. option_map (λ b. (a, b)) (g is.second))) (reads_f.back is.first p.0 is.a) ∙ ap (λ o. option_map {U = A × B} (λ b. (p.0, b)) o) (reads_g.back is.second p.1 is.b)

pub triple_reads : {A B C : Type 0} (f : Tree → Option A) (g : Tree → Option B) (h : Tree → Option C) (R : Tree → A → Type 0) (S : Tree → B → Type 0) (T : Tree → C → Type 0) → Reads f R → Reads g S → Reads h T → Reads (triple_of f g h) (IsTriple R S T)
triple_reads {A} {B} {C} f g h R S T reads_f reads_g reads_h = record { found = found; back = back }
  where
    found : (t : Tree) (p : A × B × C) → triple_of f g h t ≡ Some p → IsTriple R S T t p
    found t p e =
        let q = given_is (given (tuple_of t) three_of) _ p e in
        let ts = given_is (tuple_of t) three_of q.0 q.1 in
        let a = given_is (f q.0.0) _ p q.2 in
        let b = given_is (g q.0.1) _ p a.2 in
        let c = map_is (λ c. (a.0, b.0, c)) (h q.0.2) p b.2 in
        subst (IsTriple R S T t) c.2 (record {
          first = q.0.0;
          second = q.0.1;
          third = q.0.2;
          is = tuple_is t ts.0 ts.1 ∙ ap tuple (three_is ts.0 q.0 ts.2);
          a = reads_f.found q.0.0 a.0 a.1;
          b = reads_g.found q.0.1 b.0 b.1;
          c = reads_h.found q.0.2 c.0 c.1;
        })

    back : (t : Tree) (p : A × B × C) → IsTriple R S T t p → triple_of f g h t ≡ Some p
    back t p is =
        ap (triple_of f g h) is.is ∙ ap (λ o. given {B = A × B × C} o (λ a. given {B = A × B × C} (g is.second) (λ b. option_map (λ c. (a, b, c)) (h is.third)))) (reads_f.back is.first p.0 is.a) ∙ ap (λ o. given {B = A × B × C} o (λ b. option_map (λ c. (p.0, b, c)) (h is.third))) (reads_g.back is.second p.1 is.b) ∙ ap (λ o. option_map {U = A × B × C} (λ c. (p.0, p.1, c)) o) (reads_h.back is.third p.2 is.c)

-- Rows

pub each_found : {A : Type 0} (f : Tree → Option A) (R : Tree → A → Type 0) → Reads f R → (ts : Trees) (xs : List A) → all_of f ts ≡ Some xs → Each R ts xs
each_found f R reads none xs e = subst (Each R none) (same_Some [] xs e) tt
each_found f R reads (more t ts) xs e =
    let first = given_is (f t) _ xs e in
    let others = map_is (λ as'. first.0 ∷ as') (all_of f ts) xs first.2 in
    subst (Each R (more t ts)) others.2 (reads.found t first.0 first.1, each_found f R reads ts others.0 others.1)

pub each_back : {A : Type 0} (f : Tree → Option A) (R : Tree → A → Type 0) → Reads f R → (ts : Trees) (xs : List A) → Each R ts xs → all_of f ts ≡ Some xs
each_back f R reads none [] is = refl
each_back f R reads none (x ∷ xs) is = absurd is
each_back f R reads (more t ts) [] is = absurd is
each_back f R reads (more t ts) (x ∷ xs) is =
    next_back (f t) (all_of f ts) x xs (reads.back t x is.0) (each_back f R reads ts xs is.1)

pub rows_reads : {A : Type 0} (f : Tree → Option A) (R : Tree → A → Type 0) → Reads f R → Reads (rows_of f) (IsListOf R)
rows_reads f R reads = record {
  found = λ t xs e.
      let ts = given_is (list_of t) (all_of f) xs e in
      record { terms = ts.0; is = list_is t ts.0 ts.1; each = each_found f R reads ts.0 xs ts.2 };
  back = λ t xs is. ap (rows_of f) is.is ∙ each_back f R reads is.terms xs is.each;
}
