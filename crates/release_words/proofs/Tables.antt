-- Readings that give just what writings write, and their tables.
use Rattle.std.proofs.Common.{◌≡◌, ℕ, Bool, true, false, List, [], ◌∷◌, Option, Some, None, Result, Ok, Err, refl, sym, ap, subst, ◌∙◌}
use Rattle.std.specs.Str.{bytes_eq}
use Rattle.std.proofs.lemmas.Option.{same_Some}
use Rattle.std.proofs.lemmas.Slice.Eq.{bytes_eq-Decides}
use Rattle.erl_term.specs.Accessors.{atom_of, tuple_of, list_of, first_of, one_of, two_of, three_of, all_of}
use Rattle.erl_term.specs.Conversions.{given, pair_of, triple_of, row, rows, rows_of}
use Rattle.erl_term.specs.Term.{tree, term_of, term_of-tree}
use Rattle.erl_term.specs.Tree.{Tree, Trees, atom, tuple, list, none, more}
use Rattle.release_words.specs.declared.fault.InstructionFault.{InstructionFault}
use Rattle.release_words.specs.declared.fault.InstructionFault.TheVariants.{Bad, OutOfProfile}
use Rattle.release_words.specs.Forms.{ReadsAs, Table}
use Rattle.release_words.specs.Reading.{alone_of, leading_of, named, result_of, word_of}
use Rattle.release_words.proofs.Parts.{given_is, map_is, choice, none_some, atom_is, tuple_is, list_is, first_is, one_is, two_is, three_is, tree_back, two_parts, three_parts, all_is, all_back}

-- A reading of a value is the inverse of its writing, for the values of which something holds
pub record Reads {A : Type 0} (read : Tree → Option A) (write : A → Tree) (Holds : A → Type 0) : Type 0 where
  pub is : (t : Tree) (a : A) → read t ≡ Some a → (t ≡ write a) × Holds a
  pub back : (a : A) → Holds a → read (write a) ≡ Some a

pub atoms : Reads atom_of atom (λ cs. Unit {0})
atoms = record { is = λ t cs e. (atom_is t cs e, tt); back = λ cs holds. refl }

pub terms : Reads (λ t. Some (term_of t)) tree (λ t. Unit {0})
terms = record { is = λ t a e. (sym (tree_back t) ∙ ap tree (same_Some (term_of t) a e), tt); back = λ a holds. ap Some (term_of-tree a) }

pub lists : Reads list_of list (λ ts. Unit {0})
lists = record { is = λ t ts e. (list_is t ts e, tt); back = λ ts holds. refl }

-- Tuples and rows of values

pub pairs : {A B : Type 0} {ra : Tree → Option A} {wa : A → Tree} {Ha : A → Type 0} {rb : Tree → Option B} {wb : B → Tree} {Hb : B → Type 0} → Reads ra wa Ha → Reads rb wb Hb → Reads (pair_of ra rb) (λ p. tuple (row (wa p.0 ∷ wb p.1 ∷ []))) (λ p. Ha p.0 × Hb p.1)
pairs {A = A} {B = B} {ra = ra} {wa = wa} {Ha = Ha} {rb = rb} {wb = wb} {Hb = Hb} a b = record { is = is; back = λ p holds. rw (a.back p.0 holds.0, b.back p.1 holds.1) refl }
  where
    is : (t : Tree) (p : A × B) → pair_of ra rb t ≡ Some p → (t ≡ tuple (row (wa p.0 ∷ wb p.1 ∷ []))) × (Ha p.0 × Hb p.1)
    is t p e =
        let two = given_is (given (tuple_of t) two_of) _ p e in
        let inside = given_is (tuple_of t) two_of two.0 two.1 in
        let first = given_is (ra two.0.0) _ p two.2 in
        let second = map_is _ (rb two.0.1) p first.2 in
        let x = a.is two.0.0 first.0 first.1 in
        let y = b.is two.0.1 second.0 second.1 in
        let P : A × B → Type 0 = λ p. (t ≡ tuple (row (wa p.0 ∷ wb p.1 ∷ []))) × (Ha p.0 × Hb p.1) in
        subst P second.2 (tuple_is t inside.0 inside.1 ∙ ap tuple (two_is inside.0 two.0 inside.2 ∙ two_parts _ _ _ _ x.0 y.0), (x.1, y.1))

pub triples : {A B C : Type 0} {ra : Tree → Option A} {wa : A → Tree} {Ha : A → Type 0} {rb : Tree → Option B} {wb : B → Tree} {Hb : B → Type 0} {rc : Tree → Option C} {wc : C → Tree} {Hc : C → Type 0} → Reads ra wa Ha → Reads rb wb Hb → Reads rc wc Hc → Reads (triple_of ra rb rc) (λ p. tuple (row (wa p.0 ∷ wb p.1 ∷ wc p.2 ∷ []))) (λ p. Ha p.0 × Hb p.1 × Hc p.2)
triples {A = A} {B = B} {C = C} {ra = ra} {wa = wa} {Ha = Ha} {rb = rb} {wb = wb} {Hb = Hb} {rc = rc} {wc = wc} {Hc = Hc} a b c = record {
  is = is;
  back = λ p holds. rw (a.back p.0 holds.0, b.back p.1 holds.1, c.back p.2 holds.2) refl;
}
  where
    is : (t : Tree) (p : A × B × C) → triple_of ra rb rc t ≡ Some p → (t ≡ tuple (row (wa p.0 ∷ wb p.1 ∷ wc p.2 ∷ []))) × (Ha p.0 × Hb p.1 × Hc p.2)
    is t p e =
        let three = given_is (given (tuple_of t) three_of) _ p e in
        let inside = given_is (tuple_of t) three_of three.0 three.1 in
        let first = given_is (ra three.0.0) _ p three.2 in
        let second = given_is (rb three.0.1) _ p first.2 in
        let third = map_is _ (rc three.0.2) p second.2 in
        let x = a.is three.0.0 first.0 first.1 in
        let y = b.is three.0.1 second.0 second.1 in
        let z = c.is three.0.2 third.0 third.1 in
        let P : A × B × C → Type 0 = λ p. (t ≡ tuple (row (wa p.0 ∷ wb p.1 ∷ wc p.2 ∷ []))) × (Ha p.0 × Hb p.1 × Hc p.2) in
        subst P third.2 (tuple_is t inside.0 inside.1 ∙ ap tuple (three_is inside.0 three.0 inside.2 ∙ three_parts _ _ _ _ _ _ x.0 y.0 z.0), (x.1, y.1, z.1))

-- rows of values of all of which it holds
pub row_reads : {A : Type 0} {read : Tree → Option A} {write : A → Tree} {Holds : A → Type 0} → Reads read write Holds → ((a : A) → Holds a) → Reads (rows_of read) (λ xs. list (rows write xs)) (λ xs. Unit {0})
row_reads {A = A} {read = read} {write = write} each always = record { is = is; back = λ xs holds. all_back read write (λ x. each.back x (always x)) xs }
  where
    is : (t : Tree) (xs : List A) → rows_of read t ≡ Some xs → (t ≡ list (rows write xs)) × Unit {0}
    is t xs e =
        let inside = given_is (list_of t) (all_of read) xs e in
        (list_is t inside.0 inside.1 ∙ ap list (all_is read write (λ t x e. (each.is t x e).0) inside.0 xs inside.2), tt)

-- Rows of terms

pub alone_is : {A : Type 0} {read : Tree → Option A} {write : A → Tree} {Holds : A → Type 0} → Reads read write Holds → (ts : Trees) (a : A) → alone_of read ts ≡ Some a → (ts ≡ more (write a) none) × Holds a
alone_is reads ts a e =
    let one = given_is (one_of ts) _ a e in
    let found = reads.is one.0 a one.2 in
    (one_is ts one.0 one.1 ∙ ap (λ t. more t none) found.0, found.1)

pub leading_is : {A : Type 0} {read : Tree → Option A} {write : A → Tree} {Holds : A → Type 0} → Reads read write Holds → (ts : Trees) (p : A × Trees) → leading_of read ts ≡ Some p → (ts ≡ more (write p.0) p.1) × Holds p.0
leading_is {A = A} {read = read} {write = write} {Holds = Holds} reads ts p e =
    let first = given_is (first_of ts) _ p e in
    let value = map_is _ (read first.0.0) p first.2 in
    let found = reads.is first.0.0 value.0 value.1 in
    let P : A × Trees → Type 0 = λ p. (ts ≡ more (write p.0) p.1) × Holds p.0 in
    subst P value.2 (first_is ts first.0 first.1 ∙ ap (λ t. more t first.0.1) found.0, found.1)

-- Tables of names

-- what holds of each name of a table and what it stands for
abbrev pub OfEach : {A : Type 0} → (List ℕ → A → Type 0) → List (List ℕ × A) → Type 0
OfEach P [] = Unit {0}
OfEach P (entry ∷ others) = P entry.0 entry.1 × OfEach P others

pub named_is : {A : Type 0} (P : List ℕ → A → Type 0) (table : List (List ℕ × A)) → OfEach P table → (cs : List ℕ) (a : A) → named table cs ≡ Some a → P cs a
named_is P [] each cs a e = none_some a e
named_is P (entry ∷ others) each cs a e =
    choice (P cs) (bytes_eq cs entry.0) entry.1 (named others cs) a (λ same. subst (λ w. P w entry.1) (sym ((bytes_eq-Decides cs entry.0).0 same)) each.0) (named_is P others each.1 cs a) e

pub words : {A : Type 0} (table : List (List ℕ × A)) (write : A → Tree) → OfEach (λ cs a. atom cs ≡ write a) table → ((a : A) → word_of table (write a) ≡ Some a) → Reads (word_of table) write (λ a. Unit {0})
words {A = A} table write each back = record { is = is; back = λ a holds. back a }
  where
    is : (t : Tree) (a : A) → word_of table t ≡ Some a → (t ≡ write a) × Unit {0}
    is t a e =
        let name = given_is (atom_of t) (named table) a e in
        (atom_is t name.0 name.1 ∙ named_is (λ cs a. atom cs ≡ write a) table each name.0 a name.2, tt)

-- Tables of instructions

pub table_of : {I : Type 0} {IsForm : Tree → I → Type 0} {is_so : I → Bool} {IsOut : Tree → Type 0} (read : Tree → Result I InstructionFault) → ((t : Tree) (i : I) → read t ≡ Ok i → IsForm t i × (is_so i ≡ true)) → ((t : Tree) → read t ≡ Err OutOfProfile → IsOut t) → ((t : Tree) → IsOut t → read t ≡ Err OutOfProfile) → ((t : Tree) (i : I) → is_so i ≡ true → IsForm t i → read t ≡ Ok i) → Table IsForm is_so IsOut read
table_of {I = I} {IsForm = IsForm} {is_so = is_so} {IsOut = IsOut} read right out out_back complete =
    record { sound = λ t. judged t (read t) refl; complete = complete }
  where
    judged : (t : Tree) (r : Result I InstructionFault) → read t ≡ r → ReadsAs IsForm is_so IsOut t r
    judged t (Ok i) e = right t i e
    judged t (Err Bad) e =
        (λ is. let clash : Err Bad ≡ Err OutOfProfile = sym e ∙ out_back t is in let no : ⊥ = cc in no, λ i so is. let clash : Err Bad ≡ Ok i = sym e ∙ complete t i so is in let no : ⊥ = cc in no)
    judged t (Err OutOfProfile) e = out t e

result_ok : {I : Type 0} (b : Bool) (o : Option I) (i : I) → result_of b o ≡ Ok i → o ≡ Some i
result_ok true o i e = absurd (let no : ⊥ = cc in no)
result_ok false (Some j) i e = ap Some (let same : j ≡ i = cc in same)
result_ok false None i e = absurd (let no : ⊥ = cc in no)

result_out : {I : Type 0} (b : Bool) (o : Option I) → result_of b o ≡ Err OutOfProfile → b ≡ true
result_out true o e = refl
result_out false (Some j) e = absurd (let no : ⊥ = cc in no)
result_out false None e = absurd (let no : ⊥ = cc in no)

-- of instructions that are read where no term is out of the profile
pub result_table : {I : Type 0} {IsForm : Tree → I → Type 0} {is_so : I → Bool} {IsOut : Tree → Type 0} (is_out : Tree → Bool) (read : Tree → Option I) → ((t : Tree) (i : I) → read t ≡ Some i → IsForm t i × (is_so i ≡ true)) → ((t : Tree) → is_out t ≡ true → IsOut t) → ((t : Tree) → IsOut t → is_out t ≡ true) → ((t : Tree) (i : I) → is_so i ≡ true → IsForm t i → (is_out t ≡ false) × (read t ≡ Some i)) → Table IsForm is_so IsOut (λ t. result_of (is_out t) (read t))
result_table is_out read right out out_back complete = table_of _
    (λ t i e. right t i (result_ok (is_out t) (read t) i e))
    (λ t e. out t (result_out (is_out t) (read t) e))
    (λ t is. ap (λ b. result_of b (read t)) (out_back t is))
    (λ t i so is. let found = complete t i so is in ap (λ b. result_of b (read t)) found.0 ∙ ap (result_of false) found.1)
