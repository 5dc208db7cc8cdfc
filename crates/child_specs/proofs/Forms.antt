-- What is read is a supervision of its children, and each supervision is read as its children.
use Rattle.std.proofs.Common.{◌≡◌, ℕ, List, [], ◌∷◌, Some, None, ap, ◌∙◌}
use Rattle.std.specs.Prelude.{codes, if◌then◌else◌, ◌&&◌}
use Rattle.std.specs.Str.{bytes_eq}
use Rattle.std.proofs.lemmas.Bool.{and_parts}
use Rattle.std.proofs.lemmas.Slice.Eq.{bytes_eq-Decides}
use Rattle.erl_term.specs.Accessors.{all_of, list_of}
use Rattle.erl_term.specs.Conversions.{given, row, rows_of}
use Rattle.erl_term.specs.Term.{tree}
use Rattle.erl_term.specs.Tree.{Tree, Trees, atom, tuple, list}
use Rattle.release_words.proofs.Parts.{choice, given_is, list_is, none_some}
use Rattle.release_words.proofs.Tables.{atoms, pairs, terms, triples}
use Rattle.child_specs.specs.declared.child.ChildSpec.{ChildSpec}
use Rattle.child_specs.specs.Forms.{IsSupervision, supervision_tree}
use Rattle.child_specs.specs.Laws.{SupervisionTable}
use Rattle.child_specs.specs.Reading.{are_distinct, child_of, children_of, parts_of}
use Rattle.child_specs.proofs.Apart.{distinct_back, distinct_is}
use Rattle.child_specs.proofs.Children.{children_are, children_back, when_is}

-- as the names and the children are
abbrev parts_tree : List ℕ → List ℕ → Tree → Tree → Tree → Tree
parts_tree head strategy r t children =
    tuple (row (atom head ∷ tuple (row (tuple (row (atom strategy ∷ r ∷ t ∷ [])) ∷ children ∷ [])) ∷ []))

parts_are : (head strategy : List ℕ) (r t u : Tree) (children : Trees) → head ≡ codes "ok" → strategy ≡ codes "one_for_one" → u ≡ list children → parts_tree head strategy r t u ≡ supervision_tree r t children
parts_are head strategy r t u children ok one same =
    ap (λ h. parts_tree h strategy r t u) ok ∙ ap (λ s. parts_tree (codes "ok") s r t u) one ∙ ap (parts_tree (codes "ok") (codes "one_for_one") r t) same

sound : (t : Tree) (cs : List ChildSpec) → children_of t ≡ Some cs → IsSupervision t cs
unfolding children_of
sound t cs e =
    let p = given_is (parts_of t) _ cs e in
    let fits = when_is (bytes_eq p.0.0 (codes "ok") && bytes_eq p.0.1.0.0 (codes "one_for_one")) _ cs p.2 in
    let both = and_parts (bytes_eq p.0.0 (codes "ok")) (bytes_eq p.0.1.0.0 (codes "one_for_one")) fits.0 in
    let read = given_is (rows_of child_of (tree p.0.1.1)) _ cs fits.1 in
    let inside = given_is (list_of (tree p.0.1.1)) (all_of child_of) read.0 read.1 in
    let said = ((pairs atoms (pairs (triples atoms terms terms) terms)).is t p.0 p.1).0 in
    let head = (bytes_eq-Decides p.0.0 (codes "ok")).0 both.0 in
    let strategy = (bytes_eq-Decides p.0.1.0.0 (codes "one_for_one")).0 both.1 in
    let children = list_is (tree p.0.1.1) inside.0 inside.1 in
    let written = said ∙ parts_are p.0.0 p.0.1.0.0 (tree p.0.1.0.1) (tree p.0.1.0.2) (tree p.0.1.1) inside.0 head strategy children in
    choice (IsSupervision t) (are_distinct read.0) read.0 None cs (λ distinct. record {
      r = tree p.0.1.0.1;
      t = tree p.0.1.0.2;
      children = inside.0;
      written = written;
      are = children_are inside.0 read.0 inside.2;
      distinct = distinct_is read.0 distinct;
    }) (none_some cs) read.2

complete : (t : Tree) (cs : List ChildSpec) → IsSupervision t cs → children_of t ≡ Some cs
unfolding children_of
complete t cs is =
    ap children_of is.written ∙ ap (λ o. given o (λ found. if are_distinct found then Some found else None)) (children_back is.children cs is.are) ∙ ap (λ b. if b then Some cs else None) (distinct_back cs is.distinct)

pub table : SupervisionTable
table = record { sound = sound; complete = complete }
