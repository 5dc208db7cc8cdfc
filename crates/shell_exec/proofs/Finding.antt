-- Lemmas on what is looked for by a walk.
use Rattle.std.proofs.Common.{◌≡◌, ℕ, zero, suc, ◌<◌, Bool, true, false, List, [], ◌∷◌, length, get_or, Option, None, Some, refl, sym, ap, ◌∙◌, arith}
use Rattle.std.specs.Bool.{Decides}
use Rattle.std.specs.Cmp.{Equal-is, tied_itself}
use Rattle.std.specs.Str.{IsUtf8, bytes_eq, chars}
use lib.Utf8.{encodes}
use Rattle.std.proofs.lemmas.Slice.Eq.{bytes_eq-Decides}
use Rattle.std.proofs.lemmas.Str.{encodes-chars}
use Rattle.erl_term.specs.Accessors.{atom_of}
use Rattle.erl_term.specs.Order.{tree_cmp}
use Rattle.erl_term.specs.OrderLaws.{tree_cmp-same, tree_cmp-total}
use Rattle.erl_term.specs.Term.{tree}
use Rattle.erl_term.specs.Tree.{Tree, atom, int, list, pid, tuple}
use Rattle.erl_term.specs.declared.term.Term.TheVariants as term
use Rattle.std.specs.Prelude.{option_and_then, option_map, position, slice_get}
use Rattle.erl_term.specs.declared.term.Term.{Term}
use Rattle.process.proofs.Indices.{position_at, position_nowhere}
use Rattle.app_table.specs.Applications.{Application, app_of, child_at, child_of, has_id, has_name, index_of, spot_in}
use Rattle.shell_exec.specs.Done.{child_called, is_id}

-- Names.

same_bools : (b c : Bool) → (b ≡ true → c ≡ true) → (c ≡ true → b ≡ true) → b ≡ c
same_bools true true to back = refl
same_bools true false to back = sym (to refl)
same_bools false true to back = back refl
same_bools false false to back = refl

bytes_from_chars : (bs ds : List ℕ) → IsUtf8 bs → IsUtf8 ds → chars bs ≡ chars ds → bs ≡ ds
bytes_from_chars bs ds one other same = sym (encodes-chars bs one) ∙ ap encodes same ∙ encodes-chars ds other

-- texts are equal where their characters are
pub texts-spell : (bs ds name : List ℕ) → IsUtf8 bs → IsUtf8 ds → chars bs ≡ name → bytes_eq bs ds ≡ bytes_eq name (chars ds)
texts-spell bs ds name one other spelled =
    let texts = bytes_eq-Decides bs ds in
    let names = bytes_eq-Decides name (chars ds) in
    same_bools _ _ (λ yes. names.1 (sym spelled ∙ ap chars (texts.0 yes))) (λ yes. texts.1 (bytes_from_chars bs ds one other (spelled ∙ names.0 yes)))

id_Decides : (id t : Term) → Decides (is_id t id) (tree id ≡ tree t)
id_Decides id t =
    let tied = Equal-is (tree_cmp (tree id) (tree t)) in
    (λ yes. tree_cmp-same (tree id) (tree t) (tied.0 yes), λ e. tied.1 (ap (tree_cmp (tree id)) (sym e) ∙ tied_itself tree_cmp-total (tree id)))

atom_in : (t : Tree) (name : List ℕ) → atom_of t ≡ Some name → t ≡ atom name
atom_in (atom cs) name is = let same : cs ≡ name = cc in ap atom same
atom_in (int n) name is = absurd (let never : ⊥ = cc in never)
atom_in (pid n) name is = absurd (let never : ⊥ = cc in never)
atom_in (tuple ts) name is = absurd (let never : ⊥ = cc in never)
atom_in (list ts) name is = absurd (let never : ⊥ = cc in never)

-- an Id that is an atom is the one that is spelled just where the names are equal
pub id-spells : (id : Term) (name cs : List ℕ) → atom_of (tree id) ≡ Some name → bytes_eq name cs ≡ is_id (term.Atom cs) id
id-spells id name cs is =
    let here = atom_in (tree id) name is in
    let names = bytes_eq-Decides name cs in
    let ids = id_Decides id (term.Atom cs) in
    same_bools _ _ (λ yes. ids.1 (here ∙ ap atom (names.0 yes))) (λ yes. names.1 (let same : name ≡ cs = (let both : atom name ≡ atom cs = sym here ∙ ids.0 yes in cc) in same))

pub id-other : (id : Term) (cs : List ℕ) → atom_of (tree id) ≡ None → false ≡ is_id (term.Atom cs) id
id-other id cs is =
    let ids = id_Decides id (term.Atom cs) in
    same_bools _ _ (λ no. absurd (let never : ⊥ = cc in never)) (λ yes. absurd (let both : atom_of (tree id) ≡ Some cs = ap atom_of (ids.0 yes) in let never : ⊥ = cc in never))

module _ {A : Type 0} where
  inside : (xs : List A) (k : ℕ) (d : A) → k < length xs → slice_get xs k ≡ Some (get_or xs k d)
  inside [] k d below = absurd (omega (arith, below))
  inside (x ∷ xs) zero d below = refl
  inside (x ∷ xs) (suc k) d below = inside xs k d (omega (arith, below))

  within : (xs : List A) (k : ℕ) (x : A) → slice_get xs k ≡ Some x → (k < length xs) × (x ≡ get_or xs k x)
  within [] k x at = absurd (let never : ⊥ = cc in never)
  within (y ∷ ys) zero x at = let same : x ≡ y = cc in (omega arith, same)
  within (y ∷ ys) (suc k) x at = let rest = within ys k x at in (omega (arith, rest.0), rest.1)

  module _ (test : A → Bool) where
    -- of those before an index none passes
    abbrev pub NonePasses : ℕ → List A → Type 0
    NonePasses n xs = (k : ℕ) (x : A) → k < n → slice_get xs k ≡ Some x → test x ≡ false

    pub nowhere : (xs : List A) → NonePasses (length xs) xs → position test xs ≡ None
    nowhere xs none = position_nowhere test xs (λ k d below. none k (get_or xs k d) below (inside xs k d below))

    pub first : (xs : List A) (n : ℕ) (x : A) → NonePasses n xs → slice_get xs n ≡ Some x → test x ≡ true → position test xs ≡ Some n
    first xs n x none at passes =
        let here = within xs n x at in
        position_at test xs n x here.0 here.1 (λ k d below. none k (get_or xs k d) below (inside xs k d (omega (arith, below, here.0)))) passes

-- Applications.

pub no_app : (name : List ℕ) (apps : List Application) → NonePasses (has_name name) (length apps) apps → app_of name apps ≡ None
no_app name apps none = ap (λ o. option_and_then (slice_get apps) o) (nowhere (has_name name) apps none)

pub app_found : (name : List ℕ) (apps : List Application) (index : ℕ) (a : Application) → NonePasses (has_name name) index apps → slice_get apps index ≡ Some a → has_name name a ≡ true → app_of name apps ≡ Some a
app_found name apps index a none at passes =
    ap (λ o. option_and_then (slice_get apps) o) (first (has_name name) apps index a none at passes) ∙ at

-- Children.

module _ (id : Term) (apps : List Application) where
  by_index : (a : Application) (p : ℕ) → slice_get apps p ≡ Some a → option_and_then (λ spot. child_at spot apps) (spot_in (has_id id) p apps) ≡ child_called id a.children
  by_index a p at =
      go (option_and_then (λ (b : Application). position (has_id id) b.children) (slice_get apps p)) ∙ ap (λ o. option_and_then (slice_get a.children) (option_and_then (λ (b : Application). position (has_id id) b.children) o)) at
    where
      go : (o : Option ℕ) → option_and_then (λ spot. child_at spot apps) (option_map (λ child. record { app = p; child = child }) o) ≡ option_and_then (slice_get a.children) o
      go None = refl
      go (Some k) = ap (λ o. option_and_then (λ (b : Application). slice_get b.children k) o) at

  in_app : (a : Application) (o : Option ℕ) → option_and_then (slice_get apps) o ≡ Some a → option_and_then (λ spot. child_at spot apps) (option_and_then (λ app. spot_in (has_id id) app apps) o) ≡ child_called id a.children
  in_app a None is = absurd (let never : ⊥ = cc in never)
  in_app a (Some p) is = by_index a p is

  in_none : (o : Option ℕ) → option_and_then (slice_get apps) o ≡ None → option_and_then (λ spot. child_at spot apps) (option_and_then (λ app. spot_in (has_id id) app apps) o) ≡ None
  in_none None is = refl
  in_none (Some p) is =
      ap (λ o. option_and_then (λ spot. child_at spot apps) (option_map (λ child. record { app = p; child = child }) (option_and_then (λ (b : Application). position (has_id id) b.children) o))) is

pub child_in : (name : List ℕ) (id : Term) (apps : List Application) (a : Application) → app_of name apps ≡ Some a → child_of name id apps ≡ child_called id a.children
child_in name id apps a is = in_app id apps a (index_of name apps) is

pub no_child : (name : List ℕ) (id : Term) (apps : List Application) → app_of name apps ≡ None → child_of name id apps ≡ None
no_child name id apps is = in_none id apps (index_of name apps) is
