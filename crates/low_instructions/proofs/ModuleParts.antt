-- Modules with something of their own, written and read.
use Rattle.std.proofs.Common.{◌≡◌, ℕ, true, List, [], ◌∷◌, Some, option_map, refl, ap, subst, ◌∙◌, inl, inr}
use Rattle.std.specs.Prelude.{map}
use Rattle.std.specs.List.{list_all}
use Rattle.std.proofs.lemmas.Bool.{and_parts}
use Rattle.std.proofs.lemmas.Option.{same_Some}
use Rattle.erl_term.specs.Accessors.{atom_of, all_of}
use Rattle.erl_term.specs.Conversions.{pair_of, rows, rows_of}
use Rattle.erl_term.specs.Term.{term_of, term_of-tree}
use Rattle.erl_term.specs.Tree.{Tree, Trees, list, none, more}
use Rattle.release_words.specs.declared.timeout.Timeout.{Timeout}
use Rattle.release_words.specs.declared.timeout.Timeout.TheVariants.{Default, Infinity, Finite}
use Rattle.release_words.specs.Reading.{timeout_of, word_of}
use Rattle.release_words.specs.Words.{is_timeout}
use Rattle.release_words.proofs.Parts.{atom_is, both_true, either_is, given_is, map_is, next_back}
use Rattle.release_words.proofs.Tables.{Reads, atoms, pairs, row_reads, terms, words}
use Rattle.release_words.proofs.Words.{timeouts}
use Rattle.low_instructions.specs.declared.modules.Direction.{Direction}
use Rattle.low_instructions.specs.declared.modules.Direction.TheVariants.{Up, Down}
use Rattle.low_instructions.specs.declared.modules.ModuleChange.{ModuleChange}
use Rattle.low_instructions.specs.declared.modules.Suspension.{Suspension}
use Rattle.low_instructions.specs.Forms.{change_tree, direction_tree, SuspensionForm, plain, timed, suspension_form_tree, suspension_meant, suspension_tree, timed_tree}
use Rattle.low_instructions.specs.Laws.{is_suspension}
use Rattle.low_instructions.specs.Reading.{change_of, direction_of, direction_words, suspension_of}

-- Directions

direction_back : (d : Direction) → word_of direction_words (direction_tree d) ≡ Some d
direction_back Up = refl
direction_back Down = refl

pub directions : Reads direction_of direction_tree (λ d. Unit {0})
unfolding direction_of
directions = words direction_words direction_tree (refl, (refl, tt)) direction_back

-- Changes

change_is : (t : Tree) (c : ModuleChange) → change_of t ≡ Some c → (t ≡ change_tree c) × Unit {0}
unfolding change_of
change_is t c e =
    let parts = map_is _ (pair_of atom_of (λ u. Some (term_of u)) t) c e in
    (((pairs atoms terms).is t parts.0 parts.1).0 ∙ ap change_tree parts.2, tt)

change_back : (c : ModuleChange) → change_of (change_tree c) ≡ Some c
unfolding change_of
change_back c = rw (term_of-tree c.extra) refl

pub changes : Reads (rows_of change_of) (λ cs. list (rows change_tree cs)) (λ cs. Unit {0})
changes = row_reads (record { is = change_is; back = λ c holds. change_back c }) (λ c. tt)

-- Modules to suspend

abbrev IsSuspension : Tree → Suspension → Type 0
IsSuspension t s = (f : SuspensionForm) × (t ≡ suspension_form_tree f) × (s ≡ suspension_meant f) × (is_suspension s ≡ true)

suspension_is : (t : Tree) (s : Suspension) → suspension_of t ≡ Some s → IsSuspension t s
unfolding suspension_of
suspension_is t s e =
    elim (either_is _ (option_map _ (pair_of atom_of timeout_of t)) s e) [
      | inl alone ↦
          let name = map_is _ (atom_of t) s alone in
          subst (IsSuspension t) name.2 (plain name.0, atom_is t name.0 name.1, refl, refl)
      | inr both ↦
          let p = map_is _ (pair_of atom_of timeout_of t) s both in
          let found = (pairs atoms timeouts).is t p.0 p.1 in
          subst (IsSuspension t) p.2 (timed p.0.0 p.0.1, found.0, refl, found.1.1)
    ]

suspension_back : (f : SuspensionForm) → is_suspension (suspension_meant f) ≡ true → suspension_of (suspension_form_tree f) ≡ Some (suspension_meant f)
unfolding suspension_of
suspension_back (plain name) fine = refl
suspension_back (timed name timeout) fine = rw (timeouts.back timeout fine) refl

pub record AreSuspensions (ts : Trees) (ss : List Suspension) : Type 0 where
  pub forms : List SuspensionForm
  pub are : ts ≡ rows suspension_form_tree forms
  pub mean : ss ≡ map suspension_meant forms
  pub fine : list_all is_suspension ss ≡ true

pub suspensions_are : (ts : Trees) (ss : List Suspension) → all_of suspension_of ts ≡ Some ss → AreSuspensions ts ss
suspensions_are none ss e =
    subst (AreSuspensions none) (same_Some [] ss e) (record { forms = []; are = refl; mean = refl; fine = refl })
suspensions_are (more t ts) ss e =
    let first = given_is (suspension_of t) (λ a. option_map (λ as'. a ∷ as') (all_of suspension_of ts)) ss e in
    let others = map_is (λ as'. first.0 ∷ as') (all_of suspension_of ts) ss first.2 in
    let one = suspension_is t first.0 first.1 in
    let rest = suspensions_are ts others.0 others.1 in
    subst (AreSuspensions (more t ts)) others.2 (record {
      forms = one.0 ∷ rest.forms;
      are = ap (λ u. more u ts) one.1 ∙ ap (λ us. more (suspension_form_tree one.0) us) rest.are;
      mean = ap (λ s. s ∷ others.0) one.2 ∙ ap (λ us. suspension_meant one.0 ∷ us) rest.mean;
      fine = both_true (is_suspension first.0) (list_all is_suspension others.0) one.3 rest.fine;
    })

pub suspensions_back : (fs : List SuspensionForm) → list_all is_suspension (map suspension_meant fs) ≡ true → all_of suspension_of (rows suspension_form_tree fs) ≡ Some (map suspension_meant fs)
suspensions_back [] fine = refl
suspensions_back (f ∷ fs) fine =
    let both = and_parts (is_suspension (suspension_meant f)) (list_all is_suspension (map suspension_meant fs)) fine in
    next_back (suspension_of (suspension_form_tree f)) (all_of suspension_of (rows suspension_form_tree fs)) (suspension_meant f) (map suspension_meant fs) (suspension_back f both.0) (suspensions_back fs both.1)

-- as they are printed
printed_back : (name : List ℕ) (timeout : Timeout) → is_timeout timeout ≡ true → suspension_of (timed_tree name timeout) ≡ Some (record { name = name; timeout = timeout })
printed_back name Default fine = suspension_back (plain name) fine
printed_back name Infinity fine = suspension_back (timed name Infinity) fine
printed_back name (Finite n) fine = suspension_back (timed name (Finite n)) fine

pub all_printed_back : (ss : List Suspension) → list_all is_suspension ss ≡ true → all_of suspension_of (rows suspension_tree ss) ≡ Some ss
all_printed_back [] fine = refl
all_printed_back (s ∷ ss) fine =
    let both = and_parts (is_suspension s) (list_all is_suspension ss) fine in
    next_back (suspension_of (suspension_tree s)) (all_of suspension_of (rows suspension_tree ss)) s ss (printed_back s.name s.timeout both.0) (all_printed_back ss both.1)
