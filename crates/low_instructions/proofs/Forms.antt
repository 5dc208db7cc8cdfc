-- What is read as an instruction is written in one of its forms, and each form of an instruction is read as it.
use Rattle.std.proofs.Common.{◌≡◌, ℕ, true, false, List, [], ◌∷◌, Option, Some, option_map, refl, sym, ap, subst, ◌∙◌, inl, inr}
use Rattle.std.specs.Prelude.{codes}
use Rattle.erl_term.specs.Accessors.{atom_of, list_of, one_of, tuple_of, all_of}
use Rattle.erl_term.specs.Conversions.{given, rows_of}
use Rattle.erl_term.specs.Tree.{Tree, Trees, atom, tuple, list, none, more}
use Rattle.release_words.specs.Reading.{alone_of, leading_of, named, word_of}
use Rattle.release_words.specs.Words.{form}
use Rattle.release_words.proofs.Parts.{atom_is, either_is, given_is, list_is, map_is, one_is, tuple_is}
use Rattle.release_words.proofs.Tables.{Reads, OfEach, alone_is, atoms, leading_is, lists, named_is, result_table, triples}
use Rattle.release_words.proofs.Words.{names, purges, versions}
use Rattle.low_instructions.specs.declared.low.Low.{Low}
use Rattle.low_instructions.specs.declared.low.Low.TheVariants.{LoadObjectCode, PointOfNoReturn, Load, Remove, Purge, Suspend, Resume, CodeChange, Stop, Start, Apply}
use Rattle.low_instructions.specs.declared.modules.Direction.TheVariants.{Up}
use Rattle.low_instructions.specs.Forms.{IsLow, printed, undirected, suspending, low_tree, direction_tree, is_out_of_profile}
use Rattle.low_instructions.specs.Laws.{is_low, LowTable}
use Rattle.low_instructions.specs.Reading.{change_of, code_change_of, direction_of, lone_forms, low_forms, low_in, low_of, low_result, suspension_of}
use Rattle.low_instructions.proofs.ModuleParts.{all_printed_back, changes, directions, suspensions_are, suspensions_back}

-- an instruction, in one of its forms
abbrev Is : Tree → Low → Type 0
Is t l = IsLow t l × (is_low l ≡ true)

-- what stands behind a name, in its place
behind : (head : List ℕ) (ts us : Trees) (l : Low) → ts ≡ us → Is (tuple (more (atom head) us)) l → Is (tuple (more (atom head) ts)) l
behind head ts us l are is = subst (λ r. Is (tuple (more (atom head) r)) l) (sym are) is

-- of a name with one value behind it
one_is_low : {A : Type 0} {read : Tree → Option A} {write : A → Tree} {Holds : A → Type 0} → Reads read write Holds → (head : List ℕ) (make : A → Low) → ((a : A) → Holds a → Is (form head (write a ∷ [])) (make a)) → (ts : Trees) (l : Low) → option_map make (alone_of read ts) ≡ Some l → Is (tuple (more (atom head) ts)) l
one_is_low {read = read} reads head make formed ts l e =
    let a = map_is make (alone_of read ts) l e in
    let found = alone_is reads ts a.0 a.1 in
    subst (Is (tuple (more (atom head) ts))) a.2 (behind head ts _ (make a.0) found.0 (formed a.0 found.1))

suspend_is : (ts : Trees) (l : Low) → option_map Suspend (alone_of (rows_of suspension_of) ts) ≡ Some l → Is (tuple (more (atom (codes "suspend")) ts)) l
suspend_is ts l e =
    let modules = map_is Suspend (alone_of (rows_of suspension_of) ts) l e in
    let one = given_is (one_of ts) (rows_of suspension_of) modules.0 modules.1 in
    let inside = given_is (list_of one.0) (all_of suspension_of) modules.0 one.2 in
    let found = suspensions_are inside.0 modules.0 inside.2 in
    subst (Is _) modules.2 (behind (codes "suspend") ts _ (Suspend modules.0) (one_is ts one.0 one.1 ∙ ap (λ t. more t none) (list_is one.0 inside.0 inside.1 ∙ ap list found.are)) (suspending found.forms refl (ap Suspend found.mean), found.fine))

code_change_is : (ts : Trees) (l : Low) → code_change_of ts ≡ Some l → Is (tuple (more (atom (codes "code_change")) ts)) l
unfolding code_change_of
code_change_is ts l e =
    elim (either_is (option_map (CodeChange Up) (alone_of (rows_of change_of) ts)) _ l e) [
      | inl up ↦ one_is_low changes (codes "code_change") (CodeChange Up) (λ cs holds. (undirected cs refl refl, refl)) ts l up
      | inr said ↦
          let p = given_is (leading_of direction_of ts) _ l said in
          let way = leading_is directions ts p.0 p.1 in
          let cs = map_is (CodeChange p.0.0) (alone_of (rows_of change_of) p.0.1) l p.2 in
          let found = alone_is changes p.0.1 cs.0 cs.1 in
          subst (Is _) cs.2 (behind (codes "code_change") ts _ (CodeChange p.0.0 cs.0) (way.0 ∙ ap (λ us. more (direction_tree p.0.0) us) found.0) (printed refl, refl))
    ]

-- the instructions of a name
abbrev AllAre : List ℕ → (Trees → Option Low) → Type 0
AllAre head read = (ts : Trees) (l : Low) → read ts ≡ Some l → Is (tuple (more (atom head) ts)) l

forms_are : OfEach AllAre low_forms
forms_are = (
  one_is_low (triples atoms versions names) _ (λ p. LoadObjectCode p.0 p.1 p.2) (λ p holds. (printed refl, holds.1)),
  (
    one_is_low (triples atoms purges purges) _ (λ p. Load p.0 p.1 p.2) (λ p holds. (printed refl, refl)),
    (
      one_is_low (triples atoms purges purges) _ (λ p. Remove p.0 p.1 p.2) (λ p holds. (printed refl, refl)),
      (
        code_change_is,
        (
          one_is_low (triples atoms atoms lists) _ (λ p. Apply p.0 p.1 p.2) (λ p holds. (printed refl, refl)),
          (
            one_is_low names _ Purge (λ ms holds. (printed refl, refl)),
            (
              suspend_is,
              (
                one_is_low names _ Resume (λ ms holds. (printed refl, refl)),
                (
                  one_is_low names _ Stop (λ ms holds. (printed refl, refl)),
                  (one_is_low names _ Start (λ ms holds. (printed refl, refl)), tt),
                ),
              ),
            ),
          ),
        ),
      ),
    ),
  ),
)

in_is : (ts : Trees) (l : Low) → low_in ts ≡ Some l → Is (tuple ts) l
in_is ts l e =
    let p = given_is (leading_of atom_of ts) _ l e in
    let read = given_is (named low_forms p.0.0) _ l p.2 in
    let found = named_is AllAre low_forms forms_are p.0.0 read.0 read.1 p.0.1 l read.2 in
    subst (λ us. Is (tuple us) l) (sym (leading_is atoms ts p.0 p.1).0) found

low_is : (t : Tree) (l : Low) → low_of t ≡ Some l → Is t l
unfolding low_of
low_is t l e =
    elim (either_is (word_of lone_forms t) (given (tuple_of t) low_in) l e) [
      | inl word ↦
          let name = given_is (atom_of t) (named lone_forms) l word in
          subst (λ u. Is u l) (sym (atom_is t name.0 name.1)) (named_is (λ cs l. Is (atom cs) l) lone_forms ((printed refl, refl), tt) name.0 l name.2)
      | inr row ↦
          let ts = given_is (tuple_of t) low_in l row in
          subst (λ u. Is u l) (sym (tuple_is t ts.0 ts.1)) (in_is ts.0 l ts.2)
    ]

-- and back

printed_back : (l : Low) → is_low l ≡ true → low_of (low_tree l) ≡ Some l
unfolding low_of code_change_of
printed_back (LoadObjectCode application version modules) fine = rw (versions.back version fine, names.back modules tt) refl
printed_back PointOfNoReturn fine = refl
printed_back (Load name pre post) fine = rw (purges.back pre tt, purges.back post tt) refl
printed_back (Remove name pre post) fine = rw (purges.back pre tt, purges.back post tt) refl
printed_back (Purge modules) fine = rw (names.back modules tt) refl
printed_back (Suspend modules) fine = rw (all_printed_back modules fine) refl
printed_back (Resume modules) fine = rw (names.back modules tt) refl
printed_back (CodeChange direction cs) fine = rw (directions.back direction tt, changes.back cs tt) refl
printed_back (Stop modules) fine = rw (names.back modules tt) refl
printed_back (Start modules) fine = rw (names.back modules tt) refl
printed_back (Apply name function arguments) fine = refl

-- no instruction is one that is out of the profile
printed_within : (l : Low) → is_out_of_profile (low_tree l) ≡ false
printed_within (LoadObjectCode application version modules) = refl
printed_within PointOfNoReturn = refl
printed_within (Load name pre post) = refl
printed_within (Remove name pre post) = refl
printed_within (Purge modules) = refl
printed_within (Suspend modules) = refl
printed_within (Resume modules) = refl
printed_within (CodeChange direction cs) = refl
printed_within (Stop modules) = refl
printed_within (Start modules) = refl
printed_within (Apply name function arguments) = refl

form_back : (t : Tree) (l : Low) → is_low l ≡ true → IsLow t l → (is_out_of_profile t ≡ false) × (low_of t ≡ Some l)
unfolding low_of code_change_of
form_back t l fine (printed is) = (ap is_out_of_profile is ∙ printed_within l, ap low_of is ∙ printed_back l fine)
form_back t l fine (undirected cs is means) =
    (ap is_out_of_profile is, ap low_of is ∙ rw (changes.back cs tt) refl ∙ ap Some (sym means))
form_back t l fine (suspending modules is means) =
    (ap is_out_of_profile is, ap low_of is ∙ rw (suspensions_back modules (ap is_low (sym means) ∙ fine)) refl ∙ ap Some (sym means))

pub table : LowTable
unfolding low_result
table = result_table is_out_of_profile low_of low_is (λ t out. out) (λ t out. out) form_back
