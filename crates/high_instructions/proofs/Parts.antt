-- The words of high-level instructions and what stands behind a name, written and read.
use Rattle.std.proofs.Common.{◌≡◌, [], ◌∷◌, Option, Some, None, option_map, refl, sym, ap, subst, ◌∙◌, inl, inr}
use Rattle.std.specs.Prelude.{codes}
use Rattle.std.specs.Str.{bytes_eq}
use Rattle.std.proofs.lemmas.Option.{same_Some}
use Rattle.std.proofs.lemmas.Slice.Eq.{bytes_eq-Decides}
use Rattle.erl_term.specs.Accessors.{atom_of, one_of}
use Rattle.erl_term.specs.Conversions.{pair_of, row}
use Rattle.erl_term.specs.Term.{tree, term_of, term_of-tree}
use Rattle.erl_term.specs.Tree.{Tree, Trees, atom, tuple, none, more}
use Rattle.release_words.specs.declared.purge.Purge.{Purge}
use Rattle.release_words.specs.declared.purge.Purge.TheVariants.{Brutal}
use Rattle.release_words.specs.declared.timeout.Timeout.{Timeout}
use Rattle.release_words.specs.declared.timeout.Timeout.TheVariants.{Default, Infinity, Finite}
use Rattle.release_words.specs.Reading.{alone_of, leading_of, names_of, purge_of, timeout_of, word_of}
use Rattle.release_words.specs.Words.{names_tree, purge_tree, timeout_tree, word}
use Rattle.release_words.proofs.Parts.{atom_is, choice, either_is, given_is, map_is, none_some, one_is}
use Rattle.release_words.proofs.Tables.{Reads, alone_is, atoms, leading_is, named_is, pairs, terms, words}
use Rattle.release_words.proofs.Words.{names, purges}
use Rattle.high_instructions.specs.declared.words.Change.{Change}
use Rattle.high_instructions.specs.declared.words.Change.TheVariants.{Soft, Advanced}
use Rattle.high_instructions.specs.declared.words.ModuleType.{ModuleType}
use Rattle.high_instructions.specs.declared.words.ModuleType.TheVariants.{Static, Dynamic}
use Rattle.high_instructions.specs.declared.high.ModuleWork.{ModuleWork}
use Rattle.high_instructions.specs.declared.high.ModuleWork.TheVariants.{Update}
use Rattle.high_instructions.specs.Forms.{Names, change_tree, empty_list, module_type_tree}
use Rattle.high_instructions.specs.Reading.{bare_of, change_of, change_words, dependencies_of, loaded_of, module_type_of, module_type_words, purged_of, supervisor_of, supervisor_words}

-- Words

module_type_back : (type : ModuleType) → word_of module_type_words (module_type_tree type) ≡ Some type
module_type_back Static = refl
module_type_back Dynamic = refl

pub module_types : Reads module_type_of module_type_tree (λ type. Unit {0})
unfolding module_type_of
module_types = words module_type_words module_type_tree (refl, (refl, tt)) module_type_back

change_is : (t : Tree) (c : Change) → change_of t ≡ Some c → (t ≡ change_tree c) × Unit {0}
unfolding change_of
change_is t c e =
    elim (either_is (word_of change_words t) _ c e) [
      | inl soft ↦
          let name = given_is (atom_of t) _ c soft in
          (atom_is t name.0 name.1 ∙ named_is (λ cs c. atom cs ≡ change_tree c) change_words (refl, tt) name.0 c name.2, tt)
      | inr advanced ↦
          let p = given_is (pair_of atom_of (λ u. Some (term_of u)) t) _ c advanced in
          let found = ((pairs atoms terms).is t p.0 p.1).0 in
          (choice (λ c. t ≡ change_tree c) (bytes_eq p.0.0 (codes "advanced")) (Advanced p.0.1) None c (λ same. found ∙ ap (λ cs. tuple (row (word cs ∷ tree p.0.1 ∷ []))) ((bytes_eq-Decides p.0.0 (codes "advanced")).0 same)) (none_some c) p.2, tt)
    ]

change_back : (c : Change) → Unit {0} → change_of (change_tree c) ≡ Some c
unfolding change_of
change_back Soft holds = refl
change_back (Advanced extra) holds = rw (term_of-tree extra) refl

pub changes : Reads change_of change_tree (λ c. Unit {0})
changes = record { is = change_is; back = change_back }

-- words that are no others

pub change_no_names : (c : Change) → names_of (change_tree c) ≡ None
change_no_names Soft = refl
change_no_names (Advanced extra) = refl

pub change_no_supervisor : (c : Change) → word_of supervisor_words (change_tree c) ≡ None
change_no_supervisor Soft = refl
change_no_supervisor (Advanced extra) = refl

pub timeout_no_change : (o : Timeout) → change_of (timeout_tree o) ≡ None
unfolding change_of
timeout_no_change Default = refl
timeout_no_change Infinity = refl
timeout_no_change (Finite n) = refl

pub type_no_change : (type : ModuleType) → change_of (module_type_tree type) ≡ None
unfolding change_of
type_no_change Static = refl
type_no_change Dynamic = refl

pub type_no_timeout : (type : ModuleType) → timeout_of (module_type_tree type) ≡ None
unfolding timeout_of
type_no_timeout Static = refl
type_no_timeout Dynamic = refl

-- What stands behind a name: what holds of each of its forms holds of what was read

pub bare_is : {A : Type 0} (x : A) (ts : Trees) (y : A) → bare_of x ts ≡ Some y → (ts ≡ none) × (x ≡ y)
bare_is x none y e = (refl, same_Some x y e)
bare_is x (more t ts) y e = none_some y e

pub by_dependencies : (P : Trees → Names → Type 0) → P none [] → ((ms : Names) → P (row (names_tree ms ∷ [])) ms) → (ts : Trees) (ms : Names) → dependencies_of ts ≡ Some ms → P ts ms
unfolding dependencies_of
by_dependencies P nothing behind ts ms e =
    elim (either_is (bare_of [] ts) (alone_of names_of ts) ms e) [
      | inl bare ↦
          let found = bare_is [] ts ms bare in
          subst (λ us. P us ms) (sym found.0) (subst (P none) found.1 nothing)
      | inr one ↦ subst (λ us. P us ms) (sym (alone_is names ts ms one).0) (behind ms)
    ]

pub by_supervisor : (P : Trees → ModuleWork × Names → Type 0) → P (row (word (codes "supervisor") ∷ [])) (Update Static Default (Advanced empty_list) Brutal Brutal, []) → (ts : Trees) (w : ModuleWork × Names) → supervisor_of ts ≡ Some w → P ts w
unfolding supervisor_of
by_supervisor P alone ts w e =
    let work = map_is _ (alone_of (word_of supervisor_words) ts) w e in
    let one = given_is (one_of ts) _ work.0 work.1 in
    let name = given_is (atom_of one.0) _ work.0 one.2 in
    let said : P (row (atom name.0 ∷ [])) (work.0, []) = named_is (λ cs v. P (row (atom cs ∷ [])) (v, [])) supervisor_words (alone, tt) name.0 work.0 name.2 in
    subst (P ts) work.2 (subst (λ us. P us (work.0, [])) (sym (one_is ts one.0 one.1 ∙ ap (λ t. more t none) (atom_is one.0 name.0 name.1))) said)

-- of a row that begins with a value
pub by_leading : {A : Type 0} {read : Tree → Option A} {write : A → Tree} {Holds : A → Type 0} → Reads read write Holds → (P : Trees → Type 0) (ts : Trees) (p : A × Trees) → leading_of read ts ≡ Some p → (Holds p.0 → P (more (write p.0) p.1)) → P ts
by_leading reads P ts p e then =
    let found = leading_is reads ts p e in
    subst P (sym found.0) (then found.1)

abbrev pub Loaded : Type 0
Loaded = Purge × Purge × Names

pub by_purges : (P : Trees → Loaded → Type 0) → ((pre post : Purge) (ms : Names) → P (row (purge_tree pre ∷ purge_tree post ∷ names_tree ms ∷ [])) (pre, post, ms)) → (ts : Trees) (l : Loaded) → purged_of ts ≡ Some l → P ts l
unfolding purged_of
by_purges P purging ts l e =
    let pre = given_is (leading_of purge_of ts) _ l e in
    let post = given_is (leading_of purge_of pre.0.1) _ l pre.2 in
    let ms = map_is _ (alone_of names_of post.0.1) l post.2 in
    subst (P ts) ms.2 (by_leading purges (λ us. P us (pre.0.0, post.0.0, ms.0)) ts pre.0 pre.1 (λ holds.
    by_leading purges (λ us. P (more (purge_tree pre.0.0) us) (pre.0.0, post.0.0, ms.0)) pre.0.1 post.0 post.1 (λ holds.
    subst (λ us. P (more (purge_tree pre.0.0) (more (purge_tree post.0.0) us)) (pre.0.0, post.0.0, ms.0)) (sym (alone_is names post.0.1 ms.0 ms.1).0) (purging pre.0.0 post.0.0 ms.0))))

pub by_loaded : (P : Trees → Loaded → Type 0) → P none (Brutal, Brutal, []) → ((ms : Names) → P (row (names_tree ms ∷ [])) (Brutal, Brutal, ms)) → ((pre post : Purge) (ms : Names) → P (row (purge_tree pre ∷ purge_tree post ∷ names_tree ms ∷ [])) (pre, post, ms)) → (ts : Trees) (l : Loaded) → loaded_of ts ≡ Some l → P ts l
unfolding loaded_of
by_loaded P nothing behind purging ts l e =
    elim (either_is (option_map _ (dependencies_of ts)) (purged_of ts) l e) [
      | inl alone ↦
          let ms = map_is _ (dependencies_of ts) l alone in
          subst (P ts) ms.2 (by_dependencies (λ us ms. P us (Brutal, Brutal, ms)) nothing behind ts ms.0 ms.1)
      | inr purged ↦ by_purges P purging ts l purged
    ]
