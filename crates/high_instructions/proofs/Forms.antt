-- What is read as an instruction is written in one of its forms, and each form of an instruction is read as it.
use Rattle.std.proofs.Common.{◌≡◌, true, [], ◌∷◌, Option, Some, None, option_map, refl, sym, ap, subst, ◌∙◌, inl, inr}
use Rattle.std.specs.Prelude.{codes}
use Rattle.erl_term.specs.Accessors.{atom_of, tuple_of}
use Rattle.erl_term.specs.Conversions.{given, row}
use Rattle.erl_term.specs.Tree.{Tree, Trees, atom, tuple, none, more}
use Rattle.release_words.specs.declared.purge.Purge.{Purge}
use Rattle.release_words.specs.declared.purge.Purge.TheVariants.{Brutal}
use Rattle.release_words.specs.declared.start_type.StartType.TheVariants.{Permanent}
use Rattle.release_words.specs.declared.timeout.Timeout.{Timeout}
use Rattle.release_words.specs.declared.timeout.Timeout.TheVariants.{Default}
use Rattle.release_words.specs.Reading.{alone_of, leading_of, named, start_type_of, timeout_of}
use Rattle.release_words.specs.Words.{is_timeout, names_tree, purge_tree, timeout_tree}
use Rattle.release_words.proofs.Parts.{either_is, given_is, map_is, none_some, tuple_is}
use Rattle.release_words.proofs.Tables.{OfEach, alone_is, atoms, named_is}
use Rattle.release_words.proofs.Words.{names, purges, start_types, timeouts}
use Rattle.high_instructions.specs.declared.high.ApplicationWork.{ApplicationWork}
use Rattle.high_instructions.specs.declared.high.ApplicationWork.TheVariants as works
use Rattle.high_instructions.specs.declared.high.High.{High}
use Rattle.high_instructions.specs.declared.high.ModuleWork.{ModuleWork}
use Rattle.high_instructions.specs.declared.high.ModuleWork.TheVariants.{Update, Load, Add, Delete}
use Rattle.high_instructions.specs.declared.words.Change.{Change}
use Rattle.high_instructions.specs.declared.words.Change.TheVariants.{Soft}
use Rattle.high_instructions.specs.declared.words.ModuleType.{ModuleType}
use Rattle.high_instructions.specs.declared.words.ModuleType.TheVariants.{Dynamic}
use Rattle.high_instructions.specs.Forms.{Name, Names, IsHigh, on, onto, change_tree, module_type_tree}
use Rattle.high_instructions.specs.Forms.{update, update_by, update_behind, update_by_behind, update_purging, update_timed, update_whole, update_supervisor, load, load_behind, load_purging, add, add_behind, delete, delete_behind, add_application, add_typed, remove, restart}
use Rattle.high_instructions.specs.Laws.{is_high, HighReads, HighTable}
use Rattle.high_instructions.specs.Reading.{add_application_of, application_forms, bare_of, change_of, changed_of, dependencies_of, headed_of, high_in, high_of, load_of, loaded_of, module_forms, module_type_of, purged_of, supervisor_of, timed_of, typed_of, update_of}
use Rattle.high_instructions.proofs.Parts.{bare_is, by_dependencies, by_leading, by_loaded, by_purges, by_supervisor, change_no_names, change_no_supervisor, changes, module_types, timeout_no_change, type_no_change, type_no_timeout}

-- an instruction, in one of its forms
abbrev Is : Tree → High → Type 0
Is t h = IsHigh t h × (is_high h ≡ true)

-- `{head,name,..}`
abbrev headed : Name → Name → Trees → Tree
headed head name ts = tuple (more (atom head) (more (atom name) ts))

-- On modules

abbrev IsOn : Name → Trees → ModuleWork × Names → Type 0
IsOn head ts w = (m : Name) → Is (headed head m ts) (on m w.0 w.1)

abbrev AllAreOn : Name → (Trees → Option (ModuleWork × Names)) → Type 0
AllAreOn head read = (ts : Trees) (w : ModuleWork × Names) → read ts ≡ Some w → IsOn head ts w

-- of the terms of an update, each in its place
abbrev IsUpdate : Trees → ModuleWork × Names → Type 0
IsUpdate ts w = IsOn (codes "update") ts w

changed_is : (ts : Trees) (w : ModuleWork × Names) → changed_of ts ≡ Some w → IsUpdate ts w
unfolding changed_of
changed_is ts w e =
    let p = given_is (leading_of change_of ts) _ w e in
    let l = map_is _ (loaded_of p.0.1) w p.2 in
    let c = p.0.0 in
    subst (IsUpdate ts) l.2 (by_leading changes (λ us. IsUpdate us (Update Dynamic Default c l.0.0 l.0.1, l.0.2)) ts p.0 p.1 (λ holds.
    by_loaded (λ us l. IsUpdate (more (change_tree c) us) (Update Dynamic Default c l.0 l.1, l.2))
    (λ m. (update_by m c refl refl, refl)) (λ ms m. (update_by_behind m c ms refl refl, refl))
    (λ pre post ms m. (update_purging m c pre post ms refl refl, refl)) p.0.1 l.0 l.1))

-- of a timeout and what stands behind it
by_timed : (type : ModuleType) (P : Trees → ModuleWork × Names → Type 0) → ((o : Timeout) (c : Change) (pre post : Purge) (ms : Names) → is_timeout o ≡ true → P (row (timeout_tree o ∷ change_tree c ∷ purge_tree pre ∷ purge_tree post ∷ names_tree ms ∷ [])) (Update type o c pre post, ms)) → (ts : Trees) (w : ModuleWork × Names) → timed_of type ts ≡ Some w → P ts w
unfolding timed_of
by_timed type P formed ts w e =
    let p = given_is (leading_of timeout_of ts) _ w e in
    let q = given_is (leading_of change_of p.0.1) _ w p.2 in
    let l = map_is _ (purged_of q.0.1) w q.2 in
    let o = p.0.0 in
    let c = q.0.0 in
    subst (P ts) l.2 (by_leading timeouts (λ us. P us (Update type o c l.0.0 l.0.1, l.0.2)) ts p.0 p.1 (λ above.
    by_leading changes (λ us. P (more (timeout_tree o) us) (Update type o c l.0.0 l.0.1, l.0.2)) p.0.1 q.0 q.1 (λ holds.
    by_purges (λ us l. P (more (timeout_tree o) (more (change_tree c) us)) (Update type o c l.0 l.1, l.2))
    (λ pre post ms. formed o c pre post ms above) q.0.1 l.0 l.1)))

typed_is : (ts : Trees) (w : ModuleWork × Names) → typed_of ts ≡ Some w → IsUpdate ts w
unfolding typed_of
typed_is ts w e =
    let p = given_is (leading_of module_type_of ts) _ w e in
    let type = p.0.0 in
    by_leading module_types (λ us. IsUpdate us w) ts p.0 p.1 (λ holds.
    by_timed type (λ us w. IsUpdate (more (module_type_tree type) us) w)
    (λ o c pre post ms above m. (update_whole m type o c pre post ms refl refl, above)) p.0.1 w p.2)

update_is : AllAreOn (codes "update") (λ ts. update_of ts)
unfolding update_of
update_is ts w e =
    elim (either_is (option_map _ (dependencies_of ts)) _ w e) [
      | inl alone ↦
          let ms = map_is _ (dependencies_of ts) w alone in
          subst (IsUpdate ts) ms.2 (by_dependencies (λ us ms. IsUpdate us (Update Dynamic Default Soft Brutal Brutal, ms))
          (λ m. (update m refl refl, refl)) (λ ms m. (update_behind m ms refl refl, refl)) ts ms.0 ms.1)
      | inr more_terms ↦ elim (either_is (supervisor_of ts) _ w more_terms) [
        | inl supervisor ↦ by_supervisor IsUpdate (λ m. (update_supervisor m refl refl, refl)) ts w supervisor
        | inr words ↦ elim (either_is (changed_of ts) _ w words) [
          | inl changed ↦ changed_is ts w changed
          | inr timed_or_typed ↦ elim (either_is (timed_of Dynamic ts) (typed_of ts) w timed_or_typed) [
            | inl timed ↦
                by_timed Dynamic IsUpdate (λ o c pre post ms above m. (update_timed m o c pre post ms refl refl, above)) ts w timed
            | inr typed ↦ typed_is ts w typed
          ]
        ]
      ]
    ]

load_is : AllAreOn (codes "load_module") (λ ts. load_of ts)
unfolding load_of
load_is ts w e =
    let l = map_is _ (loaded_of ts) w e in
    subst (IsOn (codes "load_module") ts) l.2 (by_loaded (λ us l. IsOn (codes "load_module") us (Load l.0 l.1, l.2))
    (λ m. (load m refl refl, refl)) (λ ms m. (load_behind m ms refl refl, refl))
    (λ pre post ms m. (load_purging m pre post ms refl refl, refl)) ts l.0 l.1)

dependent_is : (head : Name) (work : ModuleWork) → IsOn head none (work, []) → ((ms : Names) → IsOn head (row (names_tree ms ∷ [])) (work, ms)) → AllAreOn head (λ ts. option_map (λ ms. (work, ms)) (dependencies_of ts))
dependent_is head work nothing behind ts w e =
    let ms = map_is _ (dependencies_of ts) w e in
    subst (IsOn head ts) ms.2 (by_dependencies (λ us ms. IsOn head us (work, ms)) nothing behind ts ms.0 ms.1)

modules_are : OfEach AllAreOn module_forms
modules_are = (
  update_is,
  (
    load_is,
    (
      dependent_is (codes "add_module") Add (λ m. (add m refl refl, refl)) (λ ms m. (add_behind m ms refl refl, refl)),
      (dependent_is (codes "delete_module") Delete (λ m. (delete m refl refl, refl)) (λ ms m. (delete_behind m ms refl refl, refl)), tt),
    ),
  ),
)

-- On applications

abbrev IsOnto : Name → Trees → ApplicationWork → Type 0
IsOnto head ts w = (a : Name) → Is (headed head a ts) (onto a w)

abbrev AllAreOnto : Name → (Trees → Option ApplicationWork) → Type 0
AllAreOnto head read = (ts : Trees) (w : ApplicationWork) → read ts ≡ Some w → IsOnto head ts w

bare_onto : (head : Name) (work : ApplicationWork) → IsOnto head none work → AllAreOnto head (λ ts. bare_of work ts)
bare_onto head work formed ts w e =
    let found = bare_is work ts w e in
    subst (λ us. IsOnto head us w) (sym found.0) (subst (IsOnto head none) found.1 formed)

add_application_is : AllAreOnto (codes "add_application") (λ ts. add_application_of ts)
unfolding add_application_of
add_application_is ts w e =
    elim (either_is (option_map works.Add (bare_of Permanent ts)) _ w e) [
      | inl untyped ↦
          let type = map_is works.Add (bare_of Permanent ts) w untyped in
          let found = bare_is Permanent ts type.0 type.1 in
          subst (IsOnto (codes "add_application") ts) (ap works.Add found.1 ∙ type.2) (subst (λ us. IsOnto (codes "add_application") us (works.Add Permanent)) (sym found.0) (λ a. (add_application a refl refl, refl)))
      | inr typed ↦
          let type = map_is works.Add (alone_of start_type_of ts) w typed in
          let found = alone_is start_types ts type.0 type.1 in
          subst (IsOnto (codes "add_application") ts) type.2 (subst (λ us. IsOnto (codes "add_application") us (works.Add type.0)) (sym found.0) (λ a. (add_typed a type.0 refl refl, refl)))
    ]

applications_are : OfEach AllAreOnto application_forms
applications_are = (
  add_application_is,
  (
    bare_onto (codes "remove_application") works.Remove (λ a. (remove a refl refl, refl)),
    (bare_onto (codes "restart_application") works.Restart (λ a. (restart a refl refl, refl)), tt),
  ),
)

-- Instructions

headed_is : (head name : Name) (ts : Trees) (h : High) → headed_of head name ts ≡ Some h → Is (headed head name ts) h
headed_is head name ts h e =
    elim (either_is (option_map _ (given (named module_forms head) (λ read. read ts))) _ h e) [
      | inl on_module ↦
          let w = map_is _ (given (named module_forms head) (λ read. read ts)) h on_module in
          let read = given_is (named module_forms head) _ w.0 w.1 in
          subst (Is _) w.2 (named_is AllAreOn module_forms modules_are head read.0 read.1 ts w.0 read.2 name)
      | inr application ↦
          let w = map_is _ (given (named application_forms head) (λ read. read ts)) h application in
          let read = given_is (named application_forms head) _ w.0 w.1 in
          subst (Is _) w.2 (named_is AllAreOnto application_forms applications_are head read.0 read.1 ts w.0 read.2 name)
    ]

high_is : (t : Tree) (h : High) → high_of t ≡ Some h → Is t h
unfolding high_of
high_is t h e =
    let ts = given_is (tuple_of t) high_in h e in
    let head = given_is (leading_of atom_of ts.0) _ h ts.2 in
    let name = given_is (leading_of atom_of head.0.1) _ h head.2 in
    subst (λ u. Is u h) (sym (tuple_is t ts.0 ts.1)) (by_leading atoms (λ us. Is (tuple us) h) ts.0 head.0 head.1 (λ holds.
    by_leading atoms (λ us. Is (tuple (more (atom head.0.0) us)) h) head.0.1 name.0 name.1 (λ holds.
    headed_is head.0.0 name.0.0 name.0.1 h name.2)))

-- and back

formed : (t u : Tree) (h i : High) → t ≡ u → h ≡ i → high_of u ≡ Some i → high_of t ≡ Some h
formed t u h i is means back = ap high_of is ∙ back ∙ ap Some (sym means)

form_back : (t : Tree) (h : High) → is_high h ≡ true → IsHigh t h → high_of t ≡ Some h
unfolding high_of update_of supervisor_of changed_of timed_of typed_of load_of loaded_of purged_of dependencies_of add_application_of
form_back t h fine (update m is means) = formed t _ h _ is means refl
form_back t h fine (update_by m c is means) =
    formed t _ h _ is means (rw (change_no_names c, change_no_supervisor c, changes.back c tt) refl)
form_back t h fine (update_behind m ms is means) = formed t _ h _ is means (rw (names.back ms tt) refl)
form_back t h fine (update_by_behind m c ms is means) =
    formed t _ h _ is means (rw (changes.back c tt, names.back ms tt) refl)
form_back t h fine (update_purging m c pre post ms is means) =
    formed t _ h _ is means (rw (changes.back c tt, purges.back pre tt, purges.back post tt, names.back ms tt) refl)
form_back t h fine (update_timed m o c pre post ms is means) =
    formed t _ h _ is means (rw (timeout_no_change o, timeouts.back o (ap is_high (sym means) ∙ fine), changes.back c tt, purges.back pre tt, purges.back post tt, names.back ms tt) refl)
form_back t h fine (update_whole m type o c pre post ms is means) =
    formed t _ h _ is means (rw (type_no_change type, type_no_timeout type, module_types.back type tt, timeouts.back o (ap is_high (sym means) ∙ fine), changes.back c tt, purges.back pre tt, purges.back post tt, names.back ms tt) refl)
form_back t h fine (update_supervisor m is means) = formed t _ h _ is means refl
form_back t h fine (load m is means) = formed t _ h _ is means refl
form_back t h fine (load_behind m ms is means) = formed t _ h _ is means (rw (names.back ms tt) refl)
form_back t h fine (load_purging m pre post ms is means) =
    formed t _ h _ is means (rw (purges.back pre tt, purges.back post tt, names.back ms tt) refl)
form_back t h fine (add m is means) = formed t _ h _ is means refl
form_back t h fine (add_behind m ms is means) = formed t _ h _ is means (rw (names.back ms tt) refl)
form_back t h fine (delete m is means) = formed t _ h _ is means refl
form_back t h fine (delete_behind m ms is means) = formed t _ h _ is means (rw (names.back ms tt) refl)
form_back t h fine (add_application a is means) = formed t _ h _ is means refl
form_back t h fine (add_typed a type is means) = formed t _ h _ is means (rw (start_types.back type tt) refl)
form_back t h fine (remove a is means) = formed t _ h _ is means refl
form_back t h fine (restart a is means) = formed t _ h _ is means refl

judged : (t : Tree) (read : Option High) → high_of t ≡ read → HighReads t read
judged t (Some h) e = high_is t h e
judged t None e = λ h fine is. none_some h (sym e ∙ form_back t h fine is)

pub table : HighTable
table = record { sound = λ t. judged t (high_of t) refl; complete = form_back }
