-- High-level instructions as they are read: one line a form.
use Rattle.std.specs.Prelude.{ℕ, if◌then◌else◌, List, [], ◌∷◌, codes, Option, Some, None, option_map}
use Rattle.std.specs.Str.{bytes_eq}
use Rattle.erl_term.specs.Accessors.{atom_of, first_of, tuple_of}
use Rattle.erl_term.specs.Conversions.{given, pair_of}
use Rattle.erl_term.specs.Term.{term_of}
use Rattle.erl_term.specs.Tree.{Tree, Trees}
use Rattle.release_words.specs.declared.purge.Purge.{Purge}
use Rattle.release_words.specs.declared.purge.Purge.TheVariants.{Brutal}
use Rattle.release_words.specs.declared.start_type.StartType.TheVariants.{Permanent}
use Rattle.release_words.specs.declared.timeout.Timeout.TheVariants.{Default}
use Rattle.release_words.specs.Reading.{alone_of, either_of, leading_of, named, names_of, purge_of, start_type_of, timeout_of}
use Rattle.release_words.specs.Reading.{word_of}
use Rattle.high_instructions.specs.declared.high.ApplicationWork.{ApplicationWork}
use Rattle.high_instructions.specs.declared.high.ApplicationWork.TheVariants as works
use Rattle.high_instructions.specs.declared.high.High.{High}
use Rattle.high_instructions.specs.declared.high.ModuleWork.{ModuleWork}
use Rattle.high_instructions.specs.declared.high.ModuleWork.TheVariants.{Update, Load, Add, Delete}
use Rattle.high_instructions.specs.declared.words.Change.{Change}
use Rattle.high_instructions.specs.declared.words.Change.TheVariants.{Soft, Advanced}
use Rattle.high_instructions.specs.declared.words.ModuleType.{ModuleType}
use Rattle.high_instructions.specs.declared.words.ModuleType.TheVariants.{Static, Dynamic}
use Rattle.high_instructions.specs.Forms.{Name, Names, empty_list, on, onto}

-- Words

abbrev pub module_type_words : List (List ℕ × ModuleType)
module_type_words = (codes "static", Static) ∷ (codes "dynamic", Dynamic) ∷ []

unfoldable pub module_type_of : Tree → Option ModuleType
module_type_of t = word_of module_type_words t

abbrev pub change_words : List (List ℕ × Change)
change_words = (codes "soft", Soft) ∷ []

-- `soft` or `{advanced,Extra}`
unfoldable pub change_of : Tree → Option Change
change_of t =
    either_of (word_of change_words t) (given (pair_of atom_of (λ u. Some (term_of u)) t)
    (λ p. if bytes_eq p.0 (codes "advanced") then Some (Advanced p.1) else None))

-- What stands behind an instruction's first element and its module or application

-- a value where nothing is left
abbrev pub where_none : {A : Type 0} → A → Option (Tree × Trees) → Option A
where_none x None = Some x
where_none x (Some p) = None

abbrev pub bare_of : {A : Type 0} → A → Trees → Option A
bare_of x ts = where_none x (first_of ts)

-- nothing or `DepMods`
unfoldable pub dependencies_of : Trees → Option Names
dependencies_of ts = either_of (bare_of [] ts) (alone_of names_of ts)

-- `Pre,Post,DepMods`
unfoldable pub purged_of : Trees → Option (Purge × Purge × Names)
purged_of ts =
    given (leading_of purge_of ts) (λ p. given (leading_of purge_of p.1)
    (λ q. option_map (λ ms. (p.0, q.0, ms)) (alone_of names_of q.1)))

-- nothing, `DepMods`, or `Pre,Post,DepMods`
unfoldable pub loaded_of : Trees → Option (Purge × Purge × Names)
loaded_of ts = either_of (option_map (λ ms. (Brutal, Brutal, ms)) (dependencies_of ts)) (purged_of ts)

-- `Change`, and nothing, `DepMods`, or `Pre,Post,DepMods`
unfoldable pub changed_of : Trees → Option (ModuleWork × Names)
changed_of ts =
    given (leading_of change_of ts) (λ p. option_map (λ l. (Update Dynamic Default p.0 l.0 l.1, l.2)) (loaded_of p.1))

-- `Timeout,Change,Pre,Post,DepMods`, with a kind of module from before
unfoldable pub timed_of : ModuleType → Trees → Option (ModuleWork × Names)
timed_of type ts =
    given (leading_of timeout_of ts) (λ p. given (leading_of change_of p.1)
    (λ q. option_map (λ l. (Update type p.0 q.0 l.0 l.1, l.2)) (purged_of q.1)))

-- `ModType,Timeout,Change,Pre,Post,DepMods`
unfoldable pub typed_of : Trees → Option (ModuleWork × Names)
typed_of ts = given (leading_of module_type_of ts) (λ p. timed_of p.0 p.1)

abbrev pub supervisor_words : List (List ℕ × ModuleWork)
supervisor_words = (codes "supervisor", Update Static Default (Advanced empty_list) Brutal Brutal) ∷ []

-- `supervisor` alone
unfoldable pub supervisor_of : Trees → Option (ModuleWork × Names)
supervisor_of ts = option_map (λ work. (work, [])) (alone_of (word_of supervisor_words) ts)

unfoldable pub update_of : Trees → Option (ModuleWork × Names)
update_of ts =
    either_of (option_map (λ ms. (Update Dynamic Default Soft Brutal Brutal, ms)) (dependencies_of ts))
    (either_of (supervisor_of ts) (either_of (changed_of ts) (either_of (timed_of Dynamic ts) (typed_of ts))))

unfoldable pub load_of : Trees → Option (ModuleWork × Names)
load_of ts = option_map (λ l. (Load l.0 l.1, l.2)) (loaded_of ts)

unfoldable pub add_application_of : Trees → Option ApplicationWork
add_application_of ts =
    either_of (option_map works.Add (bare_of Permanent ts)) (option_map works.Add (alone_of start_type_of ts))

-- Instructions

abbrev pub module_forms : List (List ℕ × (Trees → Option (ModuleWork × Names)))
module_forms =
    (codes "update", λ ts. update_of ts) ∷ (codes "load_module", λ ts. load_of ts) ∷
    (codes "add_module", λ ts. option_map (λ ms. (Add, ms)) (dependencies_of ts)) ∷
    (codes "delete_module", λ ts. option_map (λ ms. (Delete, ms)) (dependencies_of ts)) ∷ []

abbrev pub application_forms : List (List ℕ × (Trees → Option ApplicationWork))
application_forms =
    (codes "add_application", λ ts. add_application_of ts) ∷
    (codes "remove_application", λ ts. bare_of works.Remove ts) ∷
    (codes "restart_application", λ ts. bare_of works.Restart ts) ∷ []

abbrev pub headed_of : Name → Name → Trees → Option High
headed_of head name ts =
    either_of (option_map (λ w. on name w.0 w.1) (given (named module_forms head) (λ read. read ts)))
    (option_map (λ w. onto name w) (given (named application_forms head) (λ read. read ts)))

abbrev pub high_in : Trees → Option High
high_in ts = given (leading_of atom_of ts) (λ p. given (leading_of atom_of p.1) (λ q. headed_of p.0 q.0 q.1))

-- the instruction that a term is, if it is one
unfoldable pub high_of : Tree → Option High
high_of t = given (tuple_of t) high_in
