-- What a term is read as, step by step: words of private contracts alone.
use Rattle.std.specs.Prelude.{ℕ, ◌+◌, Bool, true, false, ◌||◌, if◌then◌else◌, List, [], ◌∷◌, codes, Option, Some, None}
use Rattle.std.specs.Prelude.{Result, Ok, Err, ⊤, option_map, ok_or}
use Rattle.std.specs.Str.{bytes_eq}
use Rattle.erl_term.specs.declared.term.Term.{Term}
use Rattle.erl_term.specs.Tree.{Tree, Trees, none, more, count}
use Rattle.erl_term.specs.Term.{term_of}
use Rattle.erl_term.specs.Conversions.{given, pair_of, rows_of, triple_of}
use Rattle.erl_term.specs.Accessors.{atom_of, tuple_of, list_of, first_of, one_of, two_of, three_of, four_of, all_of, string_of}
use Rattle.release_words.specs.declared.fault.InstructionFault.{InstructionFault}
use Rattle.release_words.specs.declared.fault.InstructionFault.TheVariants.{Bad, OutOfProfile as Excluded}
use Rattle.release_words.specs.Reading.{either_of, version_of, start_type_of}
use Rattle.release_words.specs.declared.start_type.StartType.TheVariants.{Permanent}
use Rattle.otp_files.specs.declared.error.FileError.{FileError}
use Rattle.otp_files.specs.declared.error.FileError.TheVariants.{Shape, DuplicateKey, BadInstruction, OutOfProfile}
use Rattle.otp_files.specs.declared.app.AppSpec.{AppSpec}
use Rattle.otp_files.specs.declared.app.StartModule.{StartModule}
use Rattle.otp_files.specs.declared.app.used.Used.{Used}
use Rattle.otp_files.specs.declared.rel.RelSpec.{RelSpec}
use Rattle.otp_files.specs.declared.applications.RelApp.{RelApp}
use Rattle.otp_files.specs.declared.upgrade.Entry.{Entry}
use Rattle.otp_files.specs.declared.upgrade.Upgrades.{Upgrades}
use Rattle.otp_files.specs.declared.upgrade.drafts.Draft.{Draft}
use Rattle.otp_files.specs.Apps.{Property, values_of}
use Rattle.otp_files.specs.Distinct.{are_distinct, app_names}
use Rattle.otp_files.specs.Upgrades.{saturated}

abbrev pub after : {A B : Type 0} → Result A FileError → (A → Result B FileError) → Result B FileError
after (Ok x) f = f x
after (Err e) f = Err e

-- an element of the outer tuple, or that it is wrong
abbrev pub element : {A : Type 0} → ℕ → Option A → Result A FileError
element k o = ok_or o (Shape k)

-- an atom of the notation's own
abbrev pub word_of : List ℕ → Tree → Option ⊤
word_of cs t = given (atom_of t) (λ ds. if bytes_eq ds cs then Some tt else None)

-- .app

abbrev pub property_of : Tree → Option Property
property_of = pair_of atom_of (λ value. Some value)

-- `{M,Args}`
abbrev pub start_pair_of : Tree → Option (Option StartModule)
start_pair_of t =
    option_map (λ p. Some (record { name = p.0; arguments = p.1 })) (pair_of atom_of (λ u. Some (term_of u)) t)

-- `[]`
abbrev pub no_start_of : Trees → Option (Option StartModule)
no_start_of none = Some None
no_start_of (more t ts) = None

abbrev pub start_of : Tree → Option (Option StartModule)
start_of t = either_of (start_pair_of t) (given (list_of t) no_start_of)

abbrev pub used_in : List Property → Option Used
used_in ps =
    given (all_of version_of (values_of (codes "vsn") ps)) (λ versions.
    given (all_of (rows_of atom_of) (values_of (codes "modules") ps)) (λ modules.
    given (all_of (rows_of atom_of) (values_of (codes "applications") ps)) (λ applications.
    option_map (λ starts. record { versions = versions; modules = modules; applications = applications; starts = starts })
    (all_of start_of (values_of (codes "mod") ps)))))

abbrev pub first_in : {A : Type 0} → List A → Option A
first_in [] = None
first_in (x ∷ xs) = Some x

-- with a version
abbrev pub versioned : Used → Option Used
versioned used = option_map (λ vsn. used) (first_in used.versions)

abbrev pub used_of : Tree → Option Used
used_of t = given (given (rows_of property_of t) used_in) versioned

abbrev pub is_repeated : {A : Type 0} → List A → Bool
is_repeated [] = false
is_repeated (x ∷ []) = false
is_repeated (x ∷ (y ∷ ys)) = true

abbrev pub has_duplicate : Used → Bool
has_duplicate used = is_repeated used.versions ||
    (is_repeated used.modules || (is_repeated used.applications || is_repeated used.starts))

-- the first, or a default
abbrev pub only : {A : Type 0} → A → List A → A
only default [] = default
only default (x ∷ xs) = x

abbrev pub app_with : List ℕ → Used → Result AppSpec FileError
app_with name used =
    after (element 3 (first_in used.versions)) (λ vsn.
    if has_duplicate used then Err DuplicateKey
    else Ok (record {
      name = name;
      vsn = vsn;
      modules = only [] used.modules;
      applications = only [] used.applications;
      start = only None used.starts;
    }))

unfoldable pub app_of : Tree → Result AppSpec FileError
app_of t =
    after (element 0 (given (tuple_of t) three_of)) (λ p.
    after (element 1 (word_of (codes "application") p.0)) (λ word.
    after (element 2 (atom_of p.1)) (λ name.
    after (element 3 (used_of p.2)) (λ used. app_with name used))))

-- .rel

-- `{Name,Vsn}`
abbrev pub title_of : Tree → Option (List ℕ × List ℕ)
title_of = pair_of string_of version_of

-- `{erts,EVsn}`
abbrev pub erts_of : Tree → Option (List ℕ)
erts_of t = given (given (tuple_of t) two_of) (λ p. given (word_of (codes "erts") p.0) (λ word. version_of p.1))

-- behind `App,Vsn`: nothing, Type, IncApps, or Type and IncApps
abbrev pub plain_of : List ℕ → List ℕ → Trees → Option RelApp
plain_of a v none = Some (record { name = a; vsn = v; start_type = Permanent; included = None })
plain_of a v (more t ts) = None

abbrev pub typed_of : List ℕ → List ℕ → Trees → Option RelApp
typed_of a v ts =
    given (one_of ts) (λ t. option_map (λ type. record { name = a; vsn = v; start_type = type; included = None })
    (start_type_of t))

abbrev pub including_of : List ℕ → List ℕ → Trees → Option RelApp
including_of a v ts =
    given (one_of ts) (λ t. option_map (λ names. record {
      name = a;
      vsn = v;
      start_type = Permanent;
      included = Some names;
    }) (rows_of atom_of t))

abbrev pub typed_including_of : List ℕ → List ℕ → Trees → Option RelApp
typed_including_of a v ts =
    given (two_of ts) (λ p. given (start_type_of p.0)
    (λ type. option_map (λ names. record { name = a; vsn = v; start_type = type; included = Some names }) (rows_of atom_of p.1)))

abbrev pub rel_app_with : List ℕ → List ℕ → Trees → Option RelApp
rel_app_with a v ts = either_of (plain_of a v ts)
    (either_of (typed_of a v ts) (either_of (including_of a v ts) (typed_including_of a v ts)))

abbrev pub rel_app_of : Tree → Option RelApp
rel_app_of t =
    given (tuple_of t) (λ ts. given (first_of ts)
    (λ p. given (atom_of p.0) (λ a. given (first_of p.1) (λ q. given (version_of q.0) (λ v. rel_app_with a v q.1)))))

-- no application twice
abbrev pub distinct_of : List RelApp → Option (List RelApp)
distinct_of apps = if are_distinct (app_names apps) then Some apps else None

abbrev pub rel_apps_of : Tree → Option (List RelApp)
rel_apps_of t = given (rows_of rel_app_of t) distinct_of

unfoldable pub rel_of : Tree → Result RelSpec FileError
rel_of t =
    after (element 0 (given (tuple_of t) four_of)) (λ p.
    after (element 1 (word_of (codes "release") p.0)) (λ word.
    after (element 2 (title_of p.1)) (λ title.
    after (element 3 (erts_of p.2)) (λ erts.
    after (element 4 (rel_apps_of p.3)) (λ apps.
    Ok (record { name = title.0; vsn = title.1; erts = erts; apps = apps }))))))

-- Instructions

abbrev pub fault_at : ℕ → InstructionFault → FileError
fault_at n Bad = BadInstruction (saturated n)
fault_at n Excluded = OutOfProfile (saturated n)

abbrev pub numbered : {A : Type 0} → ℕ → Result A InstructionFault → Result A FileError
numbered n (Ok i) = Ok i
numbered n (Err fault) = Err (fault_at n fault)

-- the instructions of a row, the first of which has the number n
abbrev pub script_from : {A : Type 0} → (Tree → Result A InstructionFault) → ℕ → Trees → Result (List A) FileError
script_from read n none = Ok []
script_from read n (more t ts) = after (numbered n (read t)) (λ i. after (script_from read (n + 1) ts) (λ is'. Ok (i ∷ is')))

-- Appups and relups

abbrev pub appup_draft_of : Tree → Option (Draft ⊤)
appup_draft_of t =
    option_map (λ p. record { vsn = p.0; description = tt; instructions = p.1 }) (pair_of version_of list_of t)

abbrev pub relup_draft_of : Tree → Option (Draft Term)
relup_draft_of t =
    option_map (λ p. record { vsn = p.0; description = p.1; instructions = p.2 })
    (triple_of version_of (λ u. Some (term_of u)) list_of t)

abbrev pub entry_of : {D I : Type 0} → (Tree → Result I InstructionFault) → ℕ → Draft D → Result (Entry D I) FileError
entry_of read n d =
    after (script_from read n d.instructions)
    (λ script. Ok (record { vsn = d.vsn; description = d.description; instructions = script }))

abbrev pub entries_from : {D I : Type 0} → (Tree → Result I InstructionFault) → ℕ → List (Draft D) →
    Result (List (Entry D I)) FileError
entries_from read n [] = Ok []
entries_from read n (d ∷ ds) =
    after (entry_of read n d) (λ e. after (entries_from read (n + count d.instructions) ds) (λ es. Ok (e ∷ es)))

-- how many instructions there are
abbrev pub count_in : {D : Type 0} → List (Draft D) → ℕ
count_in [] = 0
count_in (d ∷ ds) = count d.instructions + count_in ds

abbrev pub upgrades_with : {D I : Type 0} → (Tree → Result I InstructionFault) → List ℕ → List (Draft D) → List (Draft D) →
    Result (Upgrades D I) FileError
upgrades_with read vsn ups downs =
    after (entries_from read 0 ups) (λ up.
    after (entries_from read (count_in ups) downs) (λ down. Ok (record { vsn = vsn; up = up; down = down })))

unfoldable pub upgrades_of : {D I : Type 0} → (Tree → Option (Draft D)) → (Tree → Result I InstructionFault) → Tree →
    Result (Upgrades D I) FileError
upgrades_of draft read t =
    after (element 0 (given (tuple_of t) three_of)) (λ p.
    after (element 1 (version_of p.0)) (λ vsn.
    after (element 2 (rows_of draft p.1)) (λ ups.
    after (element 3 (rows_of draft p.2)) (λ downs. upgrades_with read vsn ups downs))))
