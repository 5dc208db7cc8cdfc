-- Application resource files: a term says one, or is refused.
use Rattle.std.proofs.Common.{◌≡◌, ◌⊎◌, ℕ, ◌≤◌, Bool, true, false, List, [], ◌∷◌, length, Option, Some, None, option_map, Result, Ok, Err, refl, sym, ap, subst, ◌∙◌, inl, inr, true≢false, arith}
use Rattle.std.specs.Prelude.{codes, if◌then◌else◌, ◌||◌}
use Rattle.std.proofs.lemmas.Option.{same_Some}
use Rattle.erl_term.specs.Accessors.{all_of, atom_of, list_of}
use Rattle.erl_term.specs.Conversions.{given, pair_of, rows_of}
use Rattle.erl_term.specs.Term.{term_of}
use Rattle.erl_term.specs.Tree.{Tree, Trees, list, more, none}
use Rattle.release_words.specs.Reading.{either_of, version_of}
use Rattle.release_words.proofs.Parts.{either_is, given_is, list_is, map_is, none_some}
use Rattle.otp_files.specs.declared.app.AppSpec.{AppSpec}
use Rattle.otp_files.specs.declared.app.StartModule.{StartModule}
use Rattle.otp_files.specs.declared.app.used.Used.{Used}
use Rattle.otp_files.specs.declared.error.FileError.{FileError}
use Rattle.otp_files.specs.declared.error.FileError.TheVariants.{DuplicateKey}
use Rattle.otp_files.specs.Apps.{AppRefused, AreProperties, HasAppParts, IsApp, IsOnly, IsProperty, IsStart, StandsTwice, misshapen, twice, values_of}
use Rattle.otp_files.specs.Parts.{IsAny, IsListOf, IsName, IsPair, IsVersion, IsWord}
use Rattle.otp_files.specs.Reading.{after, app_of, app_with, element, first_in, has_duplicate, is_repeated, no_start_of, only, property_of, start_of, start_pair_of, used_in, used_of, versioned, word_of}
use Rattle.otp_files.proofs.Sayings.{Reads, any_reads, each_back, each_found, name_reads, pair_reads, rows_reads, value_reads, version_reads, word_reads}
use Rattle.otp_files.proofs.Scripts.{Judges}
use Rattle.otp_files.proofs.Shapes.{three_done, three_judged, three_misshapen}

-- Properties

property_reads : Reads property_of IsProperty
property_reads = pair_reads atom_of (λ value. Some value) IsName (λ t value. t ≡ value) name_reads value_reads

names_reads : Reads (rows_of atom_of) (IsListOf IsName)
names_reads = rows_reads atom_of IsName name_reads

no_start_is : (ts : Trees) (s : Option StartModule) → no_start_of ts ≡ Some s → (ts ≡ none) × (None ≡ s)
no_start_is none s e = (refl, same_Some None s e)
no_start_is (more t ts) s e = none_some s e

start_reads : Reads start_of IsStart
start_reads = record { found = found; back = back }
  where
    pairs : Reads (pair_of atom_of (λ u. Some (term_of u))) (IsPair IsName IsAny)
    pairs = pair_reads atom_of (λ u. Some (term_of u)) IsName IsAny name_reads any_reads

    found : (t : Tree) (s : Option StartModule) → start_of t ≡ Some s → IsStart t s
    found t s e =
        elim (either_is (start_pair_of t) (given (list_of t) no_start_of) s e) [
          | inl pair ↦
              let p = map_is _ (pair_of atom_of (λ u. Some (term_of u)) t) s pair in
              subst (IsStart t) p.2 (pairs.found t p.0 p.1)
          | inr empty ↦
              let ts = given_is (list_of t) no_start_of s empty in
              let nothing = no_start_is ts.0 s ts.2 in
              subst (IsStart t) nothing.1 (list_is t ts.0 ts.1 ∙ ap list nothing.0)
        ]

    back : (t : Tree) (s : Option StartModule) → IsStart t s → start_of t ≡ Some s
    back t (Some start) is =
        ap (λ o. either_of (option_map (λ p. Some (record { name = p.0; arguments = p.1 })) o) (given (list_of t) no_start_of)) (pairs.back t (start.name, start.arguments) is)
    back t None is = ap start_of is

-- What stands under the keys that are used

version_first : {A : Type 0} (xs : List A) (u v : Used) → option_map (λ x. u) (first_in xs) ≡ Some v → (u ≡ v) × (1 ≤ length xs)
version_first [] u v e = none_some v e
version_first (x ∷ xs) u v e = (same_Some u v e, omega arith)

versioned_back : (u : Used) → 1 ≤ length u.versions → versioned u ≡ Some u
versioned_back u stands = by u.versions refl stands
  where
    by : (xs : List (List ℕ)) → u.versions ≡ xs → 1 ≤ length xs → option_map (λ x. u) (first_in xs) ≡ Some u
    by [] are stands = absurd (omega (arith, stands))
    by (x ∷ xs) are stands = refl

abbrev made : Option (List (List ℕ)) → Option (List (List (List ℕ))) → Option (List (List (List ℕ))) → Option (List (Option StartModule)) → Option Used
made o p q r =
    given {B = Used} o (λ versions. given {B = Used} p (λ modules. given {B = Used} q (λ applications. option_map {U = Used} (λ starts. record { versions = versions; modules = modules; applications = applications; starts = starts }) r)))

used_reads : Reads used_of AreProperties
used_reads = record { found = found; back = back }
  where
    found : (t : Tree) (used : Used) → used_of t ≡ Some used → AreProperties t used
    found t used e =
        let v = given_is (given (rows_of property_of t) used_in) versioned used e in
        let ps = given_is (rows_of property_of t) used_in v.0 v.1 in
        let with_version = version_first v.0.versions v.0 used v.2 in
        let versions = given_is (all_of version_of (values_of (codes "vsn") ps.0)) _ v.0 ps.2 in
        let modules = given_is (all_of (rows_of atom_of) (values_of (codes "modules") ps.0)) _ v.0 versions.2 in
        let applications = given_is (all_of (rows_of atom_of) (values_of (codes "applications") ps.0)) _ v.0 modules.2 in
        let starts = map_is _ (all_of start_of (values_of (codes "mod") ps.0)) v.0 applications.2 in
        let same = starts.2 ∙ with_version.0 in
        let stands : 1 ≤ length versions.0 = subst (λ (u : Used). 1 ≤ length u.versions) (sym starts.2) with_version.1 in
        subst (AreProperties t) same (record {
          properties = ps.0;
          is = (rows_reads property_of IsProperty property_reads).found t ps.0 ps.1;
          versions = each_found version_of IsVersion version_reads _ versions.0 versions.1;
          modules = each_found (rows_of atom_of) (IsListOf IsName) names_reads _ modules.0 modules.1;
          applications = each_found (rows_of atom_of) (IsListOf IsName) names_reads _ applications.0 applications.1;
          starts = each_found start_of IsStart start_reads _ starts.0 starts.1;
          stands = stands;
        })

    in_parts : (o : Option (List (List ℕ))) (p q : Option (List (List (List ℕ)))) (r : Option (List (Option StartModule))) (u : Used) → o ≡ Some u.versions → p ≡ Some u.modules → q ≡ Some u.applications → r ≡ Some u.starts → made o p q r ≡ Some u
    in_parts o p q r u one two three four =
        ap (λ x. made x p q r) one ∙ ap (λ x. made (Some u.versions) x q r) two ∙ ap (λ x. made (Some u.versions) (Some u.modules) x r) three ∙ ap (λ x. made (Some u.versions) (Some u.modules) (Some u.applications) x) four

    back : (t : Tree) (used : Used) → AreProperties t used → used_of t ≡ Some used
    back t used are =
        ap (λ o. given (given o used_in) versioned) ((rows_reads property_of IsProperty property_reads).back t are.properties are.is) ∙ ap (λ o. given o versioned) (in_parts _ _ _ _ used (each_back version_of IsVersion version_reads _ used.versions are.versions) (each_back (rows_of atom_of) (IsListOf IsName) names_reads _ used.modules are.modules) (each_back (rows_of atom_of) (IsListOf IsName) names_reads _ used.applications are.applications) (each_back start_of IsStart start_reads _ used.starts are.starts)) ∙ versioned_back used are.stands

-- Keys that stand twice, and those that don't

repeated : {A : Type 0} (xs : List A) → is_repeated xs ≡ true → 2 ≤ length xs
repeated [] e = absurd (true≢false (sym e))
repeated (x ∷ []) e = absurd (true≢false (sym e))
repeated (x ∷ (y ∷ ys)) e = omega arith

is_many : {A : Type 0} (xs : List A) → 2 ≤ length xs → is_repeated xs ≡ true
is_many [] many = absurd (omega (arith, many))
is_many (x ∷ []) many = absurd (omega (arith, many))
is_many (x ∷ (y ∷ ys)) many = refl

is_only : {A : Type 0} (default : A) (xs : List A) → is_repeated xs ≡ false → IsOnly default xs (only default xs)
is_only default [] e = inr (refl, refl)
is_only default (x ∷ []) e = inl refl
is_only default (x ∷ (y ∷ ys)) e = absurd (true≢false e)

pub record Single {A : Type 0} (default : A) (xs : List A) (x : A) : Type 0 where
  pub once : is_repeated xs ≡ false
  pub is : only default xs ≡ x

single : {A : Type 0} (default : A) (xs : List A) (x : A) → IsOnly default xs x → Single default xs x
single default xs x (inl are) = record { once = ap is_repeated are; is = ap (only default) are }
single default xs x (inr both) = record { once = ap is_repeated both.0; is = ap (only default) both.0 ∙ sym both.1 }

one_of_four : (a b c d : Bool) (P : Type 0) → (a ≡ true → P) → (b ≡ true → P) → (c ≡ true → P) → (d ≡ true → P) → (a || (b || (c || d))) ≡ true → P
one_of_four true b c d P p q r s e = p refl
one_of_four false true c d P p q r s e = q refl
one_of_four false false true d P p q r s e = r refl
one_of_four false false false d P p q r s e = s e

twice_found : (u : Used) → has_duplicate u ≡ true → StandsTwice u
twice_found u =
    one_of_four (is_repeated u.versions) (is_repeated u.modules) (is_repeated u.applications) (is_repeated u.starts) (StandsTwice u) (λ e. inl (repeated u.versions e)) (λ e. inr (inl (repeated u.modules e))) (λ e. inr (inr (inl (repeated u.applications e)))) (λ e. inr (inr (inr (repeated u.starts e))))

any_of_four : (a b c d : Bool) → (a ≡ true) ⊎ ((b ≡ true) ⊎ ((c ≡ true) ⊎ (d ≡ true))) → (a || (b || (c || d))) ≡ true
any_of_four true b c d e = refl
any_of_four false true c d e = refl
any_of_four false false true d e = refl
any_of_four false false false true e = refl
any_of_four false false false false (inl e) = e
any_of_four false false false false (inr (inl e)) = e
any_of_four false false false false (inr (inr (inl e))) = e
any_of_four false false false false (inr (inr (inr e))) = e

twice_told : (u : Used) → StandsTwice u → has_duplicate u ≡ true
twice_told u stands = any_of_four (is_repeated u.versions) (is_repeated u.modules) (is_repeated u.applications) (is_repeated u.starts) (by stands)
  where
    by : StandsTwice u → (is_repeated u.versions ≡ true) ⊎ ((is_repeated u.modules ≡ true) ⊎ ((is_repeated u.applications ≡ true) ⊎ (is_repeated u.starts ≡ true)))
    by (inl m) = inl (is_many u.versions m)
    by (inr (inl m)) = inr (inl (is_many u.modules m))
    by (inr (inr (inl m))) = inr (inr (inl (is_many u.applications m)))
    by (inr (inr (inr m))) = inr (inr (inr (is_many u.starts m)))

none_of_four : (a b c d : Bool) → a ≡ false → b ≡ false → c ≡ false → d ≡ false → (a || (b || (c || d))) ≡ false
none_of_four a b c d p q r s =
    ap (λ x. x || (b || (c || d))) p ∙ ap (λ x. x || (c || d)) q ∙ ap (λ x. x || d) r ∙ s

all_false : (a b c d : Bool) → (a || (b || (c || d))) ≡ false → (a ≡ false) × (b ≡ false) × (c ≡ false) × (d ≡ false)
all_false true b c d e = absurd (true≢false e)
all_false false true c d e = absurd (true≢false e)
all_false false false true d e = absurd (true≢false e)
all_false false false false d e = (refl, refl, refl, e)

-- Files

abbrev pub app_from : List ℕ → List ℕ → Used → AppSpec
app_from name vsn u =
    record { name = name; vsn = vsn; modules = only [] u.modules; applications = only [] u.applications; start = only None u.starts }

one_version : (xs : List (List ℕ)) (vsn : List ℕ) → first_in xs ≡ Some vsn → is_repeated xs ≡ false → xs ≡ vsn ∷ []
one_version [] vsn e once = none_some vsn e
one_version (x ∷ []) vsn e once = ap (λ y. y ∷ []) (same_Some x vsn e)
one_version (x ∷ (y ∷ ys)) vsn e once = absurd (true≢false once)

pub app_judged : (t : Tree) → Judges (IsApp t) (AppRefused t) (app_of t)
unfolding app_of
app_judged t =
    three_judged (word_of (codes "application")) atom_of used_of (IsWord (codes "application")) IsName AreProperties (λ word name used. app_with name used) P t (word_reads (codes "application")) name_reads used_reads (λ n wrong. misshapen n wrong refl) (λ word name used parts. made name used parts (first_in used.versions) refl (has_duplicate used) refl)
  where
    P : Result AppSpec FileError → Type 0
    P r = Judges (IsApp t) (AppRefused t) r

    made : (name : List ℕ) (used : Used) → HasAppParts t name used → (o : Option (List ℕ)) → first_in used.versions ≡ o → (b : Bool) → has_duplicate used ≡ b → P (after (element 3 o) (λ vsn. if b then Err DuplicateKey else Ok (app_from name vsn used)))
    made name used parts None none_first b is_b = absurd (never used.versions none_first parts.c.stands)
      where
        never : (xs : List (List ℕ)) → first_in xs ≡ None → 1 ≤ length xs → ⊥
        never [] e stands = omega (arith, stands)
        never (x ∷ xs) e stands = none_some x (sym e)
    made name used parts (Some vsn) is_first true is_b = twice name used parts (twice_found used is_b) refl
    made name used parts (Some vsn) is_first false is_b =
        let single = all_false _ _ _ _ is_b in
        record {
          used = used;
          parts = parts;
          vsn = one_version used.versions vsn is_first single.0;
          modules = is_only [] used.modules single.1;
          applications = is_only [] used.applications single.2;
          start = is_only None used.starts single.3;
        }

pub app_done : (t : Tree) (app : AppSpec) → IsApp t app → app_of t ≡ Ok app
unfolding app_of
app_done t app is =
    let u = is.used in
    let modules = single [] u.modules app.modules is.modules in
    let applications = single [] u.applications app.applications is.applications in
    let start = single None u.starts app.start is.start in
    let once : has_duplicate u ≡ false = none_of_four _ _ _ _ (ap is_repeated is.vsn) modules.once applications.once start.once in
    let twice' : Result AppSpec FileError = Err DuplicateKey in
    three_done (word_of (codes "application")) atom_of used_of (IsWord (codes "application")) IsName AreProperties (λ word name used. app_with name used) t (word_reads (codes "application")) name_reads used_reads tt app.name u is.parts ∙ ap (λ vs. after (element 3 (first_in vs)) (λ vsn. if has_duplicate u then twice' else Ok (app_from app.name vsn u))) is.vsn ∙ ap (λ b. if b then twice' else Ok (app_from app.name app.vsn u)) once ∙ ap (λ x. Ok (record { name = app.name; vsn = app.vsn; modules = x; applications = only [] u.applications; start = only None u.starts })) modules.is ∙ ap (λ x. Ok (record { name = app.name; vsn = app.vsn; modules = app.modules; applications = x; start = only None u.starts })) applications.is ∙ ap (λ x. Ok (record { name = app.name; vsn = app.vsn; modules = app.modules; applications = app.applications; start = x })) start.is

pub app_refused : (t : Tree) (f : FileError) → AppRefused t f → app_of t ≡ Err f
unfolding app_of
app_refused t f (misshapen n wrong is) =
    three_misshapen (word_of (codes "application")) atom_of used_of (IsWord (codes "application")) IsName AreProperties (λ word name used. app_with name used) t (word_reads (codes "application")) name_reads used_reads n wrong ∙ ap Err (sym is)
app_refused t f (twice name used parts stands is) =
    three_done (word_of (codes "application")) atom_of used_of (IsWord (codes "application")) IsName AreProperties (λ word name used. app_with name used) t (word_reads (codes "application")) name_reads used_reads tt name used parts ∙ by (first_in used.versions) refl ∙ ap Err (sym is)
  where
    by : (o : Option (List ℕ)) → first_in used.versions ≡ o → after (element 3 (first_in used.versions)) (λ vsn. if has_duplicate used then Err DuplicateKey else Ok (app_from name vsn used)) ≡ Err DuplicateKey
    by None e = absurd (let found = ap (λ o. option_map (λ x. used) o) (sym e) ∙ versioned_back used parts.c.stands in none_some used found)
    by (Some vsn) e =
        ap (λ o. after (element 3 o) (λ vsn. if has_duplicate used then Err DuplicateKey else Ok (app_from name vsn used))) e ∙ ap (λ b. if b then Err DuplicateKey else Ok (app_from name vsn used)) (twice_told used stands)
