-- Release resource files: a term says one, or is refused.
use Rattle.std.proofs.Common.{◌≡◌, ℕ, pos, negsuc, true, List, [], ◌∷◌, length, Option, Some, None, option_map, Result, Ok, Err, refl, sym, ap, subst, ◌∙◌, inl, inr, arith}
use Rattle.std.specs.Prelude.{⊤, codes, if◌then◌else◌}
use Rattle.std.specs.List.{list_all}
use Rattle.std.proofs.lemmas.Bool.{and_parts}
use Rattle.std.proofs.lemmas.Option.{same_Some}
use Rattle.erl_term.specs.Accessors.{all_of, atom_of, char_of, first_of, four_of, list_of, one_of, string_of, three_of, tuple_of, two_of}
use Rattle.erl_term.specs.Conversions.{given, row, rows_of}
use Rattle.erl_term.specs.Rows.{integers}
use Rattle.erl_term.specs.Tree.{Tree, Trees, atom, int, list, more, none, pid, tuple}
use Rattle.release_words.specs.Reading.{either_of, version_of, start_type_of}
use Rattle.release_words.specs.Words.{is_version, names_tree, string_tree, start_type_tree}
use Rattle.release_words.proofs.Parts.{all_is, atom_is, choice, either_is, given_is, list_is, map_is, one_is, string_is, three_is, tuple_is, two_is, two_parts, both_true, none_some, all_back, next_back}
use Rattle.release_words.proofs.Words.{version_is}
use Rattle.release_words.proofs.Words.{version_back}
use Rattle.release_words.specs.declared.start_type.StartType.{StartType}
use Rattle.release_words.specs.declared.start_type.StartType.TheVariants.{Permanent}
use Rattle.release_words.proofs.Words.{start_types}
use Rattle.otp_files.specs.declared.applications.RelApp.{RelApp}
use Rattle.otp_files.specs.declared.error.FileError.{FileError}
use Rattle.otp_files.specs.declared.error.FileError.TheVariants.{Shape}
use Rattle.otp_files.specs.declared.rel.RelSpec.{RelSpec}
use Rattle.otp_files.specs.Distinct.{app_names, are_distinct}
use Rattle.otp_files.specs.Parts.{FailsFirst, HasElements, IsListOf, IsMisshapen, IsVersion, IsWord, Says, element as wrong_element, no_tuple}
use Rattle.otp_files.specs.Reading.{after, distinct_of, element, erts_of, including_of, plain_of, rel_app_of, rel_app_with, rel_apps_of, rel_of, title_of, typed_including_of, typed_of, word_of}
use Rattle.otp_files.specs.Rels.{AreApps, IsErts, IsRel, IsRelApp, IsSpelled, IsText, IsTitle, RelRefused, including, is_scalar, plain, rel_parts, typed, typed_including}
use Rattle.otp_files.proofs.Sayings.{Reads, pair_reads, rows_reads, unsaid, version_reads, word_reads}
use Rattle.otp_files.proofs.Scripts.{Judges}
use Rattle.otp_files.proofs.Shapes.{step, unread}

-- Texts

char_is_scalar : (t : Tree) (c : ℕ) → char_of t ≡ Some c → is_scalar c ≡ true
char_is_scalar (int (pos n)) c e = choice (λ k. is_scalar k ≡ true) (is_scalar n) n None c (λ holds. holds) (none_some c) e
char_is_scalar (int (negsuc n)) c e = none_some c e
char_is_scalar (atom cs) c e = none_some c e
char_is_scalar (pid n) c e = none_some c e
char_is_scalar (tuple ts) c e = none_some c e
char_is_scalar (list ts) c e = none_some c e

chars_are_scalar : (ts : Trees) (cs : List ℕ) → all_of char_of ts ≡ Some cs → list_all is_scalar cs ≡ true
chars_are_scalar none cs e = ap (list_all is_scalar) (sym (same_Some [] cs e))
chars_are_scalar (more t ts) cs e =
    let first = given_is (char_of t) _ cs e in
    let others = map_is (λ as'. first.0 ∷ as') (all_of char_of ts) cs first.2 in
    ap (list_all is_scalar) (sym others.2) ∙ both_true (is_scalar first.0) (list_all is_scalar others.0) (char_is_scalar t first.0 first.1) (chars_are_scalar ts others.0 others.1)

chars_back : (cs : List ℕ) → list_all is_scalar cs ≡ true → all_of char_of (integers cs) ≡ Some cs
chars_back [] fine = refl
chars_back (c ∷ cs) fine =
    let both = and_parts (is_scalar c) (list_all is_scalar cs) fine in
    next_back (char_of (int (pos c))) (all_of char_of (integers cs)) c cs (ap (λ b. if b then Some c else None) both.0) (chars_back cs both.1)

text_reads : Reads string_of IsText
text_reads = record {
  found = λ t cs e. (string_is t cs e, let inside = given_is (list_of t) (all_of char_of) cs e in chars_are_scalar inside.0 cs inside.2);
  back = λ t cs is. ap string_of is.0 ∙ chars_back cs is.1;
}

title_reads : Reads title_of IsTitle
title_reads = pair_reads string_of version_of IsText IsVersion text_reads version_reads

erts_reads : Reads erts_of IsErts
erts_reads = record { found = found; back = back }
  where
    found : (t : Tree) (v : List ℕ) → erts_of t ≡ Some v → IsErts t v
    found t v e =
        let q = given_is (given (tuple_of t) two_of) _ v e in
        let ts = given_is (tuple_of t) two_of q.0 q.1 in
        let word = given_is (word_of (codes "erts") q.0.0) _ v q.2 in
        record {
          first = q.0.0;
          second = q.0.1;
          is = tuple_is t ts.0 ts.1 ∙ ap tuple (two_is ts.0 q.0 ts.2);
          a = (word_reads (codes "erts")).found q.0.0 tt word.1;
          b = version_is q.0.1 v word.2;
        }

    back : (t : Tree) (v : List ℕ) → IsErts t v → erts_of t ≡ Some v
    back t v is =
        ap erts_of is.is ∙ ap (λ o. given {B = List ℕ} o (λ word. version_of is.second)) ((word_reads (codes "erts")).back is.first tt is.a) ∙ version_reads.back is.second v is.b

-- Applications

names_is : (t : Tree) (names : List (List ℕ)) → rows_of atom_of t ≡ Some names → t ≡ names_tree names
names_is t names e =
    let ts = given_is (list_of t) (all_of atom_of) names e in
    list_is t ts.0 ts.1 ∙ ap list (all_is atom_of atom atom_is ts.0 names ts.2)

names_back : (names : List (List ℕ)) → rows_of atom_of (names_tree names) ≡ Some names
names_back names = all_back atom_of atom (λ name. refl) names

abbrev front : List ℕ → List ℕ → Trees → Tree
front a v ts = tuple (more (atom a) (more (string_tree v) ts))

-- an application of this name and version
abbrev Of : List ℕ → List ℕ → Trees → RelApp → Type 0
Of a v ts app = IsSpelled (front a v ts) app × (app.vsn ≡ v)

plain_found : (a v : List ℕ) (ts : Trees) (app : RelApp) → plain_of a v ts ≡ Some app → Of a v ts app
plain_found a v none app e = subst (Of a v none) (same_Some _ app e) (plain refl refl refl, refl)
plain_found a v (more t ts) app e = none_some app e

typed_found : (a v : List ℕ) (ts : Trees) (app : RelApp) → typed_of a v ts ≡ Some app → Of a v ts app
typed_found a v ts app e =
    let alone = given_is (one_of ts) _ app e in
    let type = map_is _ (start_type_of alone.0) app alone.2 in
    subst (Of a v ts) type.2 (typed (ap (front a v) (one_is ts alone.0 alone.1 ∙ ap (λ t. more t none) ((start_types.is alone.0 type.0 type.1).0))) refl, refl)

including_found : (a v : List ℕ) (ts : Trees) (app : RelApp) → including_of a v ts ≡ Some app → Of a v ts app
including_found a v ts app e =
    let alone = given_is (one_of ts) _ app e in
    let names = map_is _ (rows_of atom_of alone.0) app alone.2 in
    subst (Of a v ts) names.2 (including names.0 (ap (front a v) (one_is ts alone.0 alone.1 ∙ ap (λ t. more t none) (names_is alone.0 names.0 names.1))) refl refl, refl)

typed_including_found : (a v : List ℕ) (ts : Trees) (app : RelApp) → typed_including_of a v ts ≡ Some app → Of a v ts app
typed_including_found a v ts app e =
    let both = given_is (two_of ts) _ app e in
    let type = given_is (start_type_of both.0.0) _ app both.2 in
    let names = map_is _ (rows_of atom_of both.0.1) app type.2 in
    subst (Of a v ts) names.2 (typed_including names.0 (ap (front a v) (two_is ts both.0 both.1 ∙ two_parts both.0.0 both.0.1 _ _ ((start_types.is both.0.0 type.0 type.1).0) (names_is both.0.1 names.0 names.1))) refl, refl)

with_found : (a v : List ℕ) (ts : Trees) (app : RelApp) → rel_app_with a v ts ≡ Some app → Of a v ts app
with_found a v ts app e =
    elim (either_is (plain_of a v ts) _ app e) [
      | inl here ↦ plain_found a v ts app here
      | inr later ↦
          elim (either_is (typed_of a v ts) _ app later) [
            | inl here ↦ typed_found a v ts app here
            | inr later ↦
                elim (either_is (including_of a v ts) (typed_including_of a v ts) app later) [
                  | inl here ↦ including_found a v ts app here
                  | inr last ↦ typed_including_found a v ts app last
                ]
          ]
    ]

first_is : (ts : Trees) (p : Tree × Trees) → first_of ts ≡ Some p → ts ≡ more p.0 p.1
first_is none p e = none_some p e
first_is (more t ts) p e = ap (λ (q : Tree × Trees). more q.0 q.1) (same_Some (t, ts) p e)

app_found : (t : Tree) (app : RelApp) → rel_app_of t ≡ Some app → IsRelApp t app
app_found t app e =
    let inside = given_is (tuple_of t) _ app e in
    let p = given_is (first_of inside.0) _ app inside.2 in
    let a = given_is (atom_of p.0.0) _ app p.2 in
    let q = given_is (first_of p.0.1) _ app a.2 in
    let v = given_is (version_of q.0.0) _ app q.2 in
    let of = with_found a.0 v.0 q.0.1 app v.2 in
    let version = version_is q.0.0 v.0 v.1 in
    let is : t ≡ front a.0 v.0 q.0.1 = tuple_is t inside.0 inside.1 ∙ ap tuple (first_is inside.0 p.0 p.1 ∙ ap (λ u. more u p.0.1) (atom_is p.0.0 a.0 a.1) ∙ ap (λ us. more (atom a.0) us) (first_is p.0.1 q.0 q.1 ∙ ap (λ u. more u q.0.1) version.0)) in
    let P : Tree → Type 0 = λ u. IsSpelled u app in
    (subst P (sym is) of.0, ap is_version of.1 ∙ version.1)

rel_app : List ℕ → List ℕ → StartType → Option (List (List ℕ)) → RelApp
rel_app a v type names = record { name = a; vsn = v; start_type = type; included = names }

fronted : (a v : List ℕ) (ts : Trees) → is_version v ≡ true → rel_app_of (front a v ts) ≡ rel_app_with a v ts
fronted a v ts fine = ap (λ o. given {B = RelApp} o (λ v. rel_app_with a v ts)) (version_back v fine)

same_app : (app : RelApp) (type : StartType) (names : Option (List (List ℕ))) → app.start_type ≡ type → app.included ≡ names → Some (record { name = app.name; vsn = app.vsn; start_type = type; included = names }) ≡ Some app
same_app app type names is_type is_names =
    ap (λ x. Some (record { name = app.name; vsn = app.vsn; start_type = x; included = names })) (sym is_type) ∙ ap (λ x. Some (record { name = app.name; vsn = app.vsn; start_type = app.start_type; included = x })) (sym is_names)

app_back : (t : Tree) (app : RelApp) → IsRelApp t app → rel_app_of t ≡ Some app
unfolding start_type_of
app_back t app (plain is type names, fine) =
    ap rel_app_of is ∙ fronted app.name app.vsn none fine ∙ same_app app Permanent None type names
app_back t app (typed is names, fine) =
    let a = app.name in
    let v = app.vsn in
    let ts = row (start_type_tree app.start_type ∷ []) in
    ap rel_app_of is ∙ fronted a v ts fine ∙ ap (λ o. either_of (option_map (λ type. record { name = a; vsn = v; start_type = type; included = None }) o) (either_of (including_of a v ts) None)) (start_types.back app.start_type tt) ∙ same_app app app.start_type None refl names
app_back t app (including names is type are, fine) =
    let a = app.name in
    let v = app.vsn in
    ap rel_app_of is ∙ fronted a v (row (names_tree names ∷ [])) fine ∙ ap (λ o. either_of (option_map (λ names. record { name = a; vsn = v; start_type = Permanent; included = Some names }) o) None) (names_back names) ∙ same_app app Permanent (Some names) type are
app_back t app (typed_including names is are, fine) =
    let a = app.name in
    let v = app.vsn in
    let type = app.start_type in
    ap rel_app_of is ∙ fronted a v (row (start_type_tree type ∷ names_tree names ∷ [])) fine ∙ ap (λ o. given {B = RelApp} o (λ type. option_map (λ names. record { name = a; vsn = v; start_type = type; included = Some names }) (rows_of atom_of (names_tree names)))) (start_types.back type tt) ∙ ap (λ o. option_map {U = RelApp} (λ names. record { name = a; vsn = v; start_type = type; included = Some names }) o) (names_back names) ∙ same_app app type (Some names) refl are

app_reads : Reads rel_app_of IsRelApp
app_reads = record { found = app_found; back = app_back }

apps_reads : Reads rel_apps_of AreApps
apps_reads = record { found = found; back = back }
  where
    found : (t : Tree) (apps : List RelApp) → rel_apps_of t ≡ Some apps → AreApps t apps
    found t apps e =
        let read = given_is (rows_of rel_app_of t) distinct_of apps e in
        let distinct = choice (λ x. (read.0 ≡ x) × (are_distinct (app_names x) ≡ true)) (are_distinct (app_names read.0)) read.0 None apps (λ holds. (refl, holds)) (none_some apps) read.2 in
        (subst (IsListOf IsRelApp t) distinct.0 ((rows_reads rel_app_of IsRelApp app_reads).found t read.0 read.1), distinct.1)

    back : (t : Tree) (apps : List RelApp) → AreApps t apps → rel_apps_of t ≡ Some apps
    back t apps are =
        ap (λ o. given {B = List RelApp} o distinct_of) ((rows_reads rel_app_of IsRelApp app_reads).back t apps are.0) ∙ ap (λ b. if b then Some apps else None) are.1

-- Files

four_is : (ts : Trees) (p : Tree × Tree × Tree × Tree) → four_of ts ≡ Some p → ts ≡ more p.0 (more p.1 (more p.2 (more p.3 none)))
four_is none p e = none_some p e
four_is (more a us) p e =
    let others = map_is _ (three_of us) p e in
    ap (λ r. more a r) (three_is us others.0 others.1) ∙ ap (λ (q : Tree × Tree × Tree × Tree). more q.0 (more q.1 (more q.2 (more q.3 none)))) others.2

of_just_four : (P : Type 0) (t : Tree) (elements : List Tree) → t ≡ tuple (row elements) → length elements ≡ 4 → ((x y z w : Tree) → elements ≡ x ∷ (y ∷ (z ∷ (w ∷ []))) → P) → P
of_just_four P t [] is many found = absurd (omega (arith, many))
of_just_four P t (x ∷ []) is many found = absurd (omega (arith, many))
of_just_four P t (x ∷ (y ∷ [])) is many found = absurd (omega (arith, many))
of_just_four P t (x ∷ (y ∷ (z ∷ []))) is many found = absurd (omega (arith, many))
of_just_four P t (x ∷ (y ∷ (z ∷ (w ∷ [])))) is many found = found x y z w refl
of_just_four P t (x ∷ (y ∷ (z ∷ (w ∷ (u ∷ us))))) is many found = absurd (omega (arith, many))

made : List ℕ × List ℕ → List ℕ → List RelApp → Result RelSpec FileError
made title erts apps = Ok (record { name = title.0; vsn = title.1; erts = erts; apps = apps })

parts : Option ⊤ → Option (List ℕ × List ℕ) → Option (List ℕ) → Option (List RelApp) → Result RelSpec FileError
parts o p q r = after (element 1 o) (λ word. after (element 2 p) (λ title. after (element 3 q) (λ erts. after (element 4 r) (λ apps. made title erts apps))))

pub rel_judged : (t : Tree) → Judges (IsRel t) (RelRefused t) (rel_of t)
unfolding rel_of
rel_judged t =
    step P 0 (given (tuple_of t) four_of) _ (λ empty. wrong 0 (no_tuple (none_such empty) refl))
    (λ p found.
    let ts = given_is (tuple_of t) four_of p found in
    let is = tuple_is t ts.0 ts.1 ∙ ap tuple (four_is ts.0 p ts.2) in
    let has : HasElements rel_parts t (p.0 ∷ (p.1 ∷ (p.2 ∷ (p.3 ∷ [])))) = record { is = is; many = refl } in
    step P 1 (word_of (codes "release") p.0) _ (λ empty. wrong 1 (wrong_element _ has (inl (unsaid (word_of (codes "release")) (IsWord (codes "release")) (word_reads (codes "release")) p.0 empty, refl))))
    (λ word is_word.
    let head : Says (IsWord (codes "release")) p.0 = record { value = tt; is = (word_reads (codes "release")).found p.0 word is_word } in
    step P 2 (title_of p.1) _ (λ empty. wrong 2 (wrong_element _ has (inr (head, inl (unsaid title_of IsTitle title_reads p.1 empty, refl)))))
    (λ title is_title.
    let titled : Says IsTitle p.1 = record { value = title; is = title_reads.found p.1 title is_title } in
    step P 3 (erts_of p.2) _ (λ empty. wrong 3 (wrong_element _ has (inr (head, inr (titled, inl (unsaid erts_of IsErts erts_reads p.2 empty, refl))))))
    (λ erts is_erts.
    let runtime : Says IsErts p.2 = record { value = erts; is = erts_reads.found p.2 erts is_erts } in
    step P 4 (rel_apps_of p.3) _ (λ empty. wrong 4 (wrong_element _ has (inr (head, inr (titled, inr (runtime, inl (unsaid rel_apps_of AreApps apps_reads p.3 empty, refl)))))))
    (λ apps is_apps.
    record { head = p.0; title = p.1; erts = p.2; apps = p.3; is = is; release = head.is; titled = titled.is; runtime = runtime.is; applications = apps_reads.found p.3 apps is_apps })))))
  where
    P : Result RelSpec FileError → Type 0
    P r = Judges (IsRel t) (RelRefused t) r

    wrong : (n : ℕ) → IsMisshapen rel_parts t n → P (Err (Shape n))
    wrong n is = record { element = n; wrong = is; is = refl }

    none_such : given (tuple_of t) four_of ≡ None → (elements : List Tree) → HasElements rel_parts t elements → ⊥
    none_such empty elements has =
        of_just_four ⊥ t elements has.is has.many (λ x y z w are. none_some (x, y, z, w) (sym empty ∙ ap (λ u. given (tuple_of u) four_of) (has.is ∙ ap (λ es. tuple (row es)) are)))

pub rel_done : (t : Tree) (rel : RelSpec) → IsRel t rel → rel_of t ≡ Ok rel
unfolding rel_of parts made
rel_done t rel is =
    ap rel_of is.is ∙ ap (λ o. parts o (title_of is.title) (erts_of is.erts) (rel_apps_of is.apps)) ((word_reads (codes "release")).back is.head tt is.release) ∙ ap (λ o. parts (Some tt) o (erts_of is.erts) (rel_apps_of is.apps)) (title_reads.back is.title (rel.name, rel.vsn) is.titled) ∙ ap (λ o. parts (Some tt) (Some (rel.name, rel.vsn)) o (rel_apps_of is.apps)) (erts_reads.back is.erts rel.erts is.runtime) ∙ ap (λ o. parts (Some tt) (Some (rel.name, rel.vsn)) (Some rel.erts) o) (apps_reads.back is.apps rel.apps is.applications)

pub rel_refused : (t : Tree) (f : FileError) → RelRefused t f → rel_of t ≡ Err f
unfolding rel_of parts made
rel_refused t f refused = by refused.wrong ∙ ap Err (sym refused.is)
  where
    n : ℕ
    n = refused.element

    release : Reads (word_of (codes "release")) (IsWord (codes "release"))
    release = word_reads (codes "release")

    told : (x y z w : Tree) → FailsFirst rel_parts (x ∷ (y ∷ (z ∷ (w ∷ [])))) 1 n → parts (word_of (codes "release") x) (title_of y) (erts_of z) (rel_apps_of w) ≡ Err (Shape n)
    told x y z w (inl first) =
        ap (λ o. parts o (title_of y) (erts_of z) (rel_apps_of w)) (unread (word_of (codes "release")) (IsWord (codes "release")) release x first.0) ∙ ap (λ k. Err (Shape k)) (sym first.1)
    told x y z w (inr (head, inl second)) =
        ap (λ o. parts o (title_of y) (erts_of z) (rel_apps_of w)) (release.back x head.value head.is) ∙ ap (λ o. parts (Some head.value) o (erts_of z) (rel_apps_of w)) (unread title_of IsTitle title_reads y second.0) ∙ ap (λ k. Err (Shape k)) (sym second.1)
    told x y z w (inr (head, inr (title, inl third))) =
        ap (λ o. parts o (title_of y) (erts_of z) (rel_apps_of w)) (release.back x head.value head.is) ∙ ap (λ o. parts (Some head.value) o (erts_of z) (rel_apps_of w)) (title_reads.back y title.value title.is) ∙ ap (λ o. parts (Some head.value) (Some title.value) o (rel_apps_of w)) (unread erts_of IsErts erts_reads z third.0) ∙ ap (λ k. Err (Shape k)) (sym third.1)
    told x y z w (inr (head, inr (title, inr (erts, inl fourth)))) =
        ap (λ o. parts o (title_of y) (erts_of z) (rel_apps_of w)) (release.back x head.value head.is) ∙ ap (λ o. parts (Some head.value) o (erts_of z) (rel_apps_of w)) (title_reads.back y title.value title.is) ∙ ap (λ o. parts (Some head.value) (Some title.value) o (rel_apps_of w)) (erts_reads.back z erts.value erts.is) ∙ ap (λ o. parts (Some head.value) (Some title.value) (Some erts.value) o) (unread rel_apps_of AreApps apps_reads w fourth.0) ∙ ap (λ k. Err (Shape k)) (sym fourth.1)
    told x y z w (inr (head, inr (title, inr (erts, inr never)))) = absurd never.1

    no_four : (o : Option (Tree × Tree × Tree × Tree)) → given (tuple_of t) four_of ≡ o → ((elements : List Tree) → HasElements rel_parts t elements → ⊥) → after (element 0 o) (λ p. parts (word_of (codes "release") p.0) (title_of p.1) (erts_of p.2) (rel_apps_of p.3)) ≡ Err (Shape 0)
    no_four None e none_is = refl
    no_four (Some p) e none_is =
        let ts = given_is (tuple_of t) four_of p e in
        absurd (none_is (p.0 ∷ (p.1 ∷ (p.2 ∷ (p.3 ∷ [])))) (record { is = tuple_is t ts.0 ts.1 ∙ ap tuple (four_is ts.0 p ts.2); many = refl }))

    by : IsMisshapen rel_parts t n → rel_of t ≡ Err (Shape n)
    by (no_tuple none_is zero) = no_four (given (tuple_of t) four_of) refl none_is ∙ ap (λ k. Err (Shape k)) (sym zero)
    by (wrong_element elements has fails) =
        of_just_four (rel_of t ≡ Err (Shape n)) t elements has.is has.many (λ x y z w are. ap rel_of (has.is ∙ ap (λ es. tuple (row es)) are) ∙ told x y z w (subst (λ es. FailsFirst rel_parts es 1 n) are fails))
