-- Bytes are one file, or none for one reason; and what is read of the one term is what is read of the bytes.
use Rattle.std.proofs.Common.{◌≡◌, ◌⊎◌, ℕ, Bool, true, false, List, Result, Ok, Err, Option, Some, None, MatchResult, IfOk, take, drop, refl, sym, ap, subst, ◌∙◌, inl, inr, true≢false}
use Rattle.std.specs.Prelude.{codes}
use Rattle.std.specs.Str.{bytes_eq}
use Rattle.std.specs.declared.alloc.AllocError.{AllocError}
use Rattle.std.proofs.lemmas.Option.{same_Some}
use Rattle.std.proofs.lemmas.Result.{IfOk-at_ok}
use Rattle.std.proofs.lemmas.Slice.Eq.{bytes_eq-Decides}
use Rattle.erl_scan.specs.declared.error.Fault.{Fault}
use Rattle.erl_scan.specs.declared.error.Fault.TheVariants.{Unsupported}
use Rattle.erl_scan.specs.declared.error.ReadError.{ReadError}
use Rattle.erl_term.specs.Tree.{Tree, Trees, none, more}
use Rattle.erl_consult.specs.Faults.{IsTextOf, IsRefused, OneReading, IsJudged as IsJudgedText, is_text, is_refused}
use Rattle.otp_files.specs.declared.error.FileError.{FileError}
use Rattle.otp_files.specs.declared.error.FileError.TheVariants.{Text, NoTerm, ManyTerms, PatternVersion, Memory}
use Rattle.otp_files.specs.Laws.{IsJudged, IsOneOf, is_none, is_record}
use Rattle.otp_files.specs.Texts.{HasPattern, IsAppupError, IsFile, IsFileError, IsTextError, many_terms, no_pattern, no_term, no_text, pattern, term, text}
use Rattle.otp_files.proofs.Scripts.{Judges}

abbrev said : {A : Type 0} → A → Result A FileError
said x = Ok x

abbrev faulted : {A : Type 0} → FileError → Result A FileError
faulted e = Err e

abbrev ok_of : {A : Type 0} → Result A FileError → Option A
ok_of (Ok x) = Some x
ok_of (Err e) = None

abbrev err_of : {A : Type 0} → Result A FileError → Option FileError
err_of (Ok x) = None
err_of (Err e) = Some e

same_Ok : {A : Type 0} (x y : A) → said x ≡ said y → x ≡ y
same_Ok x y e = same_Some x y (ap ok_of e)

same_Err : {A : Type 0} (x y : FileError) → faulted {A = A} x ≡ faulted y → x ≡ y
same_Err x y e = same_Some x y (ap err_of e)

apart_results : {A : Type 0} (x : A) (e : FileError) → said x ≡ faulted e → ⊥
apart_results x e same = let no : ⊥ = cc in no

-- A term says one record, or has one fault, where both are what a function of terms gives
pub one_of : {A : Type 0} (Is : Tree → A → Type 0) (IsWrong : Tree → FileError → Type 0) (f : Tree → Result A FileError) → ((t : Tree) → Judges (Is t) (IsWrong t) (f t)) → ((t : Tree) (a : A) → Is t a → f t ≡ Ok a) → ((t : Tree) (e : FileError) → IsWrong t e → f t ≡ Err e) → (t : Tree) → IsOneOf Is IsWrong t
one_of {A} Is IsWrong f judges done refused t = record {
  records = λ a b is_a is_b. same_Ok a b (sym (done t a is_a) ∙ done t b is_b);
  faults = λ e g is_e is_g. same_Err {A = A} e g (sym (refused t e is_e) ∙ refused t g is_g);
  apart = λ a e is wrong. apart_results a e (sym (done t a is) ∙ refused t e wrong);
  judged = by (f t) (judges t);
}
  where
    by : (r : Result A FileError) → Judges (Is t) (IsWrong t) r → IsJudged Is IsWrong t
    by (Ok a) is = is_record a is
    by (Err e) wrong = is_none e wrong

-- Texts

first_tree : (t u : Tree) (ts us : Trees) → more t ts ≡ more u us → t ≡ u
first_tree t u ts us e = cc

same_error : (e f : ReadError) → e.kind ≡ f.kind → e.at ≡ f.at → e ≡ f
same_error e f kind at = ap (λ k. record { kind = k; at = e.at }) kind ∙ ap (λ n. record { kind = f.kind; at = n }) at

text_of : FileError → Option ReadError
text_of (Text e) = Some e
text_of e = None

same_text : (e f : ReadError) → Text e ≡ Text f → e ≡ f
unfolding text_of
same_text e f same = same_Some e f (ap text_of same)

text_apart : (bytes : List ℕ) → OneReading bytes → (t : Tree) (e : FileError) → IsTextOf bytes (more t none) → IsTextError bytes e → ⊥
text_apart bytes one t e is (no_text fault refused told) = one.apart (more t none) fault.kind fault.at is refused
text_apart bytes one t e is (no_term other told) =
    let same = one.terms (more t none) none is other in let no : ⊥ = cc in no
text_apart bytes one t e is (many_terms many told) =
    let same = one.terms (more t none) (more many.first (more many.second many.others)) is many.text in let no : ⊥ = cc in no

text_same : (bytes : List ℕ) → OneReading bytes → (e f : FileError) → IsTextError bytes e → IsTextError bytes f → e ≡ f
text_same bytes one e f (no_text x x_refused is_e) (no_text y y_refused is_f) =
    let both = one.faults x.kind y.kind x.at y.at x_refused y_refused in
    is_e ∙ ap Text (same_error x y both.0 both.1) ∙ sym is_f
text_same bytes one e f (no_text x refused is_e) (no_term is is_f) = absurd (one.apart none x.kind x.at is refused)
text_same bytes one e f (no_text x refused is_e) (many_terms many is_f) =
    absurd (one.apart (more many.first (more many.second many.others)) x.kind x.at many.text refused)
text_same bytes one e f (no_term is is_e) (no_text y refused is_f) = absurd (one.apart none y.kind y.at is refused)
text_same bytes one e f (no_term is is_e) (no_term other is_f) = is_e ∙ sym is_f
text_same bytes one e f (no_term is is_e) (many_terms many is_f) =
    let same = one.terms none (more many.first (more many.second many.others)) is many.text in absurd (let no : ⊥ = cc in no)
text_same bytes one e f (many_terms many is_e) (no_text y refused is_f) =
    absurd (one.apart (more many.first (more many.second many.others)) y.kind y.at many.text refused)
text_same bytes one e f (many_terms many is_e) (no_term is is_f) =
    let same = one.terms none (more many.first (more many.second many.others)) is many.text in absurd (let no : ⊥ = cc in no)
text_same bytes one e f (many_terms many is_e) (many_terms other is_f) = is_e ∙ sym is_f

-- Files

term_same : (bytes : List ℕ) → OneReading bytes → (t u : Tree) → IsTextOf bytes (more t none) → IsTextOf bytes (more u none) → t ≡ u
term_same bytes one t u is_t is_u = first_tree t u none none (one.terms (more t none) (more u none) is_t is_u)

fault_same : {A : Type 0} (Is : Tree → A → Type 0) (IsWrong : Tree → FileError → Type 0) (bytes : List ℕ) → OneReading bytes → ((t : Tree) → IsOneOf Is IsWrong t) → (e f : FileError) → IsFileError IsWrong bytes e → IsFileError IsWrong bytes f → e ≡ f
fault_same Is IsWrong bytes one terms e f (text x) (text y) = text_same bytes one e f x y
fault_same Is IsWrong bytes one terms e f (text x) (term u is wrong) = absurd (text_apart bytes one u e is x)
fault_same Is IsWrong bytes one terms e f (term t is wrong) (text y) = absurd (text_apart bytes one t f is y)
fault_same Is IsWrong bytes one terms e f (term t is wrong) (term u other bad) =
    let P : Tree → Type 0 = λ v. IsWrong v f in
    (terms t).faults e f wrong (subst P (sym (term_same bytes one t u is other)) bad)

fault_apart : {A : Type 0} (Is : Tree → A → Type 0) (IsWrong : Tree → FileError → Type 0) (bytes : List ℕ) → OneReading bytes → ((t : Tree) → IsOneOf Is IsWrong t) → (a : A) (e : FileError) → IsFile Is bytes a → IsFileError IsWrong bytes e → ⊥
fault_apart Is IsWrong bytes one terms a e file (text x) = text_apart bytes one file.term e file.text x
fault_apart Is IsWrong bytes one terms a e file (term t is wrong) =
    let P : Tree → Type 0 = λ v. IsWrong v e in
    (terms file.term).apart a e file.says (subst P (sym (term_same bytes one file.term t file.text is)) wrong)

same_file : {A : Type 0} (Is : Tree → A → Type 0) (IsWrong : Tree → FileError → Type 0) (bytes : List ℕ) → OneReading bytes → ((t : Tree) → IsOneOf Is IsWrong t) → (a b : A) → IsFile Is bytes a → IsFile Is bytes b → a ≡ b
same_file Is IsWrong bytes one terms a b file other =
    let P : Tree → Type 0 = λ v. Is v b in
    (terms file.term).records a b file.says (subst P (sym (term_same bytes one file.term other.term file.text other.text)) other.says)

terms_judged : {A : Type 0} (Is : Tree → A → Type 0) (IsWrong : Tree → FileError → Type 0) (bytes : List ℕ) → ((t : Tree) → IsOneOf Is IsWrong t) → (ts : Trees) → IsTextOf bytes ts → IsJudged (IsFile Is) (IsFileError IsWrong) bytes
terms_judged Is IsWrong bytes terms none is = is_none NoTerm (text (no_term is refl))
terms_judged {A} Is IsWrong bytes terms (more t none) is = by (terms t).judged
  where
    by : IsJudged Is IsWrong t → IsJudged (IsFile Is) (IsFileError IsWrong) bytes
    by (is_record a says) = is_record a (record { term = t; text = is; says = says })
    by (is_none e wrong) = is_none e (term t is wrong)
terms_judged Is IsWrong bytes terms (more t (more u us)) is =
    is_none ManyTerms (text (many_terms (record { first = t; second = u; others = us; text = is }) refl))

file_judged : {A : Type 0} (Is : Tree → A → Type 0) (IsWrong : Tree → FileError → Type 0) (bytes : List ℕ) → ((t : Tree) → IsOneOf Is IsWrong t) → IsJudgedText bytes → IsJudged (IsFile Is) (IsFileError IsWrong) bytes
file_judged Is IsWrong bytes terms (is_text ts is) = terms_judged Is IsWrong bytes terms ts is
file_judged Is IsWrong bytes terms (is_refused kind at refused) =
    is_none (Text (record { kind = kind; at = at })) (text (no_text (record { kind = kind; at = at }) refused refl))

pub one_file : {A : Type 0} (Is : Tree → A → Type 0) (IsWrong : Tree → FileError → Type 0) (bytes : List ℕ) → OneReading bytes → ((t : Tree) → IsOneOf Is IsWrong t) → IsOneOf (IsFile Is) (IsFileError IsWrong) bytes
one_file Is IsWrong bytes one terms = record {
  records = same_file Is IsWrong bytes one terms;
  faults = fault_same Is IsWrong bytes one terms;
  apart = fault_apart Is IsWrong bytes one terms;
  judged = file_judged Is IsWrong bytes terms one.judged;
}

-- Appups: a pattern of versions, or none

abbrev AtPattern : List ℕ → Fault → ℕ → Type 0
AtPattern bytes kind at = (kind ≡ Unsupported) × (take 2 (drop at bytes) ≡ codes "<<")

abbrev is_unsupported : Fault → Bool
is_unsupported Unsupported = true
is_unsupported kind = false

at_pattern : (bytes : List ℕ) (at : ℕ) (begins : Bool) → bytes_eq (take 2 (drop at bytes)) (codes "<<") ≡ begins → (kind : Fault) → AtPattern bytes kind at ⊎ (AtPattern bytes kind at → ⊥)
at_pattern bytes at true is Unsupported = inl (refl, (bytes_eq-Decides (take 2 (drop at bytes)) (codes "<<")).0 is)
at_pattern bytes at false is kind =
    inr (λ both. true≢false (sym ((bytes_eq-Decides (take 2 (drop at bytes)) (codes "<<")).1 both.1) ∙ is))
at_pattern bytes at true is kind = inr (λ both. true≢false (sym (ap is_unsupported both.0)))

-- a refusal elsewhere is at no pattern
elsewhere : (bytes : List ℕ) → OneReading bytes → (kind : Fault) (at : ℕ) → IsRefused bytes kind at → (AtPattern bytes kind at → ⊥) → HasPattern bytes → ⊥
elsewhere bytes one kind at refused other found =
    let same = one.faults kind Unsupported at found.at refused found.refused in
    other (same.0, ap (λ n. take 2 (drop n bytes)) same.1 ∙ found.begins)

pub no_pattern_in : (bytes : List ℕ) → OneReading bytes → (ts : Trees) → IsTextOf bytes ts → HasPattern bytes → ⊥
no_pattern_in bytes one ts is found = one.apart ts Unsupported found.at is found.refused

-- what is told of a text that is refused
pub refused_appup : (IsWrong : Tree → FileError → Type 0) (bytes : List ℕ) (error : ReadError) (told : FileError) → OneReading bytes → IsRefused bytes error.kind error.at → ((told ≡ PatternVersion) × (error.kind ≡ Unsupported) × (take 2 (drop error.at bytes) ≡ codes "<<")) ⊎ ((told ≡ Text error) × ((error.kind ≡ Unsupported) × (take 2 (drop error.at bytes) ≡ codes "<<") → ⊥)) → IsAppupError IsWrong bytes told
refused_appup IsWrong bytes error told one refused (inl is) =
    let P : Fault → Type 0 = λ kind. IsRefused bytes kind error.at in
    pattern (record { at = error.at; refused = subst P is.1 refused; begins = is.2 }) is.0
refused_appup IsWrong bytes error told one refused (inr is) =
    no_pattern (elsewhere bytes one error.kind error.at refused is.1) (text (no_text error refused is.0))

pub told_appup : (IsWrong : Tree → FileError → Type 0) (bytes : List ℕ) (error : ReadError) (e told : FileError) → OneReading bytes → e ≡ Text error → IsTextError bytes e → ((told ≡ PatternVersion) × (error.kind ≡ Unsupported) × (take 2 (drop error.at bytes) ≡ codes "<<")) ⊎ ((told ≡ Text error) × ((error.kind ≡ Unsupported) × (take 2 (drop error.at bytes) ≡ codes "<<") → ⊥)) → IsAppupError IsWrong bytes told
told_appup IsWrong bytes error e told one is (no_text fault refused is_fault) tells =
    let same : fault ≡ error = same_text fault error (sym is_fault ∙ is) in
    let P : ReadError → Type 0 = λ x. IsRefused bytes x.kind x.at in
    refused_appup IsWrong bytes error told one (subst P same refused) tells
told_appup IsWrong bytes error e told one is (no_term empty is_fault) tells =
    let never = sym is ∙ is_fault in absurd (let no : ⊥ = cc in no)
told_appup IsWrong bytes error e told one is (many_terms many is_fault) tells =
    let never = sym is ∙ is_fault in absurd (let no : ⊥ = cc in no)

-- a text that is read, and not that of one term
pub untold_appup : (IsWrong : Tree → FileError → Type 0) (bytes : List ℕ) (e : FileError) → OneReading bytes → ((error : ReadError) → e ≡ Text error → ⊥) → IsTextError bytes e → IsAppupError IsWrong bytes e
untold_appup IsWrong bytes e one not (no_text fault refused is) = absurd (not fault is)
untold_appup IsWrong bytes e one not (no_term is told) = no_pattern (no_pattern_in bytes one none is) (text (no_term is told))
untold_appup IsWrong bytes e one not (many_terms many told) =
    no_pattern (no_pattern_in bytes one (more many.first (more many.second many.others)) many.text) (text (many_terms many told))

appup_judged : {A : Type 0} (Is : Tree → A → Type 0) (IsWrong : Tree → FileError → Type 0) (bytes : List ℕ) → OneReading bytes → ((t : Tree) → IsOneOf Is IsWrong t) → IsJudgedText bytes → IsJudged (IsFile Is) (IsAppupError IsWrong) bytes
appup_judged Is IsWrong bytes one terms (is_text ts is) = by (terms_judged Is IsWrong bytes terms ts is)
  where
    by : IsJudged (IsFile Is) (IsFileError IsWrong) bytes → IsJudged (IsFile Is) (IsAppupError IsWrong) bytes
    by (is_record a file) = is_record a file
    by (is_none e wrong) = is_none e (no_pattern (no_pattern_in bytes one ts is) wrong)
appup_judged Is IsWrong bytes one terms (is_refused kind at refused) =
    by (at_pattern bytes at (bytes_eq (take 2 (drop at bytes)) (codes "<<")) refl kind)
  where
    by : AtPattern bytes kind at ⊎ (AtPattern bytes kind at → ⊥) → IsJudged (IsFile Is) (IsAppupError IsWrong) bytes
    by (inl is) =
        is_none PatternVersion (refused_appup IsWrong bytes (record { kind = kind; at = at }) PatternVersion one refused (inl (refl, is.0, is.1)))
    by (inr not) =
        is_none (Text (record { kind = kind; at = at })) (refused_appup IsWrong bytes (record { kind = kind; at = at }) (Text (record { kind = kind; at = at })) one refused (inr (refl, not)))

appup_same : {A : Type 0} (Is : Tree → A → Type 0) (IsWrong : Tree → FileError → Type 0) (bytes : List ℕ) → OneReading bytes → ((t : Tree) → IsOneOf Is IsWrong t) → (e f : FileError) → IsAppupError IsWrong bytes e → IsAppupError IsWrong bytes f → e ≡ f
appup_same Is IsWrong bytes one terms e f (pattern found is_e) (pattern other is_f) = is_e ∙ sym is_f
appup_same Is IsWrong bytes one terms e f (pattern found is_e) (no_pattern not wrong) = absurd (not found)
appup_same Is IsWrong bytes one terms e f (no_pattern not wrong) (pattern found is_f) = absurd (not found)
appup_same Is IsWrong bytes one terms e f (no_pattern not wrong) (no_pattern never bad) = fault_same Is IsWrong bytes one terms e f wrong bad

appup_apart : {A : Type 0} (Is : Tree → A → Type 0) (IsWrong : Tree → FileError → Type 0) (bytes : List ℕ) → OneReading bytes → ((t : Tree) → IsOneOf Is IsWrong t) → (a : A) (e : FileError) → IsFile Is bytes a → IsAppupError IsWrong bytes e → ⊥
appup_apart Is IsWrong bytes one terms a e file (pattern found is_e) = no_pattern_in bytes one (more file.term none) file.text found
appup_apart Is IsWrong bytes one terms a e file (no_pattern not wrong) = fault_apart Is IsWrong bytes one terms a e file wrong

pub one_appup : {A : Type 0} (Is : Tree → A → Type 0) (IsWrong : Tree → FileError → Type 0) (bytes : List ℕ) → OneReading bytes → ((t : Tree) → IsOneOf Is IsWrong t) → IsOneOf (IsFile Is) (IsAppupError IsWrong) bytes
one_appup Is IsWrong bytes one terms = record {
  records = same_file Is IsWrong bytes one terms;
  faults = appup_same Is IsWrong bytes one terms;
  apart = appup_apart Is IsWrong bytes one terms;
  judged = appup_judged Is IsWrong bytes one terms one.judged;
}

-- What was read of a term, with memory as one more fault, is what is read of its bytes

pub read_file : {A : Type 0} (Is : Tree → A → Type 0) (IsWrong : Tree → FileError → Type 0) (f : Tree → Result A FileError) (IsError : FileError → Type 0) (bytes : List ℕ) (t : Tree) (read : Result (Result A FileError) AllocError) (result : Result A FileError) → Judges (Is t) (IsWrong t) (f t) → ((e : FileError) → IsWrong t e → IsError e) → IsTextOf bytes (more t none) → IfOk read (λ r. r ≡ f t) → MatchResult result (λ file. read ≡ Ok (Ok file)) (λ e. (e ≡ Memory) ⊎ (read ≡ Ok (Err e))) → MatchResult result (λ file. IsFile Is bytes file) (λ e. (e ≡ Memory) ⊎ IsError e)
read_file Is IsWrong f IsError bytes t read (Ok file) judges tell is right was =
    let says : Ok file ≡ f t = IfOk-at_ok (λ r. r ≡ f t) was right in
    record { term = t; text = is; says = subst (Judges (Is t) (IsWrong t)) (sym says) judges }
read_file Is IsWrong f IsError bytes t read (Err e) judges tell is right (inl memory) = inl memory
read_file Is IsWrong f IsError bytes t read (Err e) judges tell is right (inr was) =
    let says : Err e ≡ f t = IfOk-at_ok (λ r. r ≡ f t) was right in
    inr (tell e (subst (Judges (Is t) (IsWrong t)) (sym says) judges))

pub text_wrong : (IsWrong : Tree → FileError → Type 0) (bytes : List ℕ) (e : FileError) → (e ≡ Memory) ⊎ IsTextError bytes e → (e ≡ Memory) ⊎ IsFileError IsWrong bytes e
text_wrong IsWrong bytes e (inl memory) = inl memory
text_wrong IsWrong bytes e (inr wrong) = inr (text wrong)
