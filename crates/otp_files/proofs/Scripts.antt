-- Instructions by their numbers: all are read, or the first that is wrong is told.
use Rattle.std.specs.Prelude.{⊤}
use Rattle.std.proofs.Common.{◌≡◌, ◌⊎◌, ℕ, ◌+◌, List, [], ◌∷◌, ◌++◌, length, Result, Ok, Err, refl, sym, ap, subst, ◌∙◌, inl, inr, arith}
use Rattle.erl_term.specs.Tree.{Tree, Trees, count, more, none}
use Rattle.release_words.specs.declared.fault.InstructionFault.{InstructionFault}
use Rattle.release_words.specs.declared.fault.InstructionFault.TheVariants.{Bad, OutOfProfile as Excluded}
use Rattle.otp_files.specs.declared.error.FileError.{FileError}
use Rattle.otp_files.specs.declared.upgrade.Entry.{Entry}
use Rattle.otp_files.specs.declared.upgrade.drafts.Draft.{Draft}
use Rattle.otp_files.specs.Parts.{Each, Says}
use Rattle.otp_files.specs.Reading.{after, count_in, entries_from, entry_of, numbered, script_from}
use Rattle.otp_files.specs.Upgrades.{AreEntries, IsEntry, IsFaultAt, IsFirstWrong, instructions_in, terms_in}

-- what is read of a term as an instruction is what it is
abbrev pub IsReadAs : {I : Type 0} → (Tree → I → Type 0) → (Tree → Type 0) → Tree → Result I InstructionFault → Type 0
IsReadAs Is IsOut t (Ok i) = Is t i
IsReadAs Is IsOut t (Err Bad) = (IsOut t → ⊥) × (Says Is t → ⊥)
IsReadAs Is IsOut t (Err Excluded) = IsOut t

pub record ReadsAll {I : Type 0} (read : Tree → Result I InstructionFault) (Is : Tree → I → Type 0) (IsOut : Tree → Type 0) : Type 0 where
  pub told : (t : Tree) → IsReadAs Is IsOut t (read t)
  pub right : (t : Tree) (i : I) → Is t i → read t ≡ Ok i
  pub out : (t : Tree) → IsOut t → read t ≡ Err Excluded

-- A result that is a value of one kind, or a fault of another
abbrev pub Judges : {A : Type 0} → (A → Type 0) → (FileError → Type 0) → Result A FileError → Type 0
Judges Is IsWrong (Ok a) = Is a
Judges Is IsWrong (Err e) = IsWrong e

pub then_judged : {A B : Type 0} (P : Result B FileError → Type 0) (r : Result A FileError) (f : A → Result B FileError) (Is : A → Type 0) (IsWrong : FileError → Type 0) → Judges Is IsWrong r → ((a : A) → Is a → P (f a)) → ((e : FileError) → IsWrong e → P (Err e)) → P (after r f)
then_judged P (Ok a) f Is IsWrong judged right wrong = right a judged
then_judged P (Err e) f Is IsWrong judged right wrong = wrong e judged

-- One instruction

one_judged : {I : Type 0} (Is : Tree → I → Type 0) (IsOut : Tree → Type 0) (n : ℕ) (t : Tree) (r : Result I InstructionFault) → IsReadAs Is IsOut t r → Judges (Is t) (IsFaultAt (Says Is) IsOut n t) (numbered n r)
one_judged Is IsOut n t (Ok i) told = told
one_judged Is IsOut n t (Err Bad) told = inr (told.0, told.1, refl)
one_judged Is IsOut n t (Err Excluded) told = inl (told, refl)

bad_read : {I : Type 0} (read : Tree → Result I InstructionFault) (Is : Tree → I → Type 0) (IsOut : Tree → Type 0) → ReadsAll read Is IsOut → (t : Tree) → (IsOut t → ⊥) → (Says Is t → ⊥) → read t ≡ Err Bad
bad_read {I} read Is IsOut tells t not_out not_right = by (read t) refl (tells.told t)
  where
    by : (r : Result I InstructionFault) → read t ≡ r → IsReadAs Is IsOut t r → read t ≡ Err Bad
    by (Ok i) e told = absurd (not_right (record { value = i; is = told }))
    by (Err Bad) e told = e
    by (Err Excluded) e told = absurd (not_out told)

one_wrong : {I : Type 0} (read : Tree → Result I InstructionFault) (Is : Tree → I → Type 0) (IsOut : Tree → Type 0) → ReadsAll read Is IsOut → (n : ℕ) (t : Tree) (e : FileError) → IsFaultAt (Says Is) IsOut n t e → numbered n (read t) ≡ Err e
one_wrong read Is IsOut tells n t e (inl out) = ap (numbered n) (tells.out t out.0) ∙ ap Err (sym out.1)
one_wrong read Is IsOut tells n t e (inr bad) = ap (numbered n) (bad_read read Is IsOut tells t bad.0 bad.1) ∙ ap Err (sym bad.2)

-- Rows of instructions

pub script_judged : {I : Type 0} (read : Tree → Result I InstructionFault) (Is : Tree → I → Type 0) (IsOut : Tree → Type 0) → ReadsAll read Is IsOut → (n : ℕ) (ts : Trees) → Judges (Each Is ts) (IsFirstWrong (Says Is) IsOut n (terms_in ts)) (script_from read n ts)
script_judged read Is IsOut tells n none = tt
script_judged {I} read Is IsOut tells n (more t ts) =
    let P : Result (List I) FileError → Type 0 = λ r. Judges (Each Is (more t ts)) (IsFirstWrong (Says Is) IsOut n (t ∷ terms_in ts)) r in
    then_judged P (numbered n (read t)) _ (Is t) (IsFaultAt (Says Is) IsOut n t) (one_judged Is IsOut n t (read t) (tells.told t))
    (λ i is. then_judged P (script_from read (n + 1) ts) (λ is'. Ok (i ∷ is')) (Each Is ts) (IsFirstWrong (Says Is) IsOut (n + 1) (terms_in ts)) (script_judged read Is IsOut tells (n + 1) ts) (λ is' are. (is, are)) (λ e wrong. inr (record { value = i; is = is }, wrong)))
    (λ e wrong. inl wrong)

pub script_done : {I : Type 0} (read : Tree → Result I InstructionFault) (Is : Tree → I → Type 0) (IsOut : Tree → Type 0) → ReadsAll read Is IsOut → (n : ℕ) (ts : Trees) (is' : List I) → Each Is ts is' → script_from read n ts ≡ Ok is'
script_done read Is IsOut tells n none [] are = refl
script_done read Is IsOut tells n none (i ∷ is') are = absurd are
script_done read Is IsOut tells n (more t ts) [] are = absurd are
script_done read Is IsOut tells n (more t ts) (i ∷ is') are =
    ap (λ r. after (numbered n r) (λ x. after (script_from read (n + 1) ts) (λ xs. Ok (x ∷ xs)))) (tells.right t i are.0) ∙ ap (λ r. after r (λ xs. Ok (i ∷ xs))) (script_done read Is IsOut tells (n + 1) ts is' are.1)

pub script_wrong : {I : Type 0} (read : Tree → Result I InstructionFault) (Is : Tree → I → Type 0) (IsOut : Tree → Type 0) → ReadsAll read Is IsOut → (n : ℕ) (ts : Trees) (e : FileError) → IsFirstWrong (Says Is) IsOut n (terms_in ts) e → script_from read n ts ≡ Err e
script_wrong read Is IsOut tells n none e wrong = absurd wrong
script_wrong read Is IsOut tells n (more t ts) e (inl here) =
    ap (λ r. after r (λ x. after (script_from read (n + 1) ts) (λ xs. Ok (x ∷ xs)))) (one_wrong read Is IsOut tells n t e here)
script_wrong read Is IsOut tells n (more t ts) e (inr later) =
    ap (λ r. after (numbered n r) (λ x. after (script_from read (n + 1) ts) (λ xs. Ok (x ∷ xs)))) (tells.right t later.0.value later.0.is) ∙ ap (λ r. after r (λ xs. Ok (later.0.value ∷ xs))) (script_wrong read Is IsOut tells (n + 1) ts e later.1)

-- Several rows, one behind the other

pub AllSay : {I : Type 0} → (Tree → I → Type 0) → List Tree → Type 0
AllSay Is [] = ⊤
AllSay Is (t ∷ ts) = Says Is t × AllSay Is ts

all_say : {I : Type 0} (Is : Tree → I → Type 0) (ts : Trees) (is' : List I) → Each Is ts is' → AllSay Is (terms_in ts)
unfolding AllSay
all_say Is none [] are = tt
all_say Is none (i ∷ is') are = absurd are
all_say Is (more t ts) [] are = absurd are
all_say Is (more t ts) (i ∷ is') are = (record { value = i; is = are.0 }, all_say Is ts is' are.1)

front_wrong : {I : Type 0} (Is : Tree → I → Type 0) (IsOut : Tree → Type 0) (n : ℕ) (ts us : List Tree) (e : FileError) → IsFirstWrong (Says Is) IsOut n ts e → IsFirstWrong (Says Is) IsOut n (ts ++ us) e
front_wrong Is IsOut n [] us e wrong = absurd wrong
front_wrong Is IsOut n (t ∷ ts) us e (inl here) = inl here
front_wrong Is IsOut n (t ∷ ts) us e (inr later) = inr (later.0, front_wrong Is IsOut (n + 1) ts us e later.1)

next_same : (n : ℕ) (t : Tree) (ts : List Tree) → (n + 1) + length ts ≡ n + length (t ∷ ts)
next_same n t ts = omega arith

back_wrong : {I : Type 0} (Is : Tree → I → Type 0) (IsOut : Tree → Type 0) (n : ℕ) (ts us : List Tree) (e : FileError) → AllSay Is ts → IsFirstWrong (Says Is) IsOut (n + length ts) us e → IsFirstWrong (Says Is) IsOut n (ts ++ us) e
unfolding AllSay
back_wrong Is IsOut n [] us e say wrong =
    let same : n + 0 ≡ n = omega arith in
    subst (λ m. IsFirstWrong (Says Is) IsOut m us e) same wrong
back_wrong Is IsOut n (t ∷ ts) us e say wrong =
    inr (say.0, back_wrong Is IsOut (n + 1) ts us e say.1 (subst (λ m. IsFirstWrong (Says Is) IsOut m us e) (sym (next_same n t ts)) wrong))

-- and from both together
pub data Split {I : Type 0} (Is : Tree → I → Type 0) (IsOut : Tree → Type 0) (n : ℕ) (ts us : List Tree) (e : FileError) : Type 0 where
  in_front : IsFirstWrong (Says Is) IsOut n ts e → Split Is IsOut n ts us e
  in_back : AllSay Is ts → IsFirstWrong (Says Is) IsOut (n + length ts) us e → Split Is IsOut n ts us e

split : {I : Type 0} (Is : Tree → I → Type 0) (IsOut : Tree → Type 0) (n : ℕ) (ts us : List Tree) (e : FileError) → IsFirstWrong (Says Is) IsOut n (ts ++ us) e → Split Is IsOut n ts us e
unfolding AllSay
split Is IsOut n [] us e wrong =
    let same : n ≡ n + 0 = omega arith in
    in_back tt (subst (λ m. IsFirstWrong (Says Is) IsOut m us e) same wrong)
split Is IsOut n (t ∷ ts) us e (inl here) = in_front (inl here)
split Is IsOut n (t ∷ ts) us e (inr later) =
    elim (split Is IsOut (n + 1) ts us e later.1) [
      | in_front wrong ↦ in_front (inr (later.0, wrong))
      | in_back say wrong ↦ in_back (later.0, say) (subst (λ m. IsFirstWrong (Says Is) IsOut m us e) (next_same n t ts) wrong)
    ]

pub count_terms : (ts : Trees) → count ts ≡ length (terms_in ts)
count_terms none = refl
count_terms (more t ts) = let others = count_terms ts in omega (arith, others)

length_joined : (ts us : List Tree) → length (ts ++ us) ≡ length ts + length us
length_joined [] us = omega arith
length_joined (t ∷ ts) us = let others = length_joined ts us in omega (arith, others)

pub count_all : {D : Type 0} (ds : List (Draft D)) → count_in ds ≡ length (instructions_in ds)
count_all [] = refl
count_all (d ∷ ds) =
    let here = count_terms d.instructions in
    let others = count_all ds in
    let joined = length_joined (terms_in d.instructions) (instructions_in ds) in
    omega (arith, here, others, joined)

count_up : {D : Type 0} (ds : List (Draft D)) → count_in ds ≡ 0 + length (instructions_in ds)
count_up ds = let all = count_all ds in omega (arith, all)

-- Entries

made_judged : {D I : Type 0} (Is : Tree → I → Type 0) (IsWrong : FileError → Type 0) (d : Draft D) (r : Result (List I) FileError) → Judges (Each Is d.instructions) IsWrong r → Judges (IsEntry Is d) IsWrong (after r (λ script. Ok (record { vsn = d.vsn; description = d.description; instructions = script })))
made_judged Is IsWrong d (Ok is') judged = record { vsn = refl; description = refl; instructions = judged }
made_judged Is IsWrong d (Err e) judged = judged

abbrev entry_is : {D I : Type 0} → Entry D I → Result (Entry D I) FileError
entry_is e = Ok e

made_of : {D I : Type 0} (d : Draft D) (e : Entry D I) → e.vsn ≡ d.vsn → e.description ≡ d.description → entry_is (record { vsn = d.vsn; description = d.description; instructions = e.instructions }) ≡ entry_is e
made_of d e vsn description =
    ap (λ v. entry_is (record { vsn = v; description = d.description; instructions = e.instructions })) (sym vsn) ∙ ap (λ w. entry_is (record { vsn = e.vsn; description = w; instructions = e.instructions })) (sym description)

say_entry : {D I : Type 0} (Is : Tree → I → Type 0) (d : Draft D) (e : Entry D I) → IsEntry Is d e → AllSay Is (terms_in d.instructions)
say_entry Is d e is = all_say Is d.instructions e.instructions is.instructions

pub entries_judged : {D I : Type 0} (read : Tree → Result I InstructionFault) (Is : Tree → I → Type 0) (IsOut : Tree → Type 0) → ReadsAll read Is IsOut → (n : ℕ) (ds : List (Draft D)) → Judges (AreEntries Is ds) (IsFirstWrong (Says Is) IsOut n (instructions_in ds)) (entries_from read n ds)
entries_judged read Is IsOut tells n [] = tt
entries_judged {D} {I} read Is IsOut tells n (d ∷ ds) =
    let here = terms_in d.instructions in
    let others = instructions_in ds in
    let P : Result (List (Entry D I)) FileError → Type 0 = λ r. Judges (AreEntries Is (d ∷ ds)) (IsFirstWrong (Says Is) IsOut n (here ++ others)) r in
    let len = count d.instructions in
    then_judged P (entry_of read n d) _ (IsEntry Is d) (IsFirstWrong (Says Is) IsOut n here) (made_judged Is _ d (script_from read n d.instructions) (script_judged read Is IsOut tells n d.instructions))
    (λ e is. then_judged P (entries_from read (n + len) ds) (λ es. Ok (e ∷ es)) (AreEntries Is ds) (IsFirstWrong (Says Is) IsOut (n + len) others) (entries_judged read Is IsOut tells (n + len) ds) (λ es are. (is, are)) (λ f wrong. back_wrong Is IsOut n here others f (say_entry Is d e is) (subst (λ m. IsFirstWrong (Says Is) IsOut (n + m) others f) (count_terms d.instructions) wrong)))
    (λ f wrong. front_wrong Is IsOut n here others f wrong)

entry_done : {D I : Type 0} (read : Tree → Result I InstructionFault) (Is : Tree → I → Type 0) (IsOut : Tree → Type 0) → ReadsAll read Is IsOut → (n : ℕ) (d : Draft D) (e : Entry D I) → IsEntry Is d e → entry_of read n d ≡ Ok e
entry_done read Is IsOut tells n d e is =
    ap (λ r. after r (λ script. Ok (record { vsn = d.vsn; description = d.description; instructions = script }))) (script_done read Is IsOut tells n d.instructions e.instructions is.instructions) ∙ made_of d e is.vsn is.description

pub entries_done : {D I : Type 0} (read : Tree → Result I InstructionFault) (Is : Tree → I → Type 0) (IsOut : Tree → Type 0) → ReadsAll read Is IsOut → (n : ℕ) (ds : List (Draft D)) (es : List (Entry D I)) → AreEntries Is ds es → entries_from read n ds ≡ Ok es
entries_done read Is IsOut tells n [] [] are = refl
entries_done read Is IsOut tells n [] (e ∷ es) are = absurd are
entries_done read Is IsOut tells n (d ∷ ds) [] are = absurd are
entries_done read Is IsOut tells n (d ∷ ds) (e ∷ es) are =
    ap (λ r. after r (λ x. after (entries_from read (n + count d.instructions) ds) (λ xs. Ok (x ∷ xs)))) (entry_done read Is IsOut tells n d e are.0) ∙ ap (λ r. after r (λ xs. Ok (e ∷ xs))) (entries_done read Is IsOut tells (n + count d.instructions) ds es are.1)

-- terms that all say something are all read
all_read : {I : Type 0} (Is : Tree → I → Type 0) (ts : Trees) → AllSay Is (terms_in ts) → (is' : List I) × Each Is ts is'
unfolding AllSay
all_read Is none say = ([], tt)
all_read Is (more t ts) say = let others = all_read Is ts say.1 in (say.0.value ∷ others.0, (say.0.is, others.1))

pub entries_wrong : {D I : Type 0} (read : Tree → Result I InstructionFault) (Is : Tree → I → Type 0) (IsOut : Tree → Type 0) → ReadsAll read Is IsOut → (n : ℕ) (ds : List (Draft D)) (f : FileError) → IsFirstWrong (Says Is) IsOut n (instructions_in ds) f → entries_from read n ds ≡ Err f
entries_wrong read Is IsOut tells n [] f wrong = absurd wrong
entries_wrong {D} {I} read Is IsOut tells n (d ∷ ds) f wrong =
    let others : Result (List (Entry D I)) FileError = entries_from read (n + count d.instructions) ds in
    elim (split Is IsOut n (terms_in d.instructions) (instructions_in ds) f wrong) [
      | in_front here ↦ ap (λ r. after (after r (λ script. Ok (record { vsn = d.vsn; description = d.description; instructions = script }))) (λ x. after others (λ xs. Ok (x ∷ xs)))) (script_wrong read Is IsOut tells n d.instructions f here)
      | in_back say later ↦
          let all = all_read Is d.instructions say in
          let e : Entry D I = record { vsn = d.vsn; description = d.description; instructions = all.0 } in
          ap (λ r. after (after r (λ script. Ok (record { vsn = d.vsn; description = d.description; instructions = script }))) (λ x. after others (λ xs. Ok (x ∷ xs)))) (script_done read Is IsOut tells n d.instructions all.0 all.1) ∙ ap (λ r. after r (λ xs. Ok (e ∷ xs))) (entries_wrong read Is IsOut tells (n + count d.instructions) ds f (subst (λ m. IsFirstWrong (Says Is) IsOut (n + m) (instructions_in ds) f) (sym (count_terms d.instructions)) later))
    ]

-- Both directions, one behind the other

joined_say : {I : Type 0} (Is : Tree → I → Type 0) (ts us : List Tree) → AllSay Is ts → AllSay Is us → AllSay Is (ts ++ us)
unfolding AllSay
joined_say Is [] us one other = other
joined_say Is (t ∷ ts) us one other = (one.0, joined_say Is ts us one.1 other)

entries_say : {D I : Type 0} (Is : Tree → I → Type 0) (ds : List (Draft D)) (es : List (Entry D I)) → AreEntries Is ds es → AllSay Is (instructions_in ds)
unfolding AllSay
entries_say Is [] [] are = tt
entries_say Is [] (e ∷ es) are = absurd are
entries_say Is (d ∷ ds) [] are = absurd are
entries_say Is (d ∷ ds) (e ∷ es) are =
    joined_say Is (terms_in d.instructions) (instructions_in ds) (say_entry Is d e are.0) (entries_say Is ds es are.1)

pub down_wrong : {D I : Type 0} (Is : Tree → I → Type 0) (IsOut : Tree → Type 0) (ups downs : List (Draft D)) (es : List (Entry D I)) (f : FileError) → AreEntries Is ups es → IsFirstWrong (Says Is) IsOut (count_in ups) (instructions_in downs) f → IsFirstWrong (Says Is) IsOut 0 (instructions_in ups ++ instructions_in downs) f
down_wrong Is IsOut ups downs es f are wrong =
    back_wrong Is IsOut 0 (instructions_in ups) (instructions_in downs) f (entries_say Is ups es are) (subst (λ m. IsFirstWrong (Says Is) IsOut m (instructions_in downs) f) (count_up ups) wrong)

pub up_wrong : {D I : Type 0} (Is : Tree → I → Type 0) (IsOut : Tree → Type 0) (ups downs : List (Draft D)) (f : FileError) → IsFirstWrong (Says Is) IsOut 0 (instructions_in ups) f → IsFirstWrong (Says Is) IsOut 0 (instructions_in ups ++ instructions_in downs) f
up_wrong Is IsOut ups downs f wrong = front_wrong Is IsOut 0 (instructions_in ups) (instructions_in downs) f wrong

-- what the entries up are, where all that their instructions are is said
pub ups_or_downs : {D I : Type 0} (read : Tree → Result I InstructionFault) (Is : Tree → I → Type 0) (IsOut : Tree → Type 0) → ReadsAll read Is IsOut → (ups downs : List (Draft D)) (f : FileError) → IsFirstWrong (Says Is) IsOut 0 (instructions_in ups ++ instructions_in downs) f → (entries_from {D = D} read 0 ups ≡ Err f) ⊎ ((es : List (Entry D I)) × (entries_from read 0 ups ≡ Ok es) × (entries_from {D = D} read (count_in ups) downs ≡ Err f))
unfolding AllSay
ups_or_downs {D} {I} read Is IsOut tells ups downs f wrong =
    elim (split Is IsOut 0 (instructions_in ups) (instructions_in downs) f wrong) [
      | in_front here ↦ inl (entries_wrong read Is IsOut tells 0 ups f here)
      | in_back say later ↦
          let es = all_entries Is ups say in
          inr (es.0, entries_done read Is IsOut tells 0 ups es.0 es.1, entries_wrong read Is IsOut tells (count_in ups) downs f (subst (λ m. IsFirstWrong (Says Is) IsOut m (instructions_in downs) f) (sym (count_up ups)) later))
    ]
  where
    apart : (ts us : List Tree) → AllSay Is (ts ++ us) → AllSay Is ts × AllSay Is us
    apart [] us say = (tt, say)
    apart (t ∷ ts) us say = let others = apart ts us say.1 in ((say.0, others.0), others.1)

    all_entries : (Is' : Tree → I → Type 0) (ds : List (Draft D)) → AllSay Is (instructions_in ds) → (es : List (Entry D I)) × AreEntries Is ds es
    all_entries Is' [] say = ([], tt)
    all_entries Is' (d ∷ ds) say =
        let both = apart (terms_in d.instructions) (instructions_in ds) say in
        let here = all_read Is d.instructions both.0 in
        let others = all_entries Is' ds both.1 in
        (record { vsn = d.vsn; description = d.description; instructions = here.0 } ∷ others.0, (record { vsn = refl; description = refl; instructions = here.1 }, others.1))
