-- Numbers of instructions as they are told: only the saturated number matters.
use Rattle.std.proofs.Common.{◌≡◌, ℕ, ◌+◌, ◌<◌, List, [], ◌∷◌, ◌++◌, length, get_or, drop, Result, Ok, Err, sym, ap, ◌∙◌, refl, append_assoc, arith}
use Rattle.std.proofs.lemmas.List.{drop_more}
use Rattle.erl_term.specs.declared.term.Term.{Term}
use Rattle.erl_term.specs.Tree.{Tree, Trees, none, more, count}
use Rattle.erl_term.specs.Term.{tree, trees}
use Rattle.release_words.specs.declared.fault.InstructionFault.{InstructionFault}
use Rattle.release_words.specs.declared.fault.InstructionFault.TheVariants.{Bad, OutOfProfile}
use Rattle.otp_files.specs.declared.error.FileError.{FileError}
use Rattle.otp_files.specs.declared.error.FileError.TheVariants.{BadInstruction, OutOfProfile as Excluded}
use Rattle.otp_files.specs.Reading.{after, entries_from, entry_of, fault_at, numbered, script_from}
use Rattle.otp_files.specs.Upgrades.{saturated}
use Rattle.otp_files.specs.declared.upgrade.Entry.{Entry}
use Rattle.otp_files.specs.declared.upgrade.drafts.Draft.{Draft}

pub saturated_plus : (a b : ℕ) → saturated (saturated a + b) ≡ saturated (a + b)
saturated_plus a b = omega arith

pub saturated_twice : (a : ℕ) → saturated (saturated a) ≡ saturated a
saturated_twice a = omega arith

fault_saturated : (n : ℕ) (f : InstructionFault) → fault_at (saturated n) f ≡ fault_at n f
fault_saturated n Bad = ap BadInstruction (saturated_twice n)
fault_saturated n OutOfProfile = ap Excluded (saturated_twice n)

numbered_saturated : {A : Type 0} (n : ℕ) (r : Result A InstructionFault) → numbered (saturated n) r ≡ numbered n r
numbered_saturated n (Ok x) = refl
numbered_saturated n (Err f) = ap Err (fault_saturated n f)

pub script_saturated : {A : Type 0} (read : Tree → Result A InstructionFault) (n : ℕ) (ts : Trees) → script_from read (saturated n) ts ≡ script_from read n ts
script_saturated read n none = refl
script_saturated read n (more t ts) =
    let next : script_from read (saturated n + 1) ts ≡ script_from read (n + 1) ts = sym (script_saturated read (saturated n + 1) ts) ∙ ap (λ m. script_from read m ts) (saturated_plus n 1) ∙ script_saturated read (n + 1) ts in
    ap (λ s. after (numbered (saturated n) (read t)) (λ i. after s (λ is'. Ok (i ∷ is')))) next ∙ ap (λ r. after r (λ i. after (script_from read (n + 1) ts) (λ is'. Ok (i ∷ is')))) (numbered_saturated n (read t))

-- one item more in front of what is left
pub joined : {A : Type 0} (x : A) (done : List A) (s : Result (List A) FileError) → after (after s (λ rest. Ok (x ∷ rest))) (λ rest. Ok (done ++ rest)) ≡ after s (λ rest. Ok ((done ++ x ∷ []) ++ rest))
joined x done (Ok xs) = ap Ok (sym (append_assoc done (x ∷ []) xs))
joined x done (Err e) = refl

-- the terms that are left
pub left_more : (items : List Term) (i : ℕ) (t : Term) → i < length items → t ≡ get_or items i t → trees (drop i items) ≡ more (tree t) (trees (drop (i + 1) items))
left_more items i t within is = ap trees (drop_more items i t within ∙ ap (λ u. u ∷ drop (i + 1) items) (sym is))

-- Rows of instructions, one by one
pub script_more : {A : Type 0} (read : Tree → Result A InstructionFault) (items : List Term) (i : ℕ) (t : Term) (x : A) (n next : ℕ) (done : List A) (whole : Result (List A) FileError) → i < length items → t ≡ get_or items i t → Ok x ≡ read (tree t) → next ≡ saturated (n + 1) → whole ≡ after (script_from read n (trees (drop i items))) (λ rest. Ok (done ++ rest)) → whole ≡ after (script_from read next (trees (drop (i + 1) items))) (λ rest. Ok ((done ++ x ∷ []) ++ rest))
script_more read items i t x n next done whole within is here step so_far =
    let rest = trees (drop (i + 1) items) in
    so_far ∙ ap (λ ts. after (script_from read n ts) (λ r. Ok (done ++ r))) (left_more items i t within is) ∙ ap (λ o. after (after (numbered n o) (λ y. after (script_from read (n + 1) rest) (λ ys. Ok (y ∷ ys)))) (λ r. Ok (done ++ r))) (sym here) ∙ joined x done (script_from read (n + 1) rest) ∙ ap (λ s. after s (λ r. Ok ((done ++ x ∷ []) ++ r))) (sym (script_saturated read (n + 1) rest) ∙ ap (λ m. script_from read m rest) (sym step))

-- how many terms a row has
pub count_trees : (ts : List Term) → count (trees ts) ≡ length ts
count_trees [] = refl
count_trees (t ∷ ts) = ap (λ n. 1 + n) (count_trees ts) ∙ omega arith

pub counted : (row : Trees) (ts : List Term) → trees ts ≡ row → count row ≡ length ts
counted row ts is = ap count (sym is) ∙ count_trees ts

-- the instructions of one entry more
pub count_step : (whole n len next here rest : ℕ) → here ≡ len + rest → next ≡ saturated (n + len) → whole ≡ saturated (n + here) → whole ≡ saturated (next + rest)
count_step whole n len next here rest is step so_far = omega arith

-- Entries, one by one: each with the instructions of its own numbers

pub entry_saturated : {D I : Type 0} (read : Tree → Result I InstructionFault) (n : ℕ) (d : Draft D) → entry_of read (saturated n) d ≡ entry_of read n d
entry_saturated read n d =
    ap (λ s. after s (λ script. Ok (record { vsn = d.vsn; description = d.description; instructions = script }))) (script_saturated read n d.instructions)

pub entries_saturated : {D I : Type 0} (read : Tree → Result I InstructionFault) (n : ℕ) (ds : List (Draft D)) → entries_from read (saturated n) ds ≡ entries_from read n ds
entries_saturated read n [] = refl
entries_saturated read n (d ∷ ds) =
    let len = count d.instructions in
    let next : entries_from read (saturated n + len) ds ≡ entries_from read (n + len) ds = sym (entries_saturated read (saturated n + len) ds) ∙ ap (λ m. entries_from read m ds) (saturated_plus n len) ∙ entries_saturated read (n + len) ds in
    ap (λ rest. after (entry_of read (saturated n) d) (λ e. after rest (λ es. Ok (e ∷ es)))) next ∙ ap (λ s. after s (λ e. after (entries_from read (n + len) ds) (λ es. Ok (e ∷ es)))) (entry_saturated read n d)

pub entries_more : {D I : Type 0} (read : Tree → Result I InstructionFault) (d : Draft D) (ds : List (Draft D)) (n next : ℕ) (e : Entry D I) (done : List (Entry D I)) (whole : Result (List (Entry D I)) FileError) → Ok e ≡ entry_of read n d → next ≡ saturated (n + count d.instructions) → whole ≡ after (entries_from read n (d ∷ ds)) (λ rest. Ok (done ++ rest)) → whole ≡ after (entries_from read next ds) (λ rest. Ok ((done ++ e ∷ []) ++ rest))
entries_more read d ds n next e done whole here step so_far =
    let rest = entries_from read (n + count d.instructions) ds in
    so_far ∙ ap (λ o. after (after o (λ e. after rest (λ es. Ok (e ∷ es)))) (λ r. Ok (done ++ r))) (sym here) ∙ joined e done rest ∙ ap (λ s. after s (λ r. Ok ((done ++ e ∷ []) ++ r))) (sym (entries_saturated read (n + count d.instructions) ds) ∙ ap (λ m. entries_from read m ds) (sym step))
