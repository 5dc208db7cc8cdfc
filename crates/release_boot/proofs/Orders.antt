-- What is done of a list in order: of its front first, and then of what is behind it.
use Rattle.std.proofs.Common.{◌≡◌, inl, inr, ℕ, ◌<◌, ◌+◌, Bool, true, false, cond, Result, Ok, Err, IsErr, IsErrAnd, IfErr, List, [], ◌∷◌, ◌++◌, filter, length, map, take, drop, get_or, refl, sym, ap, subst, ◌∙◌}
use Rattle.std.proofs.lemmas.List.{append_assoc, take-append-drop, take_more}
use Rattle.erl_semantics.proofs.Tests.{from_here}
use Rattle.erl_ir.specs.Module.{Forms}
use Rattle.erl_semantics.specs.declared.instance.Instance.{Instance}
use Rattle.erl_term.specs.declared.term.Term.{Term}
use Rattle.app_table.specs.Applications.{Application}
use Rattle.code_server.specs.Modules.{Table as Loaded}
use Rattle.otp_files.specs.declared.applications.RelApp.{RelApp}
use Rattle.process_store.specs.Table.{Table}
use Rattle.release_boot.specs.Boot.{AllStart, EachStarts, Fails, FirstFails, all_loaded, is_started_as, to_start}
use Rattle.release_boot.specs.declared.error.BootError.{BootError}
use Rattle.release_boot.specs.declared.error.BootError.TheVariants.{NotStarted, Memory}

-- loads

pub loaded_both : (xs ys : List Forms) (t : Loaded Forms) → all_loaded (xs ++ ys) t ≡ all_loaded ys (all_loaded xs t)
loaded_both [] ys t = refl
loaded_both (m ∷ ms) ys t = loaded_both ms ys _

-- starts

pub both_start : (code : List Instance) (xs ys : List (List ℕ)) (apps mid_apps after_apps : List Application) (t mid after : Table) → AllStart code xs apps t mid_apps mid → AllStart code ys mid_apps mid after_apps after → AllStart code (xs ++ ys) apps t after_apps after
both_start code [] ys apps mid_apps after_apps t mid after first then =
    subst (λ (u : Table). AllStart code ys apps u after_apps after) first.1 (subst (λ (a : List Application). AllStart code ys a mid after_apps after) first.0 then)
both_start code (x ∷ xs) ys apps mid_apps after_apps t mid after (next_apps, next, starts, rest) then =
    (next_apps, next, starts, both_start code xs ys next_apps mid_apps after_apps next mid after rest then)

-- starts, where one that doesn't is passed over

pub each_of_both : (code : List Instance) (xs ys : List (List ℕ)) (apps mid_apps after_apps : List Application) (t mid after : Table) → EachStarts code xs apps t mid_apps mid → EachStarts code ys mid_apps mid after_apps after → EachStarts code (xs ++ ys) apps t after_apps after
each_of_both code [] ys apps mid_apps after_apps t mid after first then =
    subst (λ (u : Table). EachStarts code ys apps u after_apps after) first.1 (subst (λ (a : List Application). EachStarts code ys a mid after_apps after) first.0 then)
each_of_both code (x ∷ xs) ys apps mid_apps after_apps t mid after (next_apps, next, here, rest) then =
    (next_apps, next, here, each_of_both code xs ys next_apps mid_apps after_apps next mid after rest then)

-- the first that fails, behind those that start, and before others

fails_behind : (code : List Instance) (xs ys : List (List ℕ)) (apps mid_apps : List Application) (t mid : Table) (name : List ℕ) (reason : Term) → AllStart code xs apps t mid_apps mid → FirstFails code ys mid_apps mid name reason → FirstFails code (xs ++ ys) apps t name reason
fails_behind code [] ys apps mid_apps t mid name reason first fails =
    subst (λ (u : Table). FirstFails code ys apps u name reason) first.1 (subst (λ (a : List Application). FirstFails code ys a mid name reason) first.0 fails)
fails_behind code (x ∷ xs) ys apps mid_apps t mid name reason (next_apps, next, starts, rest) fails =
    inr (next_apps, next, starts, fails_behind code xs ys next_apps mid_apps next mid name reason rest fails)

fails_before : (code : List Instance) (xs ys : List (List ℕ)) (apps : List Application) (t : Table) (name : List ℕ) (reason : Term) → FirstFails code xs apps t name reason → FirstFails code (xs ++ ys) apps t name reason
fails_before code [] ys apps t name reason fails = absurd fails
fails_before code (x ∷ xs) ys apps t name reason (inl here) = inl here
fails_before code (x ∷ xs) ys apps t name reason (inr (next_apps, next, starts, fails)) = inr (next_apps, next, starts, fails_before code xs ys next_apps next name reason fails)

pub failing : (e : BootError) (code : List Instance) (xs ys zs : List (List ℕ)) (apps mid_apps : List Application) (t mid : Table) → AllStart code xs apps t mid_apps mid → Fails e code ys mid_apps mid → Fails e code (xs ++ (ys ++ zs)) apps t
failing (NotStarted app reason) code xs ys zs apps mid_apps t mid first fails =
    fails_behind code xs (ys ++ zs) apps mid_apps t mid app reason first (fails_before code ys zs mid_apps mid app reason fails)
failing Memory code xs ys zs apps mid_apps t mid first fails = tt

-- those that are to be started, of two lists

chosen : (b : Bool) (app : RelApp) (rest : List RelApp) → map (λ (a : RelApp). a.name) (cond b (app ∷ rest) rest) ≡ map (λ (a : RelApp). a.name) (cond b (app ∷ []) []) ++ map (λ (a : RelApp). a.name) rest
chosen true app rest = refl
chosen false app rest = refl

pub one_to_start : (app : RelApp) (apps : List RelApp) → to_start (app ∷ apps) ≡ to_start (app ∷ []) ++ to_start apps
one_to_start app apps = chosen (is_started_as app.start_type) app (filter (λ (a : RelApp). is_started_as a.start_type) apps)

pub both_to_start : (xs ys : List RelApp) → to_start (xs ++ ys) ≡ to_start xs ++ to_start ys
both_to_start [] ys = refl
both_to_start (x ∷ xs) ys =
    one_to_start x (xs ++ ys) ∙ ap (λ names. to_start (x ∷ []) ++ names) (both_to_start xs ys) ∙ sym (append_assoc (to_start (x ∷ [])) (to_start xs) (to_start ys)) ∙ ap (λ names. names ++ to_start ys) (sym (one_to_start x xs))

-- an error that is passed on
pub passed_on : {T E : Type 0} (Q : E → Type 0) (r : Result T E) (e : E) → IsErr r × IsErrAnd r (λ y. y ≡ e) → Q e → IfErr r Q
passed_on Q (Ok x) e is why = absurd is.1
passed_on Q (Err y) e is why = subst Q (sym is.1) why

-- one more of a list

pub one_more : {A : Type 0} (xs : List A) (index : ℕ) (x : A) → index < length xs → x ≡ get_or xs index x → take (index + 1) xs ≡ take index xs ++ x ∷ []
one_more xs index x within is = take_more xs index x within ∙ ap (λ y. take index xs ++ y ∷ []) (sym is)

pub all_around : {A : Type 0} (xs : List A) (index : ℕ) (x : A) → index < length xs → x ≡ get_or xs index x → xs ≡ take index xs ++ (x ∷ drop (index + 1) xs)
all_around xs index x within is = sym (take-append-drop index xs) ∙ ap (λ ys. take index xs ++ ys) (from_here xs index x within is)

-- the same, of what is equal

pub all_there : (code code2 : List Instance) (names names2 : List (List ℕ)) (a a2 b : List Application) (t t2 u : Table) → code ≡ code2 → names ≡ names2 → a ≡ a2 → t ≡ t2 → AllStart code names a t b u → AllStart code2 names2 a2 t2 b u
all_there code code2 names names2 a a2 b t t2 u same_code same_names same_apps same_table all =
    subst (λ (v : Table). AllStart code2 names2 a2 v b u) same_table (
    subst (λ (x : List Application). AllStart code2 names2 x t b u) same_apps (
    subst (λ (ns : List (List ℕ)). AllStart code2 ns a t b u) same_names (subst (λ (is : List Instance). AllStart is names a t b u) same_code all)
    )
    )

pub fails_there : (e : BootError) (code code2 : List Instance) (names names2 : List (List ℕ)) (a a2 : List Application) (t t2 : Table) → code ≡ code2 → names ≡ names2 → a ≡ a2 → t ≡ t2 → Fails e code names a t → Fails e code2 names2 a2 t2
fails_there e code code2 names names2 a a2 t t2 same_code same_names same_apps same_table fails =
    subst (λ (v : Table). Fails e code2 names2 a2 v) same_table (
    subst (λ (x : List Application). Fails e code2 names2 x t) same_apps (
    subst (λ (ns : List (List ℕ)). Fails e code2 ns a t) same_names (subst (λ (is : List Instance). Fails e is names a t) same_code fails)
    )
    )

pub each_there : (code code2 : List Instance) (names names2 : List (List ℕ)) (a a2 b : List Application) (t u : Table) → code ≡ code2 → names ≡ names2 → a ≡ a2 → EachStarts code names a t b u → EachStarts code2 names2 a2 t b u
each_there code code2 names names2 a a2 b t u same_code same_names same_apps each =
    subst (λ (x : List Application). EachStarts code2 names2 x t b u) same_apps (
    subst (λ (ns : List (List ℕ)). EachStarts code2 ns a t b u) same_names (subst (λ (is : List Instance). EachStarts is names a t b u) same_code each)
    )
