-- Those who linger in any of some modules are ended first, and then the modules are purged: that is the same as module after module.
use Rattle.std.proofs.Common.{◌≡◌, ℕ, zero, suc, Bool, true, false, cond, List, [], ◌∷◌, ◌++◌, is_some, map, Option, None, Some, refl, sym, ap, subst, ◌∙◌}
use Rattle.std.proofs.lemmas.Bool.{true≢false}
use Rattle.std.proofs.lemmas.List.{append_assoc}
use Rattle.std.specs.List.{filter}
use Rattle.erl_ir.specs.Module.{Forms}
use Rattle.erl_term.specs.declared.term.Term.{Term}
use Rattle.code_server.specs.Modules.{IsModuleTable, Table as Loaded, old_of, index_of, purged}
use Rattle.code_server.specs.declared.modules.Instance as loaded
use Rattle.process_effects.proofs.Kills.{users_leave}
use Rattle.process_effects.specs.Ends.{all_vacated}
use Rattle.process_effects.specs.Kills.{downs_of_each, unless_uses}
use Rattle.process_effects.specs.Told.{downs, killed}
use Rattle.process_effects.specs.Uses.{pids, uses}
use Rattle.process_store.specs.declared.living.ProcessEntry.{ProcessEntry}
use Rattle.process_store.specs.Table.{Table, living, living_at}
use Rattle.process_store.specs.Vacating.{vacated, vacated_slots}
use Rattle.code_loading.proofs.Consistency.{sound_purged}
use Rattle.code_loading.proofs.Emptied.{IsEmptied, emptied, other, own}
use Rattle.code_loading.specs.Loading.{lingering, lingering_in, purge_told_by, spared, spared_by}
use Rattle.code_loading.specs.Purging.{all_lingering, downs_of_purges, all_spared}

-- Processes leave in any order.

swapped_slots : (p q : ℕ) (slots : List (Option ProcessEntry)) → vacated_slots p (vacated_slots q slots) ≡ vacated_slots q (vacated_slots p slots)
swapped_slots p q [] = refl
swapped_slots zero zero (s ∷ ss) = refl
swapped_slots zero (suc q) (s ∷ ss) = refl
swapped_slots (suc p) zero (s ∷ ss) = refl
swapped_slots (suc p) (suc q) (s ∷ ss) = ap (λ rest. s ∷ rest) (swapped_slots p q ss)

swapped : (p q : ℕ) (t : Table) → vacated p (vacated q t) ≡ vacated q (vacated p t)
swapped p q t = ap (λ slots. record { slots = slots }) (swapped_slots p q t.slots)

one_first : (pid : ℕ) (others : List ℕ) (t : Table) → all_vacated others (vacated pid t) ≡ vacated pid (all_vacated others t)
one_first pid [] t = refl
one_first pid (q ∷ others) t = ap (vacated q) (one_first pid others t) ∙ swapped q pid (all_vacated others t)

both_vacated : (first others : List ℕ) (t : Table) → all_vacated (first ++ others) t ≡ all_vacated others (all_vacated first t)
both_vacated [] others t = refl
both_vacated (pid ∷ first) others t =
    ap (vacated pid) (both_vacated first others t) ∙ sym (one_first pid others (all_vacated first t))

lingering_leave : (o : Option (loaded.Instance Forms)) (t : Table) → all_vacated (lingering_in o t) t ≡ spared_by o t
lingering_leave None t = refl
lingering_leave (Some i) t = users_leave i.serial t

pub all_lingering_leave : (ns : List (List ℕ)) (m : Loaded Forms) (t : Table) → all_vacated (all_lingering ns m t) t ≡ all_spared ns m t
all_lingering_leave [] m t = refl
all_lingering_leave (n ∷ ns) m t =
    both_vacated (lingering n m t) (all_lingering ns (purged n m) (spared n m t)) t
    ∙ ap (all_vacated (all_lingering ns (purged n m) (spared n m t))) (lingering_leave (old_of n m) t)
    ∙ all_lingering_leave ns (purged n m) (spared n m t)

-- Each who lingers when a module's turn comes lived before, and was told the same then.

abbrev AreThere : List ℕ → Table → Type 0
AreThere [] t = Unit {0}
AreThere (pid ∷ rest) t = (is_some (living pid t) ≡ true) × AreThere rest t

there_both : (first others : List ℕ) (t : Table) → AreThere first t → AreThere others t → AreThere (first ++ others) t
there_both [] others t one two = two
there_both (pid ∷ first) others t one two = (one.0, there_both first others t one.1 two)

user_lives : (serial : ℕ) (o : Option ProcessEntry) → uses serial o ≡ true → is_some o ≡ true
user_lives serial None is = is
user_lives serial (Some l) is = refl

one_there : (serial pid : ℕ) (rest : List ℕ) (t : Table) (b : Bool) → uses serial (living pid t) ≡ b → AreThere rest t → AreThere (cond b (pid ∷ rest) rest) t
one_there serial pid rest t true is all = (user_lives serial (living pid t) is, all)
one_there serial pid rest t false is all = all

some_there : (serial : ℕ) (t : Table) (among : List ℕ) → AreThere (filter (λ pid. uses serial (living pid t)) among) t
some_there serial t [] = tt
some_there serial t (pid ∷ among) =
    one_there serial pid (filter (λ pid. uses serial (living pid t)) among) t (uses serial (living pid t)) refl (some_there serial t among)

lingering_there : (o : Option (loaded.Instance Forms)) (t : Table) → AreThere (lingering_in o t) t
lingering_there None t = tt
lingering_there (Some i) t = some_there i.serial t (pids t)

-- who lives once others were spared is who lived before

unless_gone : (o : Option ProcessEntry) (b : Bool) → is_some (cond b None o) ≡ true → cond b None o ≡ o
unless_gone o true is = absurd (true≢false (sym is))
unless_gone o false is = refl

same_living : (serial : ℕ) (slots : List (Option ProcessEntry)) (pid : ℕ) → is_some (living_at (map (unless_uses serial) slots) pid) ≡ true → living_at (map (unless_uses serial) slots) pid ≡ living_at slots pid
same_living serial [] pid is = refl
same_living serial (o ∷ slots) zero is = unless_gone o (uses serial o) is
same_living serial (o ∷ slots) (suc pid) is = same_living serial slots pid is

same_spared : (o : Option (loaded.Instance Forms)) (t : Table) (pid : ℕ) → is_some (living pid (spared_by o t)) ≡ true → living pid (spared_by o t) ≡ living pid t
same_spared None t pid is = refl
same_spared (Some i) t pid is = same_living i.serial t.slots pid is

there_before : (o : Option (loaded.Instance Forms)) (t : Table) (those : List ℕ) → AreThere those (spared_by o t) → AreThere those t
there_before o t [] all = tt
there_before o t (pid ∷ those) all =
    (ap is_some (sym (same_spared o t pid all.0)) ∙ all.0, there_before o t those all.1)

all_there : (ns : List (List ℕ)) (m : Loaded Forms) (t : Table) → AreThere (all_lingering ns m t) t
all_there [] m t = tt
all_there (n ∷ ns) m t =
    there_both (lingering n m t) (all_lingering ns (purged n m) (spared n m t)) t (lingering_there (old_of n m) t)
    (there_before (old_of n m) t (all_lingering ns (purged n m) (spared n m t)) (all_there ns (purged n m) (spared n m t)))

told_before : (o : Option (loaded.Instance Forms)) (t : Table) (those : List ℕ) → AreThere those (spared_by o t) → downs_of_each killed those t ≡ downs_of_each killed those (spared_by o t)
told_before o t [] all = refl
told_before o t (pid ∷ those) all = (λ j. downs killed (sym (same_spared o t pid all.0) j) ++ told_before o t those all.1 j)

told_both : (reason : Term) (first others : List ℕ) (t : Table) → downs_of_each reason (first ++ others) t ≡ downs_of_each reason first t ++ downs_of_each reason others t
told_both reason [] others t = refl
told_both reason (pid ∷ first) others t =
    ap (λ rest. downs reason (living pid t) ++ rest) (told_both reason first others t)
    ∙ sym (append_assoc (downs reason (living pid t)) (downs_of_each reason first t) (downs_of_each reason others t))

told_here : (o : Option (loaded.Instance Forms)) (t : Table) → downs_of_each killed (lingering_in o t) t ≡ purge_told_by o t
told_here None t = refl
told_here (Some i) t = refl

pub all_lingering_told : (ns : List (List ℕ)) (m : Loaded Forms) (t : Table) → downs_of_each killed (all_lingering ns m t) t ≡ downs_of_purges ns m t
all_lingering_told [] m t = refl
all_lingering_told (n ∷ ns) m t =
    let rest = all_lingering ns (purged n m) (spared n m t) in
    told_both killed (lingering n m t) rest t
    ∙ (λ j. told_here (old_of n m) t j ++ (told_before (old_of n m) t rest (all_there ns (purged n m) (spared n m t)) ∙ all_lingering_told ns (purged n m) (spared n m t)) j)

-- Who lingers when a module's turn comes can be told by the modules before the first purge: what was purged nobody uses any more.

abbrev pub left_lingering : List (List ℕ) → Loaded Forms → Table → List ℕ
left_lingering [] m t = []
left_lingering (n ∷ ns) m t = lingering n m t ++ left_lingering ns m (spared n m t)

abbrev IsUnused : Option (loaded.Instance Forms) → Table → Type 0
IsUnused None t = Unit {0}
IsUnused (Some i) t = (pid : ℕ) → uses i.serial (living pid t) ≡ false

none_pass : (test : ℕ → Bool) (xs : List ℕ) → ((x : ℕ) → test x ≡ false) → filter test xs ≡ []
none_pass test [] none = refl
none_pass test (x ∷ xs) none =
    ap (λ b. cond b (x ∷ filter test xs) (filter test xs)) (none x) ∙ none_pass test xs none

none_go : (serial : ℕ) (slots : List (Option ProcessEntry)) → ((pid : ℕ) → uses serial (living_at slots pid) ≡ false) → map (unless_uses serial) slots ≡ slots
none_go serial [] none = refl
none_go serial (o ∷ slots) none =
    (λ j. cond (none 0 j) None o ∷ none_go serial slots (λ pid. none (suc pid)) j)

unused_lingering : (o : Option (loaded.Instance Forms)) (t : Table) → IsUnused o t → lingering_in o t ≡ []
unused_lingering None t unused = refl
unused_lingering (Some i) t unused = none_pass (λ pid. uses i.serial (living pid t)) (pids t) unused

unused_spared : (o : Option (loaded.Instance Forms)) (t : Table) → IsUnused o t → spared_by o t ≡ t
unused_spared None t unused = refl
unused_spared (Some i) t unused = ap (λ slots. record { slots = slots }) (none_go i.serial t.slots unused)

-- and it stays so where others are spared

kept_unused : (serial : ℕ) (o : Option ProcessEntry) (b : Bool) → uses serial o ≡ false → uses serial (cond b None o) ≡ false
kept_unused serial o true none = refl
kept_unused serial o false none = none

slots_unused : (serial gone : ℕ) (slots : List (Option ProcessEntry)) (pid : ℕ) → uses serial (living_at slots pid) ≡ false → uses serial (living_at (map (unless_uses gone) slots) pid) ≡ false
slots_unused serial gone [] pid none = none
slots_unused serial gone (o ∷ slots) zero none = kept_unused serial o (uses gone o) none
slots_unused serial gone (o ∷ slots) (suc pid) none = slots_unused serial gone slots pid none

still_unused : (o here : Option (loaded.Instance Forms)) (t : Table) → IsUnused o t → IsUnused o (spared_by here t)
still_unused None here t unused = tt
still_unused (Some i) None t unused = unused
still_unused (Some i) (Some gone) t unused = λ pid. slots_unused i.serial gone.serial t.slots pid (unused pid)

own_unused : (serial : ℕ) (o : Option ProcessEntry) (b : Bool) → uses serial o ≡ b → uses serial (cond b None o) ≡ false
own_unused serial o true is = refl
own_unused serial o false is = is

slots_emptied : (serial : ℕ) (slots : List (Option ProcessEntry)) (pid : ℕ) → uses serial (living_at (map (unless_uses serial) slots) pid) ≡ false
slots_emptied serial [] pid = refl
slots_emptied serial (o ∷ slots) zero = own_unused serial o (uses serial o) refl
slots_emptied serial (o ∷ slots) (suc pid) = slots_emptied serial slots pid

spared_unused : (o : Option (loaded.Instance Forms)) (t : Table) → IsUnused o (spared_by o t)
spared_unused None t = tt
spared_unused (Some i) t = λ pid. slots_emptied i.serial t.slots pid

-- The modules `now`, of which some were purged, by those before: each module has the old code that it had, or none, and then nobody uses
-- what it had.

data IsPurged (k : List ℕ) (m now : Loaded Forms) (t : Table) : Type 0 where
  same : old_of k now ≡ old_of k m → IsPurged k m now t
  gone : old_of k now ≡ None → IsUnused (old_of k m) t → IsPurged k m now t

lingers_same : (k : List ℕ) (m now : Loaded Forms) (t : Table) → IsPurged k m now t → lingering k now t ≡ lingering k m t
lingers_same k m now t (same is) = ap (λ o. lingering_in o t) is
lingers_same k m now t (gone none unused) =
    ap (λ o. lingering_in o t) none ∙ sym (unused_lingering (old_of k m) t unused)

spares_same : (k : List ℕ) (m now : Loaded Forms) (t : Table) → IsPurged k m now t → spared k now t ≡ spared k m t
spares_same k m now t (same is) = ap (λ o. spared_by o t) is
spares_same k m now t (gone none unused) =
    ap (λ o. spared_by o t) none ∙ sym (unused_spared (old_of k m) t unused)

one_more : (n k : List ℕ) (m now : Loaded Forms) (t : Table) → IsEmptied n k now → IsPurged k m now t → IsPurged k m (purged n now) (spared n m t)
one_more n k m now t (other is) (same was) = same (is ∙ was)
one_more n k m now t (other is) (gone none unused) = gone (is ∙ none) (still_unused (old_of k m) (old_of n m) t unused)
one_more n k m now t (own it none) (same was) =
    gone none (subst (λ x. IsUnused (old_of x m) (spared n m t)) it (spared_unused (old_of n m) t))
one_more n k m now t (own it none) (gone was unused) = gone none (still_unused (old_of k m) (old_of n m) t unused)

left_same : (ns : List (List ℕ)) (m now : Loaded Forms) (t : Table) → IsModuleTable now → ((k : List ℕ) → IsPurged k m now t) → all_lingering ns now t ≡ left_lingering ns m t
left_same [] m now t sound all = refl
left_same (n ∷ ns) m now t sound all =
    (λ j. lingers_same n m now t (all n) j ++ all_lingering ns (purged n now) (spares_same n m now t (all n) j))
    ∙ ap (λ rest. lingering n m t ++ rest) (left_same ns m (purged n now) (spared n m t) (sound_purged n now (index_of n now.entries) sound refl) (λ k. one_more n k m now t (emptied n k now sound) (all k)))

pub all_left_lingering : (ns : List (List ℕ)) (m : Loaded Forms) (t : Table) → IsModuleTable m → left_lingering ns m t ≡ all_lingering ns m t
all_left_lingering ns m t sound = sym (left_same ns m m t sound (λ k. same refl))
