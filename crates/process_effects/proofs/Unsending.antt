-- What takes messages and answers back, the last first.
use Rattle.std.proofs.Common.{◌≡◌, ℕ, zero, suc, ◌-◌, ◌<◌, ◌≤◌, List, [], ◌∷◌, ◌++◌, length, drop, get_or, None, refl, sym, ap, subst, ◌∙◌, arith}
use Rattle.process_effects.specs.Parted.{AllReopen, all_reopened, all_unsent}
use Rattle.process_effects.specs.declared.answers.Closed.{Closed}
use Rattle.process_store.specs.Changes.{CanReopen, reopened}
use Rattle.process_store.specs.Living.{unarrived}
use Rattle.process_store.specs.Table.{Table, changed}

pub unsent_push : (ps : List ℕ) (p : ℕ) (t : Table) → all_unsent (ps ++ p ∷ []) t ≡ all_unsent ps (changed (unarrived None) p t)
unsent_push [] p t = refl
unsent_push (q ∷ qs) p t = ap (changed (unarrived None) q) (unsent_push qs p t)

pub reopened_push : (cs : List Closed) (c : Closed) (t : Table) → all_reopened (cs ++ c ∷ []) t ≡ all_reopened cs (reopened c.pid c.call t)
reopened_push [] c t = refl
reopened_push (d ∷ ds) c t = ap (reopened d.pid d.call) (reopened_push ds c t)

pub reopens_push : (cs : List Closed) (c : Closed) (t : Table) → CanReopen c.pid c.call t → AllReopen cs (reopened c.pid c.call t) → AllReopen (cs ++ c ∷ []) t
reopens_push [] c t last rest = (tt, last)
reopens_push (d ∷ ds) c t last rest =
    (reopens_push ds c t last rest.0, subst (CanReopen d.pid d.call) (sym (reopened_push ds c t)) rest.1)

pub reopens_drop : (k : ℕ) (cs : List Closed) (t : Table) → AllReopen cs t → AllReopen (drop k cs) t
reopens_drop zero cs t all = all
reopens_drop (suc k) [] t all = tt
reopens_drop (suc k) (c ∷ cs) t all = reopens_drop k cs t all.0

-- a call that was closed is noted
pub answered_fits : (cs : List Closed) (c : Closed) (before after : Table) → CanReopen c.pid c.call after → reopened c.pid c.call after ≡ before → AllReopen cs before → AllReopen (cs ++ c ∷ []) after
answered_fits cs c before after can back all = reopens_push cs c after can (subst (AllReopen cs) (sym back) all)

pub answered_back : (cs : List Closed) (c : Closed) (before after : Table) → reopened c.pid c.call after ≡ before → all_reopened (cs ++ c ∷ []) after ≡ all_reopened cs before
answered_back cs c before after back = reopened_push cs c after ∙ ap (all_reopened cs) back

-- the one before those that are open again can be
reopens_at : (cs : List Closed) (k : ℕ) (d : Closed) (t : Table) → k < length cs → AllReopen cs t → CanReopen (get_or cs k d).pid (get_or cs k d).call (all_reopened (drop (suc k) cs) t)
reopens_at [] k d t within all = absurd (omega (arith, within))
reopens_at (c ∷ cs) zero d t within all = all.1
reopens_at (c ∷ cs) (suc k) d t within all = reopens_at cs k d t (omega (arith, within)) all.0

pub reopens_next : (cs : List Closed) (index : ℕ) (d : Closed) (t now : Table) → 0 < index → index ≤ length cs → AllReopen cs t → now ≡ all_reopened (drop index cs) t → CanReopen (get_or cs (index - 1) d).pid (get_or cs (index - 1) d).call now
reopens_next cs index d t now some within all is =
    let k = index - 1 in
    let next : suc k ≡ index = omega (arith, some) in
    subst (CanReopen (get_or cs k d).pid (get_or cs k d).call) (sym (is ∙ ap (λ n. all_reopened (drop n cs) t) (sym next))) (reopens_at cs k d t (omega (arith, some, within)) all)
