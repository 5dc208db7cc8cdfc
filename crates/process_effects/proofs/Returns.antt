-- Processes leave the last first, and come back the last first.
use Rattle.std.proofs.Common.{◌≡◌, ℕ, All, List, [], ◌∷◌, ◌++◌, map, Option, None, Some, option_to_list, get_or, refl, sym, ap, subst, ◌∙◌}
use Rattle.std.proofs.lemmas.List.{append-nil, append_assoc}
use Rattle.std.proofs.lemmas.List.Elements.{All-pop}
use Rattle.std.proofs.lemmas.Option.{none-some, same_Some}
use Rattle.erl_ir.specs.Module.{Forms}
use Rattle.code_server.specs.Modules.{Table as Loaded}
use Rattle.process.specs.Ended.{ended, ended_with}
use Rattle.process_store.specs.declared.living.ProcessEntry.{ProcessEntry}
use Rattle.process_store.specs.Table.{Table, living}
use Rattle.process_store.specs.Vacating.{vacated}
use Rattle.process_effects.specs.Ends.{AllReturn, AllStand, EndsAs, EndsBack, HasCodeRefs, UndoesEnds, Returns, all_ended, all_vacated, ended_as, ended_of, returned}
use Rattle.process_effects.specs.declared.ending.EndedProcess.{EndedProcess}
use Rattle.process_effects.specs.declared.ending.ToldProcess.{ToldProcess}
use Rattle.process_store.proofs.Vacating.{vacated_nobody}
use Rattle.process_effects.proofs.Ends.{all_returned_more, kills_more, others_stay, stand_still}

-- one more that leaves, first

pub all_vacated_more : (ps : List ToldProcess) (p : ToldProcess) (t : Table) → all_vacated (map (λ q. q.pid) (ps ++ p ∷ [])) t ≡ all_vacated (map (λ q. q.pid) ps) (vacated p.pid t)
all_vacated_more [] p t = refl
all_vacated_more (q ∷ ps) p t = ap (vacated q.pid) (all_vacated_more ps p t)

pub all_ended_more : (ps : List ToldProcess) (p : ToldProcess) (t : Table) → all_ended (ps ++ p ∷ []) t ≡ option_to_list (ended_of p (living p.pid t)) ++ all_ended ps (vacated p.pid t)
all_ended_more [] p t = sym (append-nil (option_to_list (ended_of p (living p.pid t))))
all_ended_more (q ∷ ps) p t =
    (λ i. all_ended_more ps p t i ++ option_to_list (ended_of q (living q.pid (all_vacated_more ps p t i))))
    ∙ append_assoc (option_to_list (ended_of p (living p.pid t))) (all_ended ps (vacated p.pid t)) (option_to_list (ended_of q (living q.pid (all_vacated (map (λ r. r.pid) ps) (vacated p.pid t)))))

-- the last comes back first

pub all_return_less : (modules : Loaded Forms) (es : List EndedProcess) (e : EndedProcess) (t : Table) → AllReturn modules (es ++ e ∷ []) t → Returns modules e t × AllReturn modules es (returned modules e t)
all_return_less modules [] e t all = (all.1, tt)
all_return_less modules (x ∷ es) e t all =
    let rest = all_return_less modules es e t all.0 in
    (rest.0, (rest.1, subst (Returns modules x) (all_returned_more modules es e t) all.1))

-- what came back is what had ended, once it leaves again
pub leaves_again : (e : EndedProcess) (p : ToldProcess) (o : Option ProcessEntry) → p.pid ≡ e.pid → EndsAs e p.told o → ended_of p o ≡ Some e
leaves_again e p None same is = absurd is
leaves_again e p (Some l) same is = (λ i. ended_of (record p { pid = same i }) (Some l)) ∙ ap (λ x. Some x) is

-- A process that leaves, the last of some.

pub leaves_last : (ps others : List ToldProcess) (p : ToldProcess) (t after : Table) → ps ≡ others ++ p ∷ [] → after ≡ vacated p.pid t → all_vacated (map (λ q. q.pid) others) after ≡ all_vacated (map (λ q. q.pid) ps) t
leaves_last ps others p t after is gone =
    ap (all_vacated (map (λ (q : ToldProcess). q.pid) others)) gone ∙ sym (all_vacated_more others p t) ∙ ap (λ x. all_vacated (map (λ (q : ToldProcess). q.pid) x) t) (sym is)

pub ended_last : (ps others : List ToldProcess) (p : ToldProcess) (t after : Table) (o : Option EndedProcess) (out now : List EndedProcess) → ps ≡ others ++ p ∷ [] → after ≡ vacated p.pid t → o ≡ ended_of p (living p.pid t) → now ≡ out ++ option_to_list o → now ++ all_ended others after ≡ out ++ all_ended ps t
ended_last ps others p t after o out now is gone ends more =
    (λ i. more i ++ all_ended others (gone i))
    ∙ append_assoc out (option_to_list o) (all_ended others (vacated p.pid t))
    ∙ ap (λ x. out ++ x) (ap (λ x. option_to_list x ++ all_ended others (vacated p.pid t)) ends ∙ sym (all_ended_more others p t) ∙ ap (λ x. all_ended x t) (sym is))

-- where nobody lives nothing changes

gone_is : (p : ToldProcess) (o : Option ProcessEntry) → None ≡ ended_of p o → o ≡ None
gone_is p None is = refl
gone_is p (Some l) is = absurd (none-some (ended_as p.pid p.told.rests_in p.told.code l) is)

pub nobody_leaves : (p : ToldProcess) (t after : Table) → None ≡ ended_of p (living p.pid t) → after ≡ vacated p.pid t → after ≡ t
nobody_leaves p t after is gone = gone ∙ ap (λ x. record { slots = x }) (vacated_nobody t.slots p.pid (gone_is p (living p.pid t) is))

-- the instances of the others are told as before

told_still : (ps : List ToldProcess) (pid : ℕ) (t : Table) → All (λ p. HasCodeRefs p.told (living p.pid t)) ps → All (λ p. HasCodeRefs p.told (living p.pid (vacated pid t))) ps
told_still ps pid t told k d within =
    let q = get_or ps k d in
    others_stay (λ l. ended_with q.told.rests_in q.told.code l.process ≡ ended l.process) t.slots pid q.pid (told k d within)

pub told_others : (ps others : List ToldProcess) (p : ToldProcess) (t after : Table) → ps ≡ others ++ p ∷ [] → after ≡ vacated p.pid t → All (λ q. HasCodeRefs q.told (living q.pid t)) ps → All (λ q. HasCodeRefs q.told (living q.pid after)) others
told_others ps others p t after is gone told =
    subst (λ x. All (λ q. HasCodeRefs q.told (living q.pid x)) others) (sym gone) (told_still others p.pid t (All-pop (λ q. HasCodeRefs q.told (living q.pid t)) ps others (Some p) is told).0)

pub told_last : (ps others : List ToldProcess) (p : ToldProcess) (t : Table) → ps ≡ others ++ p ∷ [] → All (λ q. HasCodeRefs q.told (living q.pid t)) ps → HasCodeRefs p.told (living p.pid t)
told_last ps others p t is told = (All-pop (λ q. HasCodeRefs q.told (living q.pid t)) ps others (Some p) is told).1

pub still_stand : (before t after : Table) (pid : ℕ) → after ≡ vacated pid t → ((modules : Loaded Forms) → AllStand modules before → AllStand modules t) → (modules : Loaded Forms) → AllStand modules before → AllStand modules after
still_stand before t after pid gone stands modules all = subst (AllStand modules) (sym gone) (stand_still modules t pid (stands modules all))

-- who has left can live again, and those before it

who_leaves : (o : Option ProcessEntry) (before t after : Table) (es : List EndedProcess) (e : EndedProcess) (p : ToldProcess) → living p.pid t ≡ o → Some e ≡ ended_of p o → after ≡ vacated p.pid t → ((modules : Loaded Forms) → AllStand modules before → AllStand modules t) → EndsBack e t after → UndoesEnds es before t → UndoesEnds (es ++ e ∷ []) before after
who_leaves None before t after es e p there is gone stands one all = absurd (none-some e (sym is))
who_leaves (Some l) before t after es e p there is gone stands one all =
    kills_more before t after es e p.pid p.told.rests_in p.told.code l there (sym (same_Some e (ended_as p.pid p.told.rests_in p.told.code l) is)) gone stands one all

pub kills_back : (before t after : Table) (es now : List EndedProcess) (e : EndedProcess) (p : ToldProcess) → Some e ≡ ended_of p (living p.pid t) → after ≡ vacated p.pid t → now ≡ es ++ e ∷ [] → ((modules : Loaded Forms) → AllStand modules before → AllStand modules t) → EndsBack e t after → UndoesEnds es before t → UndoesEnds now before after
kills_back before t after es now e p is gone more stands one all =
    subst (λ x. UndoesEnds x before after) (sym more) (who_leaves (living p.pid t) before t after es e p refl is gone stands one all)
