-- The record of one instruction more.
use Rattle.std.proofs.Common.{◌≡◌, ◌∙◌, ◌-◌, ◌<◌, ℕ, List, [], ◌∷◌, ◌++◌, Option, Some, None, Result, Ok, Err, IfOk, All, refl, sym, ap, subst, length, slice_get, true, false, arith}
use Rattle.std.proofs.lemmas.List.{length-append}
use Rattle.std.proofs.lemmas.List.Elements.{All-append, All-cons}
use Rattle.values.proofs.Edits.{slice_get-end}
use Rattle.rehearsals.specs.Ways.{is_carried_out}
use Rattle.rehearsals.specs.declared.station.JobsRun.{JobsRun}
use Rattle.rehearsals.specs.declared.station.Station.{Station as Seen}
use Rattle.rehearsals.specs.declared.way.Way.{Way}
use Rattle.rehearsals.specs.declared.happening.Happening.{Happening}
use Rattle.rehearsals.specs.declared.station.Outcome.{Outcome}
use Rattle.node_types.specs.declared.event.Answer.{Answer}
use Rattle.node_types.specs.declared.event.Event.TheVariants.{Advance, Install}
use Rattle.node_types.specs.declared.event.Refusal.{Refusal}
use Rattle.node_views.specs.declared.node_view.NodeView.{NodeView}
use Rattle.rehearsals.specs.Observing.{view_of}
use Rattle.upgrade_rehearsal.proofs.Leading.{leads_as, leads_then, one_stage}
use Rattle.upgrade_rehearsal.proofs.Performing.{performed_occurs}
use Rattle.upgrade_rehearsal.specs.Parts.{Begins, HasCome, IsAhead, IsRefusedWay, IsSettled, IsWholeWay}
use Rattle.upgrade_rehearsal.specs.Players.{Leads, Performed, stage_of}
use Rattle.upgrade_rehearsal.specs.Seen.{AreSeen, ComesTo, GoesWithJobs, IsGoneThrough, IsSeen, IsTried, IsWay, node_view}
use Rattle.upgrade_rehearsal.specs.Stages.{AllCome, AllTake, IsRestless, Occurs, Plays, Stage}
use Rattle.upgrade_rehearsal.specs.Sequences.{Then}
use Rattle.upgrade_rehearsal.specs.declared.player.Player.{Player}
use Rattle.upgrade_rehearsal.specs.declared.arrival.Arrival.{Arrival}

pub seen_more : (traffic : List Arrival) (ss : List Seen) (s : Seen) (old between new : Stage) → AreSeen traffic old ss between →
    IsSeen traffic between s new → AreSeen traffic old (ss ++ s ∷ []) new
seen_more traffic [] s old between new so_far one = (new, subst (λ b. IsSeen traffic b s new) so_far one, refl)
seen_more traffic (t ∷ ts) s old between new so_far one =
    (so_far.0, so_far.1, seen_more traffic ts s so_far.0 between new so_far.2 one)

-- the last one is that one
pub last_behind : {X : Type 0} (xs : List X) (x : X) → slice_get (xs ++ x ∷ []) (length (xs ++ x ∷ []) - 1) ≡ Some x
last_behind xs x =
    let at : length (xs ++ x ∷ []) - 1 ≡ length xs = omega (arith, length-append xs (x ∷ [])) in
    ap (λ n. slice_get (xs ++ x ∷ []) n) at ∙ slice_get-end xs x

pub all_more : (ss : List Seen) (s : Seen) → All (λ x. is_carried_out x.outcome ≡ true) ss → is_carried_out s.outcome ≡ true →
    All (λ x. is_carried_out x.outcome ≡ true) (ss ++ s ∷ [])
all_more ss s all one =
    let Carried : Seen → Type 0 = λ x. is_carried_out x.outcome ≡ true in
    All-append Carried ss (s ∷ []) all (All-cons Carried s [] one (λ k d less. absurd (omega (arith, less))))

-- After the last instruction the node is as it was seen then, or if there was none, as the script began.
pub last_seen : (ss : List Seen) (s : Seen) (begun view : NodeView) → s.view ≡ view →
    view_of (slice_get (ss ++ s ∷ []) (length (ss ++ s ∷ []) - 1)) begun ≡ view
last_seen ss s begun view is = ap (λ o. view_of o begun) (last_behind ss s) ∙ is

-- One instruction more was run: its record is appended to the others.

pub seen_through : (traffic : List Arrival) (ss more : List Seen) (s : Seen) (old between new : Stage) → more ≡ ss ++ s ∷ [] →
    AreSeen traffic old ss between → IsSeen traffic between s new → AreSeen traffic old more new
seen_through traffic ss more s old between new is so_far one =
    subst (λ xs. AreSeen traffic old xs new) (sym is) (seen_more traffic ss s old between new so_far one)

pub carried_through : (ss more : List Seen) (s : Seen) → more ≡ ss ++ s ∷ [] → All (λ x. is_carried_out x.outcome ≡ true) ss →
    is_carried_out s.outcome ≡ true → All (λ x. is_carried_out x.outcome ≡ true) more
carried_through ss more s is all one = subst (λ xs. All (λ x. is_carried_out x.outcome ≡ true) xs) (sym is) (all_more ss s all one)

pub view_through : (ss more : List Seen) (s : Seen) (begun view : NodeView) → more ≡ ss ++ s ∷ [] → s.view ≡ view →
    view_of (slice_get more (length more - 1)) begun ≡ view
view_through ss more s begun view is at =
    subst (λ xs. view_of (slice_get xs (length xs - 1)) begun ≡ view) (sym is) (last_seen ss s begun view at)

-- With it the script has ended.
pub gone_through : (ss more : List Seen) (s : Seen) → more ≡ ss ++ s ∷ [] → All (λ x. is_carried_out x.outcome ≡ true) ss →
    is_carried_out s.outcome ≡ false → IsGoneThrough more
gone_through ss more s is all end = record { before = ss; last = s; parts = is; carried_out = all; ended = end }

-- What an executed instruction causes, by what was done: what trials had caused was cleared away, the script was advanced, and
-- the traffic was played.
pub has_come : (traffic : List Arrival) (old cleared gone played new : Player) (told : Outcome) (seen_behind seen_after : NodeView)
    (restless : Option ℕ) (happened : List Happening) → cleared.journal ≡ old.journal → cleared.arrivals ≡ old.arrivals → cleared.sent.items ≡ [] →
    Leads (ComesTo (Advance false) told) cleared gone → seen_behind ≡ node_view (stage_of gone).node → Leads (Plays traffic) gone played →
    IsSettled seen_after restless (stage_of played) → happened ≡ played.sent.items → new.journal ≡ played.journal →
    new.arrivals ≡ played.arrivals →
    HasCome traffic (stage_of old) told seen_behind seen_after restless happened (stage_of new)
has_come traffic old cleared gone played new told seen_behind seen_after restless happened same_journal same_count empty step behind plays after sent
    journal arrivals =
    let same : stage_of new ≡ stage_of played = one_stage played new journal arrivals in
    let before : stage_of cleared ≡ stage_of old = one_stage old cleared same_journal same_count in
    record {
      behind = stage_of gone;
      with_it = step.sent;
      step = subst (λ st. ComesTo (Advance false) told st step.sent (stage_of gone)) before step.scene;
      behind_is = behind;
      with_traffic = plays.sent;
      plays = subst (λ st. Plays traffic (stage_of gone) plays.sent st) (sym same) plays.scene;
      after_is = after.0 ∙ ap (λ (st : Stage). node_view st.node) (sym same);
      restless_is = subst (λ st. IsRestless st restless) (sym same) after.1;
      happened_are = sent ∙ plays.kept ∙ ap (λ ms. ms ++ plays.sent) (step.kept ∙ ap (λ ms. ms ++ step.sent) empty);
    }

-- The record of an instruction, by its parts.
pub seen_by : (traffic : List Arrival) (old back new : Stage) (s : Seen) → back ≡ old →
    IsAhead traffic old s.instruction s.outlook s.jobs s.is_as_before →
    HasCome traffic back s.outcome s.behind s.view s.restless s.happened new → IsSeen traffic old s new
seen_by traffic old back new s same ahead come = record {
  instruction = ahead.next;
  outlook = ahead.known;
  jobs = ahead.tried;
  behind = come.behind;
  with_it = come.with_it;
  step = subst (λ st. ComesTo (Advance false) s.outcome st come.with_it come.behind) same come.step;
  seen_behind = come.behind_is;
  with_traffic = come.with_traffic;
  plays = come.plays;
  seen_after = come.after_is;
  restless = come.restless_is;
  happened = come.happened_are;
  undone = ahead.undone;
}

-- The trial of an instruction while jobs run, by what was done: all of the traffic was sent, and so many processes took a
-- message.
pub tried_with : (traffic : List Arrival) (jobs : ℕ) (old between laden : Player) (run : JobsRun) →
    Leads (AllCome traffic) old between → Leads (AllTake jobs) between laden → run.jobs ≡ jobs → 0 < jobs →
    GoesWithJobs run.waits_for run.outcome (stage_of laden) → IsTried traffic (stage_of old) (Some run)
tried_with traffic jobs old between laden run come take is some goes =
    let both : Leads (Then (AllCome traffic) (AllTake run.jobs)) old laden =
    leads_then (AllCome traffic) (AllTake run.jobs) old between laden come
    (subst (λ n. Leads (AllTake n) between laden) (sym is) take) in
    (both.sent, stage_of laden, both.scene, subst (λ n. 0 < n) (sym is) some, goes)

-- An install that is performed begins, or is refused.

pub begins_by : (vsn asked : List ℕ) (old new : Player) (done : Result Answer Refusal) (told : Answer) → vsn ≡ asked →
    done ≡ Ok told → Performed old (Install vsn) done new → Leads (Begins asked None) old new
begins_by vsn asked old new done told same is w =
    let begins : Leads (Begins vsn None) old new =
    leads_as (Occurs (Install vsn) (Ok told)) (Begins vsn None) old new (λ sent occurs. (told, occurs))
    (performed_occurs old new (Install vsn) (Ok told) (subst (λ d. Performed old (Install vsn) d new) is w)) in
    subst (λ v. Leads (Begins v None) old new) same begins

pub refused_by : (vsn asked : List ℕ) (old new : Player) (done : Result Answer Refusal) (why : Refusal) → vsn ≡ asked →
    done ≡ Err why → Performed old (Install vsn) done new → Leads (Begins asked (Some why)) old new
refused_by vsn asked old new done why same is w =
    let refused : Leads (Begins vsn (Some why)) old new =
    performed_occurs old new (Install vsn) (Err why) (subst (λ d. Performed old (Install vsn) d new) is w) in
    subst (λ v. Leads (Begins v (Some why)) old new) same refused

-- A way by its parts: the install was refused, or the script was run to its end.

refused_way : (traffic : List Arrival) (vsn : List ℕ) (why : Refusal) (w : Way) (old new : Player) →
    Leads (Begins vsn (Some why)) old new → IsRefusedWay why (stage_of new) w → IsWay traffic (stage_of old) vsn w (stage_of new)
refused_way traffic vsn why w old new begins seen = record {
  told = Err why;
  sent = begins.sent;
  begun = stage_of new;
  install = begins.scene;
  seen = seen.begun;
  goes = (seen.refusal, seen.stations, seen.lingering, refl);
}

whole_way : (traffic : List Arrival) (vsn : List ℕ) (w : Way) (old begun new : Player) → Leads (Begins vsn None) old begun →
    IsWholeWay traffic (stage_of begun) w (stage_of new) → IsWay traffic (stage_of old) vsn w (stage_of new)
whole_way traffic vsn w old begun new begins seen = record {
  told = Ok begins.scene.0;
  sent = begins.sent;
  begun = stage_of begun;
  install = begins.scene.1;
  seen = seen.seen;
  goes = (seen.refusal, seen.stations, seen.through, seen.lingering);
}

pub goes_nowhere : {E : Type 0} (r : Result Way E) (traffic : List Arrival) (vsn : List ℕ) (o : Option Refusal) (why : Refusal)
    (old new : Player) → o ≡ Some why → Leads (Begins vsn o) old new → IfOk r (λ w. IsRefusedWay why (stage_of new) w) →
    IfOk r (λ w. IsWay traffic (stage_of old) vsn w (stage_of new))
goes_nowhere (Ok w) traffic vsn o why old new is begins seen =
    refused_way traffic vsn why w old new (subst (λ x. Leads (Begins vsn x) old new) is begins) seen
goes_nowhere (Err e) traffic vsn o why old new is begins seen = tt

pub goes_to_end : {E : Type 0} (r : Result Way E) (traffic : List Arrival) (vsn : List ℕ) (o : Option Refusal)
    (old begun new : Player) → o ≡ None → Leads (Begins vsn o) old begun →
    IfOk r (λ w. IsWholeWay traffic (stage_of begun) w (stage_of new)) →
    IfOk r (λ w. IsWay traffic (stage_of old) vsn w (stage_of new))
goes_to_end (Ok w) traffic vsn o old begun new is begins seen =
    whole_way traffic vsn w old begun new (subst (λ x. Leads (Begins vsn x) old begun) is begins) seen
goes_to_end (Err e) traffic vsn o old begun new is begins seen = tt
