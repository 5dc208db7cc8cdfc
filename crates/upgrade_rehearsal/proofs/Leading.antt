-- How a player continues and goes back, step by step.
use Rattle.std.proofs.Common.{◌≡◌, ◌∙◌, ◌<◌, ◌≤◌, ℕ, ◌+◌, List, [], ◌∷◌, ◌++◌, Some, Result, Ok, Err, OnOk, refl, sym, ap, subst, length, take, get_or}
use Rattle.std.proofs.lemmas.List.{append-nil, append_assoc, take_all, take_more}
use Rattle.node_core.specs.Node.{NodeState}
use Rattle.rehearsals.specs.declared.happening.Happening.{Happening}
use Rattle.undo_journal.specs.Timeline.{cut_to, here}
use Rattle.upgrade_rehearsal.proofs.Going.{back_both, back_to, goes_both, goes_from, here_again, mark_again, stays}
use Rattle.upgrade_rehearsal.proofs.Sequences.{once_more}
use Rattle.upgrade_rehearsal.specs.Going.{Extends}
use Rattle.upgrade_rehearsal.specs.Players.{IsBackAt, IsBookmark, Leads, stage_of}
use Rattle.upgrade_rehearsal.specs.Stages.{Scene, Stage}
use Rattle.upgrade_rehearsal.specs.Sequences.{InTurn, Then}
use Rattle.upgrade_rehearsal.specs.declared.player.Bookmark.{Bookmark}
use Rattle.upgrade_rehearsal.specs.declared.player.Player.{Player}

abbrev stage : NodeState → ℕ → Stage
stage node arrivals = record { node = node; arrivals = arrivals }

-- if two journals and counts are the same, so are the stages
pub one_stage : (old new : Player) → new.journal ≡ old.journal → new.arrivals ≡ old.arrivals → stage_of new ≡ stage_of old
one_stage old new journal arrivals =
    ap (λ j. stage (here j).node new.arrivals) journal ∙ ap (λ k. stage (here old.journal).node k) arrivals

-- a player that is back is at the stage where it was
pub stage_again : (old new : Player) → IsBackAt old new → stage_of new ≡ stage_of old
stage_again old new back =
    ap (λ s. stage s.node new.arrivals) (here_again old.journal new.journal back.journal)
    ∙ ap (λ k. stage (here old.journal).node k) back.arrivals

-- It goes back to a bookmark from where it continued to, and the bookmark names the place again.

pub back_at : (b : Bookmark) (old between new : Player) → IsBookmark b old → Extends old.journal between.journal →
    cut_to b.mark between.journal ≡ Some new.journal → new.arrivals ≡ b.arrivals → IsBackAt old new
back_at b old between new is on cut arrivals = record {
  journal = back_to b.mark old.journal between.journal new.journal is.mark on cut;
  arrivals = arrivals ∙ is.arrivals;
}

pub bookmark_again : (b : Bookmark) (old new : Player) → IsBackAt old new → IsBookmark b old → IsBookmark b new
bookmark_again b old new back is = record {
  mark = mark_again b.mark old.journal new.journal back.journal is.mark;
  arrivals = is.arrivals ∙ sym back.arrivals;
}

pub back_twice : (old between new : Player) → IsBackAt old between → IsBackAt between new → IsBackAt old new
back_twice old between new one other = record {
  journal = back_both old.journal between.journal new.journal one.journal other.journal;
  arrivals = other.arrivals ∙ one.arrivals;
}

pub back_same : (old between new : Player) → IsBackAt old between → new.journal ≡ between.journal →
    new.arrivals ≡ between.arrivals → IsBackAt old new
back_same old between new one journal arrivals = record {
  journal = record {
    first = ap (λ j. j.first) journal ∙ one.journal.first;
    later = ap (λ j. j.later) journal ∙ one.journal.later;
  };
  arrivals = arrivals ∙ one.arrivals;
}

-- the same scenes, defined otherwise
pub leads_as : (S T : Scene) (old new : Player) →
    ((sent : List Happening) → S (stage_of old) sent (stage_of new) → T (stage_of old) sent (stage_of new)) → Leads S old new →
    Leads T old new
leads_as S T old new then l = record { journal = l.journal; sent = l.sent; scene = then l.sent l.scene; kept = l.kept }

-- first this, and then that
pub leads_then : (S T : Scene) (old between new : Player) → Leads S old between → Leads T between new → Leads (Then S T) old new
leads_then S T old between new one other = record {
  journal = goes_both old.journal between.journal new.journal one.journal other.journal;
  sent = one.sent ++ other.sent;
  scene = record {
    between = stage_of between;
    before = one.sent;
    first = one.scene;
    behind = other.sent;
    second = other.scene;
    all = refl;
  };
  kept = other.kept ∙ ap (λ ms. ms ++ other.sent) one.kept ∙ append_assoc old.sent.items one.sent other.sent;
}

module _ {X : Type 0} (R : X → Scene) where
  -- no item is done
  pub leads_nowhere : (p : Player) → Leads (InTurn R []) p p
  leads_nowhere p = record { journal = stays p.journal; sent = []; scene = (refl, refl); kept = sym (append-nil p.sent.items) }

  -- one more item is done
  pub leads_once_more : (xs : List X) (x : X) (old between new : Player) → Leads (InTurn R xs) old between →
      Leads (R x) between new → Leads (InTurn R (xs ++ x ∷ [])) old new
  leads_once_more xs x old between new so_far one = record {
    journal = goes_both old.journal between.journal new.journal so_far.journal one.journal;
    sent = so_far.sent ++ one.sent;
    scene = once_more R xs x (stage_of old) (stage_of between) (stage_of new) so_far.sent one.sent so_far.scene one.scene;
    kept = one.kept ∙ ap (λ ms. ms ++ one.sent) so_far.kept ∙ append_assoc old.sent.items so_far.sent one.sent;
  }

  -- the next item of a list is done, and after the last one all are
  pub leads_next : (xs : List X) (n : ℕ) (x : X) (old between new : Player) → n < length xs → x ≡ get_or xs n x →
      Leads (InTurn R (take n xs)) old between → Leads (R x) between new → Leads (InTurn R (take (n + 1) xs)) old new
  leads_next xs n x old between new within item so_far one =
      let more : take (n + 1) xs ≡ take n xs ++ x ∷ [] = take_more xs n x within ∙ ap (λ y. take n xs ++ y ∷ []) (sym item) in
      subst (λ ys. Leads (InTurn R ys) old new) (sym more) (leads_once_more (take n xs) x old between new so_far one)

  pub leads_all : (xs : List X) (n : ℕ) (old new : Player) → length xs ≤ n → Leads (InTurn R (take n xs)) old new →
      Leads (InTurn R xs) old new
  leads_all xs n old new past so_far = subst (λ ys. Leads (InTurn R ys) old new) (take_all n xs past) so_far

-- if only what is kept of events differs, it continues as before
pub goes_same : (old new : Player) → new.journal ≡ old.journal → Extends old.journal new.journal
goes_same old new same = subst (λ j. Extends old.journal j) (sym same) (stays old.journal)

pub goes_behind : (old between new : Player) → IsBackAt old between → Extends between.journal new.journal → Extends old.journal new.journal
goes_behind old between new back on = goes_from old.journal between.journal new.journal back.journal on

-- what continues if a call gives no error
pub on_ok : {T E : Type 0} (r : Result T E) (P Q : Type 0) → (P → Q) → OnOk r P → OnOk r Q
on_ok (Ok x) P Q then p = then p
on_ok (Err e) P Q then p = tt

pub whatever : {T E : Type 0} (r : Result T E) (P : Type 0) → P → OnOk r P
whatever (Ok x) P p = p
whatever (Err e) P p = tt
