-- Purges are taken back the last first, and made again the other way round.
use Rattle.std.proofs.Common.{◌≡◌, ℕ, List, [], ◌∷◌, ◌++◌, refl, sym, ap, subst, ◌∙◌}
use Rattle.erl_ir.specs.Module.{Forms}
use Rattle.code_server.specs.Modules.{Table as Loaded, purged}
use Rattle.code_server.specs.Undo.{Fits, HasPurged, Redoes, undone}
use Rattle.code_server.specs.declared.undo.ModulesUndo.{ModulesUndo}
use Rattle.code_server.specs.declared.undo.Redo.{Redo}
use Rattle.code_loading.specs.Purging.{all_purged}
use Rattle.code_loading.specs.Unpurging.{AllUnpurge, Repurges, all_unpurged}

-- one purge more

pub all_unpurged_more : (us : List (ModulesUndo Forms)) (u : ModulesUndo Forms) (m : Loaded Forms) → all_unpurged (us ++ u ∷ []) m ≡ all_unpurged us (undone u m)
all_unpurged_more [] u m = refl
all_unpurged_more (x ∷ us) u m = ap (undone x) (all_unpurged_more us u m)

-- the last of some is taken back

pub record Last (us : List (ModulesUndo Forms)) (u : ModulesUndo Forms) (m : Loaded Forms) : Type 0 where
  pub fits : Fits u m
  pub purged : HasPurged u
  pub others : AllUnpurge us (undone u m)

pub last_of : (us : List (ModulesUndo Forms)) (u : ModulesUndo Forms) (m : Loaded Forms) → AllUnpurge (us ++ u ∷ []) m → Last us u m
last_of [] u m all = record { fits = all.1; purged = all.2; others = tt }
last_of (x ∷ us) u m all =
    let rest = last_of us u m all.0 in
    record {
      fits = rest.fits;
      purged = rest.purged;
      others = (rest.others, subst (Fits x) (all_unpurged_more us u m) all.1, all.2);
    }

pub with_last : (us : List (ModulesUndo Forms)) (u : ModulesUndo Forms) (m : Loaded Forms) → Last us u m → AllUnpurge (us ++ u ∷ []) m
with_last [] u m last = (tt, last.fits, last.purged)
with_last (x ∷ us) u m last =
    (with_last us u m (record { fits = last.fits; purged = last.purged; others = last.others.0 }), subst (Fits x) (sym (all_unpurged_more us u m)) last.others.1, last.others.2)

-- it can be made again first

pub one_back : (rs : List (Redo Forms)) (r : Redo Forms) (left : List (ModulesUndo Forms)) (u : ModulesUndo Forms) (now after : Loaded Forms) (all : List (ModulesUndo Forms)) (before : Loaded Forms) → Repurges rs (left ++ u ∷ []) now all before → Redoes r u now after → Repurges (rs ++ r ∷ []) left after all before
one_back [] r left u now after all before back redoes =
    (u, left, after, (refl, refl), sym back.0, subst (λ m. Redoes r u m after) back.1 redoes)
one_back (x ∷ rs) r left u now after all before back redoes =
    (back.0, back.1, back.2, one_back rs r left u now after back.1 back.2 back.3 redoes, back.4, back.5)

-- and is

pub record Again (rs : List (Redo Forms)) (r : Redo Forms) (left : List (ModulesUndo Forms)) (now : Loaded Forms) (all : List (ModulesUndo Forms)) (before : Loaded Forms) : Type 0 where
  pub undo : ModulesUndo Forms
  pub after : Loaded Forms
  pub redoes : Redoes r undo after now
  pub others : Repurges rs (left ++ undo ∷ []) after all before

pub one_again : (rs : List (Redo Forms)) (r : Redo Forms) (left : List (ModulesUndo Forms)) (now : Loaded Forms) (all : List (ModulesUndo Forms)) (before : Loaded Forms) → Repurges (rs ++ r ∷ []) left now all before → Again rs r left now all before
one_again [] r left now all before back = record {
  undo = back.0;
  after = before;
  redoes = subst (λ m. Redoes r back.0 before m) (sym back.3.1) back.5;
  others = (ap (λ us. us ++ back.0 ∷ []) back.3.0 ∙ sym back.4, refl);
}
one_again (x ∷ rs) r left now all before back =
    let it = one_again rs r left now back.1 back.2 back.3 in
    record {
      undo = it.undo;
      after = it.after;
      redoes = it.redoes;
      others = (back.0, back.1, back.2, it.others, back.4, back.5);
    }

-- what making the last again needs, and what it leaves to be made again

pub can_redo : (rs redos : List (Redo Forms)) (r : Redo Forms) (left : List (ModulesUndo Forms)) (now : Loaded Forms) (all : List (ModulesUndo Forms)) (before : Loaded Forms) → redos ≡ rs ++ r ∷ [] → Repurges redos left now all before → (u : ModulesUndo Forms) × (m : Loaded Forms) × Redoes r u m now
can_redo rs redos r left now all before is back =
    let it = one_again rs r left now all before (subst (λ x. Repurges x left now all before) is back) in
    (it.undo, it.after, it.redoes)

pub redone_last : (rs redos : List (Redo Forms)) (r : Redo Forms) (left more : List (ModulesUndo Forms)) (u : ModulesUndo Forms) (now after : Loaded Forms) (all : List (ModulesUndo Forms)) (before : Loaded Forms) → redos ≡ rs ++ r ∷ [] → more ≡ left ++ u ∷ [] → ((x : ModulesUndo Forms) (m : Loaded Forms) → Redoes r x m now → (u ≡ x) × (after ≡ m)) → Repurges redos left now all before → Repurges rs more after all before
redone_last rs redos r left more u now after all before is pushed gives back =
    let it = one_again rs r left now all before (subst (λ x. Repurges x left now all before) is back) in
    let same = gives it.undo it.after it.redoes in
    subst (λ us. Repurges rs us after all before) (sym (pushed ∙ ap (λ x. left ++ x ∷ []) same.0)) (subst (λ m. Repurges rs (left ++ it.undo ∷ []) m all before) (sym same.1) it.others)

-- Modules are purged one after the other.

-- a module's turn comes, which has no old code or has

pub none_more : (n : List ℕ) (ns here : List (List ℕ)) (now after : Loaded Forms) → here ≡ n ∷ ns → after ≡ purged n now → all_purged ns after ≡ all_purged here now
none_more n ns here now after at is = ap (all_purged ns) is ∙ ap (λ x. all_purged x now) (sym at)

pub one_more : (us more : List (ModulesUndo Forms)) (u : ModulesUndo Forms) (now after before : Loaded Forms) → more ≡ us ++ u ∷ [] → Fits u after → HasPurged u → undone u after ≡ now → AllUnpurge us now → all_unpurged us now ≡ before → AllUnpurge more after × (all_unpurged more after ≡ before)
one_more us more u now after before is fits has back all given =
    let last : Last us u after = record { fits = fits; purged = has; others = subst (AllUnpurge us) (sym back) all } in (
      subst (λ x. AllUnpurge x after) (sym is) (with_last us u after last),
      ap (λ x. all_unpurged x after) is ∙ all_unpurged_more us u after ∙ ap (all_unpurged us) back ∙ given,
    )
