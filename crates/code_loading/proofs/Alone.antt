-- Who uses one instance and none of some others.
use Rattle.std.proofs.Common.{◌≡◌, ℕ, suc, Bool, true, false, cond, ◌||◌, List, [], ◌∷◌, ◌++◌, map, Option, None, Some, option_map, refl, sym, ap, ◌∙◌}
use Rattle.std.proofs.lemmas.List.{append-nil, append_assoc}
use Rattle.std.proofs.lemmas.Option.{none-some, same_Some}
use Rattle.std.specs.List.{filter, list_any}
use Rattle.erl_ir.specs.Module.{Forms}
use Rattle.code_server.specs.Modules.{IsModuleTable, Table as Loaded, old_of}
use Rattle.code_server.specs.declared.modules.Instance as loaded
use Rattle.process_effects.proofs.Alive.{passing, users_alive}
use Rattle.process_effects.specs.Kills.{unless_uses, without_users}
use Rattle.process_effects.specs.Uses.{users, uses, uses_by}
use Rattle.process_index.specs.Standing.{alive, alive_from}
use Rattle.process_store.specs.declared.living.ProcessEntry.{ProcessEntry}
use Rattle.process_store.specs.Table.{Table}
use Rattle.code_loading.proofs.ModuleByModule.{all_left_lingering, left_lingering}
use Rattle.code_loading.specs.Loading.{lingering_in, spared_by}
use Rattle.code_loading.specs.Purging.{all_lingering}
use Rattle.code_loading.specs.Several.{unless_uses_any, uses_any, without_all_users}

abbrev pub uses_alone : ℕ → List ℕ → Option ProcessEntry → Bool
uses_alone serial others o = cond (uses_any others o) false (uses serial o)

pub passing_head : (test : Option ProcessEntry → Bool) (pid : ℕ) (l : ProcessEntry) (es : List (ℕ × ProcessEntry)) (b : Bool) → test (Some l) ≡ b → passing test ((pid, l) ∷ es) ≡ cond b (pid ∷ passing test es) (passing test es)
passing_head test pid l es true is =
    ap (λ b. map (λ (e : ℕ × ProcessEntry). e.0) (cond b ((pid, l) ∷ filter (λ e. test (Some e.1)) es) (filter (λ e. test (Some e.1)) es))) is
passing_head test pid l es false is =
    ap (λ b. map (λ (e : ℕ × ProcessEntry). e.0) (cond b ((pid, l) ∷ filter (λ e. test (Some e.1)) es) (filter (λ e. test (Some e.1)) es))) is

module _ (serial : ℕ) (others : List ℕ) where
  one_alone : (from : ℕ) (l : ProcessEntry) (slots : List (Option ProcessEntry)) (b : Bool) → uses_any others (Some l) ≡ b → passing (uses serial) (alive_from (suc from) (map (unless_uses_any others) slots)) ≡ passing (uses_alone serial others) (alive_from (suc from) slots) → passing (uses serial) (alive_from from (map (unless_uses_any others) (Some l ∷ slots))) ≡ passing (uses_alone serial others) (alive_from from (Some l ∷ slots))
  one_alone from l slots true is rest =
      ap (λ b. passing (uses serial) (alive_from from (cond b None (Some l) ∷ map (unless_uses_any others) slots))) is
      ∙ rest
      ∙ sym (passing_head (uses_alone serial others) from l (alive_from (suc from) slots) false (ap (λ b. cond b false (uses serial (Some l))) is))
  one_alone from l slots false is rest =
      ap (λ b. passing (uses serial) (alive_from from (cond b None (Some l) ∷ map (unless_uses_any others) slots))) is
      ∙ passing_head (uses serial) from l (alive_from (suc from) (map (unless_uses_any others) slots)) (uses serial (Some l)) refl
      ∙ ap (λ pids. cond (uses serial (Some l)) (from ∷ pids) pids) rest
      ∙ sym (passing_head (uses_alone serial others) from l (alive_from (suc from) slots) (uses serial (Some l)) (ap (λ b. cond b false (uses serial (Some l))) is))

  all_alone : (from : ℕ) (slots : List (Option ProcessEntry)) → passing (uses serial) (alive_from from (map (unless_uses_any others) slots)) ≡ passing (uses_alone serial others) (alive_from from slots)
  all_alone from [] = refl
  all_alone from (None ∷ slots) = all_alone (suc from) slots
  all_alone from (Some l ∷ slots) = one_alone from l slots (uses_any others (Some l)) refl (all_alone (suc from) slots)

  pub users_alone : (t : Table) → passing (uses_alone serial others) (alive t.slots) ≡ users serial (without_all_users others t)
  users_alone t = sym (all_alone 0 t.slots) ∙ users_alive serial (without_all_users others t)

  -- of the processes that live, the first, which is such a one or not

  pub is_alone : (pid : ℕ) (l : ProcessEntry) (es : List (ℕ × ProcessEntry)) (pids more : List ℕ) → uses serial (Some l) ≡ true → uses_any others (Some l) ≡ false → more ≡ pids ++ pid ∷ [] → more ++ passing (uses_alone serial others) es ≡ pids ++ passing (uses_alone serial others) ((pid, l) ∷ es)
  is_alone pid l es pids more one none is =
      ap (λ x. x ++ passing (uses_alone serial others) es) is
      ∙ append_assoc pids (pid ∷ []) (passing (uses_alone serial others) es)
      ∙ ap (λ x. pids ++ x) (sym (passing_head (uses_alone serial others) pid l es true ((λ j. cond (none j) false (uses serial (Some l))) ∙ one)))

  pub is_no_user : (pid : ℕ) (l : ProcessEntry) (es : List (ℕ × ProcessEntry)) → uses serial (Some l) ≡ false → passing (uses_alone serial others) es ≡ passing (uses_alone serial others) ((pid, l) ∷ es)
  is_no_user pid l es none =
      sym (passing_head (uses_alone serial others) pid l es false (by (uses_any others (Some l)) none))
    where
      by : (b : Bool) → uses serial (Some l) ≡ false → cond b false (uses serial (Some l)) ≡ false
      by true is = refl
      by false is = is

  pub is_other : (pid : ℕ) (l : ProcessEntry) (es : List (ℕ × ProcessEntry)) → uses_any others (Some l) ≡ true → passing (uses_alone serial others) es ≡ passing (uses_alone serial others) ((pid, l) ∷ es)
  is_other pid l es one =
      sym (passing_head (uses_alone serial others) pid l es false (ap (λ b. cond b false (uses serial (Some l))) one))

-- Those who use none, and one serial more.

nobody_gone : (slots : List (Option ProcessEntry)) → map (unless_uses_any []) slots ≡ slots
nobody_gone [] = refl
nobody_gone (None ∷ slots) = ap (λ rest. None ∷ rest) (nobody_gone slots)
nobody_gone (Some l ∷ slots) = ap (λ rest. Some l ∷ rest) (nobody_gone slots)

pub without_nobody : (t : Table) → without_all_users [] t ≡ t
without_nobody t = ap (λ slots. record { slots = slots }) (nobody_gone t.slots)

any_behind : (first last more : Bool) (b : Bool) → more ≡ cond b true last → (first || more) ≡ cond (first || b) true last
any_behind true last more b is = refl
any_behind false last more b is = is

any_more : (test : ℕ → Bool) (xs : List ℕ) (x : ℕ) → list_any test (xs ++ x ∷ []) ≡ cond (list_any test xs) true (test x)
any_more test [] x = elim (test x) as (λ b. (b || false) ≡ b) [ true ↦ refl | false ↦ refl ]
any_more test (y ∷ xs) x = any_behind (test y) (test x) (list_any test (xs ++ x ∷ [])) (list_any test xs) (any_more test xs x)

gone_too : (serials : List ℕ) (serial : ℕ) (l : ProcessEntry) (b : Bool) → cond (cond b true (uses serial (Some l))) None (Some l) ≡ unless_uses serial (cond b None (Some l))
gone_too serials serial l true = refl
gone_too serials serial l false = refl

one_gone : (serials : List ℕ) (serial : ℕ) (o : Option ProcessEntry) → unless_uses_any (serials ++ serial ∷ []) o ≡ unless_uses serial (unless_uses_any serials o)
one_gone serials serial None = refl
one_gone serials serial (Some l) =
    ap (λ b. cond b None (Some l)) (any_more (λ s. uses_by s l.process.rests_in l.process.activity) serials serial)
    ∙ gone_too serials serial l (uses_any serials (Some l))

all_gone : (serials : List ℕ) (serial : ℕ) (slots : List (Option ProcessEntry)) → map (unless_uses_any (serials ++ serial ∷ [])) slots ≡ map (unless_uses serial) (map (unless_uses_any serials) slots)
all_gone serials serial [] = refl
all_gone serials serial (o ∷ slots) = (λ j. one_gone serials serial o j ∷ all_gone serials serial slots j)

without_more : (serials : List ℕ) (serial : ℕ) (t : Table) → without_all_users (serials ++ serial ∷ []) t ≡ without_users serial (without_all_users serials t)
without_more serials serial t = ap (λ slots. record { slots = slots }) (all_gone serials serial t.slots)

-- A module's turn comes.

turn_of : (o : Option (loaded.Instance Forms)) (serial : ℕ) (t : Table) → Some serial ≡ option_map (λ i. i.serial) o → (lingering_in o t ≡ users serial t) × (spared_by o t ≡ without_users serial t)
turn_of None serial t is = absurd (none-some serial (sym is))
turn_of (Some i) serial t is =
    let same : i.serial ≡ serial = sym (same_Some serial i.serial is) in
    (ap (λ s. users s t) same, ap (λ s. without_users s t) same)

no_turn : (o : Option (loaded.Instance Forms)) → None ≡ option_map (λ i. i.serial) o → o ≡ None
no_turn None is = refl
no_turn (Some i) is = absurd (none-some i.serial is)

-- it has old code

pub one_purged : (n : List ℕ) (ns here : List (List ℕ)) (m : Loaded Forms) (t : Table) (serial : ℕ) (serials all_serials pids more : List ℕ) → here ≡ n ∷ ns → Some serial ≡ option_map (λ i. i.serial) (old_of n m) → more ≡ pids ++ users serial (without_all_users serials t) → all_serials ≡ serials ++ serial ∷ [] → more ++ left_lingering ns m (without_all_users all_serials t) ≡ pids ++ left_lingering here m (without_all_users serials t)
one_purged n ns here m t serial serials all_serials pids more at old pushed with =
    let now = without_all_users serials t in
    let turn = turn_of (old_of n m) serial now old in
    (λ j. pushed j ++ left_lingering ns m (without_all_users (with j) t))
    ∙ append_assoc pids (users serial now) (left_lingering ns m (without_all_users (serials ++ serial ∷ []) t))
    ∙ ap (λ x. pids ++ x) ((λ j. sym turn.0 j ++ left_lingering ns m ((without_more serials serial t ∙ sym turn.1) j)) ∙ ap (λ x. left_lingering x m now) (sym at))

-- or it has none

pub none_purged : (n : List ℕ) (ns here : List (List ℕ)) (m : Loaded Forms) (now : Table) (pids : List ℕ) → here ≡ n ∷ ns → None ≡ option_map (λ i. i.serial) (old_of n m) → pids ++ left_lingering ns m now ≡ pids ++ left_lingering here m now
none_purged n ns here m now pids at old =
    let none = no_turn (old_of n m) old in
    ap (λ x. pids ++ x) ((λ j. lingering_in (sym none j) now ++ left_lingering ns m (spared_by (sym none j) now)) ∙ ap (λ x. left_lingering x m now) (sym at))

-- all have had their turn
pub turns_end : (ns : List (List ℕ)) (m : Loaded Forms) (t now : Table) (pids : List ℕ) → IsModuleTable m → pids ++ left_lingering [] m now ≡ left_lingering ns m t → pids ≡ all_lingering ns m t
turns_end ns m t now pids sound is = sym (append-nil pids) ∙ is ∙ all_left_lingering ns m t sound
