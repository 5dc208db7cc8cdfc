-- A `code_change` is made, or stops at the first process or supervisor that fails: something comes of each `code_change/3` and
-- `init/1`, and a gen_server process stays one.
use Rattle.std.specs.Prelude.{◌≡◌, ◌⊎◌, ◌&&◌, ◌<◌, ◌^◌, ℕ, Bool, true, false, nat_lt, nat_eq, cond, List, [], ◌∷◌, ◌++◌, codes, filter, map, All}
use Rattle.std.specs.Prelude.{Option, None, Some, option_map, refl}
use Rattle.std.specs.List.{AllByRecursion}
use Rattle.std.proofs.Common.{inl, inr, ap, sym, subst, ◌∙◌, rules, true≢false}
use Rattle.std.proofs.lemmas.List.Elements.{All-head, All-tail}
use Rattle.std.proofs.lemmas.Option.{none-some, same_Some}
use Rattle.app_table.specs.Applications.{Application}
use Rattle.app_table.specs.Modules.{runs_with}
use Rattle.app_table.specs.Renewing.{with_renewed}
use Rattle.callback_lang.specs.Returns.{ChangeReturn, new_state, unchanged}
use Rattle.child_specs.specs.declared.child.ChildSpec.{ChildSpec}
use Rattle.code_changes.specs.Changing.{AllUpgrade, FirstStops, RefusesCodeChange, Script, Stops, Upgraded, Upgrades, behind, changes_in}
use Rattle.code_changes.specs.Renewing.{AllRenew, FirstBadInit, RenewsIf, supervisor_in}
use Rattle.code_changes.specs.Renewing as renewing
use Rattle.code_changes.specs.declared.changing.CodeChangeError.{CodeChangeError}
use Rattle.code_changes.specs.declared.changing.CodeChangeError.TheVariants.{Unchanged, BadInit, CounterEnd}
use Rattle.erl_semantics.proofs.OutcomeLaws.{evaluates_keeps}
use Rattle.erl_semantics.specs.Acts.{act_of}
use Rattle.erl_semantics.specs.OutcomeLaws.{IsMessage}
use Rattle.erl_semantics.specs.State.{World, plain}
use Rattle.erl_semantics.specs.Views.{instance, outcome_of}
use Rattle.erl_semantics.specs.declared.acts.Act.{Act}
use Rattle.erl_semantics.specs.declared.acts.Place.{Place}
use Rattle.erl_semantics.specs.declared.acts.Place.TheVariants.{Server, Loop}
use Rattle.erl_semantics.specs.declared.instance.Instance.{Instance}
use Rattle.erl_semantics.specs.declared.outcome.Outcome.{Outcome}
use Rattle.erl_term.specs.Term.{tree, term_of}
use Rattle.erl_term.specs.Tree.{Trees, none, more}
use Rattle.erl_term.specs.declared.term.Term.{Term}
use Rattle.low_instructions.specs.declared.modules.ModuleChange.{ModuleChange}
use Rattle.node_laws.proofs.Evaluated.{evaluated, tree_back}
use Rattle.otp_files.specs.declared.app.StartModule.{StartModule}
use Rattle.process.specs.Process as process
use Rattle.process.specs.Process.{is_server_at}
use Rattle.process_effects.specs.Begins.{acts_begun, begun_told}
use Rattle.process_effects.specs.declared.told.Reply.{Reply}
use Rattle.process_store.proofs.Slots.{living_changed, living_elsewhere}
use Rattle.process_store.specs.Changes.{restate_living}
use Rattle.process_store.specs.Table.{Table, living}
use Rattle.process_store.specs.declared.living.ProcessEntry.{ProcessEntry}
use Rattle.suspensions.specs.Suspending.{is_changed, is_server}
use Rattle.suspensions.specs.Versions.{old_vsn}
use Rattle.sys_protocol.specs.AppStarts.{GivesSupervision, InitGives, children_in, init_fault}
use Rattle.upgrade_calls.proofs.Seen.{seen, seen_begun}
use Rattle.upgrade_calls.proofs.StatesFirst.{MessagesOnly}
use Rattle.upgrade_calls.specs.Changing.{AllChange, AreCounted, Changes, FailsToChange, FirstUnchanged, Gives, GivesAt, HasTurnLeft}
use Rattle.upgrade_calls.specs.Changing.{after_change, change_told, return_of, with_state}
use Rattle.upgrade_calls.specs.declared.changing.CodeChangeCall.{CodeChangeCall}
use Rattle.upgrade_calls.specs.declared.changing.ChangeFailed.{ChangeFailed}

-- What is done by a call that starts nothing is messages and replies.
messages_only : (acts : List Act) → All IsMessage (map act_of acts) → MessagesOnly acts
messages_only [] messages = tt
messages_only (a ∷ acts) messages = (
  All-head IsMessage (act_of a) (map act_of acts) messages,
  messages_only acts
      (All-tail IsMessage (act_of a) (map act_of acts) messages),
)

-- A gen_server process stays one.

abbrev Served : List CodeChangeCall → Table → Type 0
Served cs t = AllByRecursion (λ c. is_server (living c.pid t) ≡ true) cs

same_by_seen : (l m : Option ProcessEntry) → seen l ≡ seen m → is_server l ≡ is_server m
same_by_seen None None same = refl
same_by_seen None (Some m) same = absurd (none-some (m.process.place, m.process.turn) same)
same_by_seen (Some l) None same = absurd (none-some (l.process.place, l.process.turn) (sym same))
same_by_seen (Some l) (Some m) same =
    let places = same_Some (l.process.place, l.process.turn) (m.process.place, m.process.turn) same in
    ap (λ (x : Place × ℕ). is_server_at x.0) places

server_with : (state : Term) (at : Place) → is_server_at (process.with_state state at) ≡ is_server_at at
server_with state (Server m s) = refl
server_with state (Loop m serial f args) = refl

server_restated : (state : Term) (l : Option ProcessEntry) → is_server (option_map (restate_living state 1) l) ≡ is_server l
server_restated state None = refl
server_restated state (Some l) = server_with state l.process.place

same_pid : (p q : ℕ) → nat_eq p q ≡ true → p ≡ q
same_pid p q is = search rules

other_pid : (p q : ℕ) → nat_eq p q ≡ false → p ≡ q → ⊥
other_pid p q is same = search rules

server_with_state : (c : CodeChangeCall) (state : Term) (t : Table) (q : ℕ) (b : Bool) → nat_eq c.pid q ≡ b →
    is_server (living q (with_state c state t)) ≡ is_server (living q t)
server_with_state c state t q true is =
    subst (λ p. is_server (living p (with_state c state t)) ≡ is_server (living p t)) (same_pid c.pid q is)
    (ap is_server (living_changed (restate_living state 1) t.slots c.pid) ∙ server_restated state (living c.pid t))
server_with_state c state t q false is =
    ap is_server (living_elsewhere (restate_living state 1) t.slots c.pid q (other_pid c.pid q is))

still_served : (code : List Instance) (c : CodeChangeCall) (o : Outcome) (state : Term) (t : Table) → MessagesOnly o.acts →
    (cs : List CodeChangeCall) →
    Served cs t → Served cs (after_change code c o state t)
still_served code c o state t only [] served = tt
still_served code c o state t only (d ∷ cs) served = (
  same_by_seen (living d.pid (after_change code c o state t)) (living d.pid (with_state c state t))
      (seen_begun code d.pid o.acts (with_state c state t) only)
      ∙ server_with_state c state t d.pid (nat_eq c.pid d.pid) refl ∙ served.0,
  still_served code c o state t only cs served.1,
)

-- One process

abbrev OneChanges : List Instance → CodeChangeCall → Table → Type 0
OneChanges code c t =
    ((o : Outcome) × (state : Term) × Changes code c t o state × MessagesOnly o.acts) ⊎
    ((reason : Term) × FailsToChange code c t reason)

abbrev Given : List Instance → CodeChangeCall → Option ProcessEntry → Type 0
Given code c l = (o : Outcome) × Gives code c l o × MessagesOnly o.acts

given_at : (code : List Instance) (c : CodeChangeCall) (at : Place) → is_server_at at ≡ true →
    (o : Outcome) × GivesAt code c at o × MessagesOnly o.acts
given_at code c (Server m s) served =
    let w : World = record { code = map instance code; pid = c.pid; mode = plain } in
    let args : Trees = more (tree c.vsn) (more (tree s) (more (tree c.extra) none)) in
    let e = evaluated w m (codes "code_change") args in
    let kept = evaluates_keeps w m (codes "code_change") args (outcome_of e.0) e.1 in
    (e.0, e.1, messages_only e.0.acts (kept.messages refl))
given_at code c (Loop m serial f args) served = absurd (true≢false (sym served))

given : (code : List Instance) (c : CodeChangeCall) (l : Option ProcessEntry) → is_server l ≡ true → Given code c l
given code c None served = absurd (true≢false (sym served))
given code c (Some l) served = given_at code c l.process.place served

change_by : (code : List Instance) (c : CodeChangeCall) (t : Table) (o : Outcome) → Gives code c (living c.pid t) o →
    MessagesOnly o.acts →
    (returned : ChangeReturn) → return_of o ≡ returned → OneChanges code c t
change_by code c t o gives only (new_state u) is =
    inl (o, term_of u, record { gives = gives; returns = is ∙ ap (λ x. new_state x) (sym (tree_back u)) }, only)
change_by code c t o gives only (unchanged u) is =
    inr (term_of u, record { outcome = o; gives = gives; returns = is ∙ ap (λ x. unchanged x) (sym (tree_back u)) })

one_changes : (code : List Instance) (c : CodeChangeCall) (t : Table) → is_server (living c.pid t) ≡ true → OneChanges code c t
one_changes code c t served =
    let g = given code c (living c.pid t) served in change_by code c t g.0 g.1 g.2 (return_of g.0) refl

-- Several, in order

abbrev AllChangeOr : List Instance → List CodeChangeCall → Table → Type 0
AllChangeOr code cs t = ((after : Table) × (told : List Reply) × AllChange code cs t after told) ⊎
    ((failed : ChangeFailed) × FirstUnchanged code cs t failed)

change_behind : (code : List Instance) (c : CodeChangeCall) (cs : List CodeChangeCall) (t : Table) (o : Outcome) (state : Term) →
    Changes code c t o state → AllChangeOr code cs (after_change code c o state t) → AllChangeOr code (c ∷ cs) t
change_behind code c cs t o state changes (inl (after, told, all)) =
    inl (after, change_told code c o state t ++ told, (o, state, told, changes, all, refl))
change_behind code c cs t o state changes (inr (failed, fails)) = inr (failed, inr (o, state, changes, fails))

change_first : (code : List Instance) (c : CodeChangeCall) (cs : List CodeChangeCall) (t : Table) → Served cs t → OneChanges code c t →
    ((u : Table) → Served cs u → AllChangeOr code cs u) → AllChangeOr code (c ∷ cs) t
change_first code c cs t served (inl (o, state, changes, only)) others =
    change_behind code c cs t o state changes
    (others (after_change code c o state t) (still_served code c o state t only cs served))
change_first code c cs t served (inr (reason, fails)) others =
    inr (record { pid = c.pid; reason = reason }, inl (refl, fails))

all_change : (code : List Instance) (cs : List CodeChangeCall) (t : Table) → Served cs t → AllChangeOr code cs t
all_change code [] t served = inl (t, [], (refl, refl))
all_change code (c ∷ cs) t served =
    change_first code c cs t served.1 (one_changes code c t served.0) (λ u others. all_change code cs u others)

-- Those that an upgrade changes are gen_server processes.

if_changed : (s : Script) (m : ModuleChange) (apps : List Application) (t : Table) (p : ℕ) (ps : List ℕ) (b : Bool) →
    is_server (living p t) ≡ b →
    Served (map (λ q. record { pid = q; vsn = old_vsn s.direction m.name s.versions; extra = m.extra })
    (filter (is_changed m.name apps t) ps)) t →
    Served (map (λ q. record { pid = q; vsn = old_vsn s.direction m.name s.versions; extra = m.extra })
    (cond (b && runs_with m.name p apps) (p ∷ filter (is_changed m.name apps t) ps) (filter (is_changed m.name apps t) ps))) t
if_changed s m apps t p ps false is others = others
if_changed s m apps t p ps true is others =
    elim (runs_with m.name p apps) as (λ b. Served (map
    (λ q. record { pid = q; vsn = old_vsn s.direction m.name s.versions; extra = m.extra })
    (cond b (p ∷ filter (is_changed m.name apps t) ps) (filter (is_changed m.name apps t) ps))) t) [
      | true ↦ (is, others)
      | false ↦ others
    ]

changes_served : (s : Script) (m : ModuleChange) (apps : List Application) (t : Table) (ps : List ℕ) →
    Served (map (λ q. record { pid = q; vsn = old_vsn s.direction m.name s.versions; extra = m.extra })
    (filter (is_changed m.name apps t) ps)) t
changes_served s m apps t [] = tt
changes_served s m apps t (p ∷ ps) = if_changed s m apps t p ps (is_server (living p t)) refl (changes_served s m apps t ps)

-- Supervisors

abbrev RenewsBy : List Instance → Option StartModule → Application → Table → Type 0
RenewsBy code s a t =
    ((b : Application) × (after : Table) × (told : List Reply) × RenewsIf code s a b t after told × renewing.Gives code s) ⊎
    ((reason : Term) × renewing.GivesNone code s reason)

renews_with : (code : List Instance) (s : StartModule) (a : Application) (t : Table) (o : Outcome) → InitGives code s o →
    (specs : Option (List ChildSpec)) → children_in o.end ≡ specs → RenewsBy code (Some s) a t
renews_with code s a t o gives None is =
    inr (init_fault o.end, record { outcome = o; gives = gives; none = is; because = refl })
renews_with code s a t o gives (Some specs) is =
    let supervision : GivesSupervision code s specs o.acts =
    record { outcome = o; gives = gives; supervision = is; asks = refl } in
    inl (
      with_renewed specs a,
      acts_begun None code o.acts t,
      begun_told None code o.acts t,
      record { specs = specs; acts = o.acts; gives = supervision; renewed = refl; done = refl; tells = refl },
      (specs, o.acts, supervision),
    )

renews_by : (code : List Instance) (s : Option StartModule) (a : Application) (t : Table) → RenewsBy code s a t
renews_by code None a t = inl (a, t, [], (refl, refl, refl), tt)
renews_by code (Some s) a t =
    let e = evaluated (record { code = map instance code; pid = 0; mode = plain }) s.name (codes "init")
    (more (tree s.arguments) none) in
    renews_with code s a t e.0 e.1 (children_in e.0.end) refl

abbrev AllRenewOr : List Instance → List ℕ → List Application → Table → Type 0
AllRenewOr code name apps t =
    ((now : List Application) × (after : Table) × (told : List Reply) × AllRenew code name apps t now after told) ⊎
    ((reason : Term) × FirstBadInit code name apps reason)

renew_behind : (code : List Instance) (name : List ℕ) (a b : Application) (apps : List Application) (t between : Table)
    (said : List Reply) →
    RenewsIf code (supervisor_in name a) a b t between said → renewing.Gives code (supervisor_in name a) →
    AllRenewOr code name apps between → AllRenewOr code name (a ∷ apps) t
renew_behind code name a b apps t between said renews gives (inl (now, after, rest, all)) =
    inl (b ∷ now, after, said ++ rest, (between, said, rest, renews, all, refl))
renew_behind code name a b apps t between said renews gives (inr (reason, bad)) = inr (reason, inr (gives, bad))

renew_first : (code : List Instance) (name : List ℕ) (a : Application) (apps : List Application) (t : Table) →
    RenewsBy code (supervisor_in name a) a t → ((u : Table) → AllRenewOr code name apps u) → AllRenewOr code name (a ∷ apps) t
renew_first code name a apps t (inl (b, between, said, renews, gives)) others =
    renew_behind code name a b apps t between said renews gives (others between)
renew_first code name a apps t (inr (reason, gives_none)) others = inr (reason, inl gives_none)

all_renew : (code : List Instance) (name : List ℕ) (apps : List Application) (t : Table) → AllRenewOr code name apps t
all_renew code name [] t = inl ([], t, [], (refl, refl, refl))
all_renew code name (a ∷ apps) t =
    renew_first code name a apps t (renews_by code (supervisor_in name a) a t) (λ u. all_renew code name apps u)

-- One module

module _ (code : List Instance) (s : Script) where
  abbrev OneUpgrades : ModuleChange → List Application → Table → Type 0
  OneUpgrades m apps t = ((u : Upgraded) × Upgrades code s m apps t u) ⊎ ((e : CodeChangeError) × Stops e code s m apps t)

  upgrade_renewed : (m : ModuleChange) (apps : List Application) (t between : Table) (said : List Reply) →
      AllChange code (changes_in s m apps t) t between said → AllRenewOr code m.name apps between → OneUpgrades m apps t
  upgrade_renewed m apps t between said all (inl (now, after, rest, renew)) = inl (
    record { apps = now; processes = after; told = said ++ rest; changes = changes_in s m apps t },
    record { between = between; said = said; rest = rest; change = all; renew = renew; tells = refl; changes = refl },
  )
  upgrade_renewed m apps t between said all (inr (reason, bad)) = inr (BadInit reason, (between, said, all, bad))

  upgrade_changed : (m : ModuleChange) (apps : List Application) (t : Table) → AllChangeOr code (changes_in s m apps t) t →
      OneUpgrades m apps t
  upgrade_changed m apps t (inl (between, said, all)) =
      upgrade_renewed m apps t between said all (all_renew code m.name apps between)
  upgrade_changed m apps t (inr (failed, fails)) = inr (Unchanged failed, fails)

  one_upgrades : (m : ModuleChange) (apps : List Application) (t : Table) → OneUpgrades m apps t
  one_upgrades m apps t =
      upgrade_changed m apps t (all_change code (changes_in s m apps t) t (changes_served s m apps t s.suspended))

  -- and all, in turn

  abbrev pub AllUpgradeOr : List ModuleChange → List Application → Table → Type 0
  AllUpgradeOr ms apps t =
      ((u : Upgraded) × AllUpgrade code s ms apps t u) ⊎ ((e : CodeChangeError) × FirstStops e code s ms apps t)

  upgrade_behind : (m : ModuleChange) (ms : List ModuleChange) (apps : List Application) (t : Table) (one : Upgraded) →
      Upgrades code s m apps t one → AllUpgradeOr ms one.apps one.processes → AllUpgradeOr (m ∷ ms) apps t
  upgrade_behind m ms apps t one upgrades (inl (all, is)) = inl (behind one all, (one, all, upgrades, is, refl))
  upgrade_behind m ms apps t one upgrades (inr (e, stops)) = inr (e, inr (one, upgrades, stops))

  upgrade_first : (m : ModuleChange) (ms : List ModuleChange) (apps : List Application) (t : Table) → OneUpgrades m apps t →
      ((later : List Application) (u : Table) → AllUpgradeOr ms later u) → AllUpgradeOr (m ∷ ms) apps t
  upgrade_first m ms apps t (inl (one, upgrades)) others =
      upgrade_behind m ms apps t one upgrades (others one.apps one.processes)
  upgrade_first m ms apps t (inr (e, stops)) others = inr (e, inl stops)

  pub all_upgrade : (ms : List ModuleChange) (apps : List Application) (t : Table) → AllUpgradeOr ms apps t
  all_upgrade [] apps t = inl (record { apps = apps; processes = t; told = []; changes = [] }, refl)
  all_upgrade (m ∷ ms) apps t = upgrade_first m ms apps t (one_upgrades m apps t) (λ later u. all_upgrade ms later u)

  -- Nobody stops it for a counter before all is done.

  no_counter : (ms : List ModuleChange) (apps : List Application) (t : Table) → FirstStops CounterEnd code s ms apps t → ⊥
  no_counter [] apps t stops = stops
  no_counter (m ∷ ms) apps t (inl stops) = stops
  no_counter (m ∷ ms) apps t (inr (one, upgrades, stops)) = no_counter ms one.apps one.processes stops

  pub refuses : (e : CodeChangeError) (ms : List ModuleChange) (apps : List Application) (t : Table) →
      FirstStops e code s ms apps t → RefusesCodeChange e code s ms apps t
  refuses (Unchanged failed) ms apps t stops = stops
  refuses (BadInit reason) ms apps t stops = stops
  refuses CounterEnd ms apps t stops = absurd (no_counter ms apps t stops)

-- Turns are counted, or can't be.

below : (a b : ℕ) → nat_lt a b ≡ true → a < b
below a b is = search rules

not_below : (a b : ℕ) → nat_lt a b ≡ false → a < b → ⊥
not_below a b is less = search rules

turn_by : (l : ProcessEntry) (b : Bool) → nat_lt l.process.turn (2 ^ 64) ≡ b → HasTurnLeft (Some l) ⊎ (HasTurnLeft (Some l) → ⊥)
turn_by l true is = inl (below l.process.turn (2 ^ 64) is)
turn_by l false is = inr (not_below l.process.turn (2 ^ 64) is)

turn_left : (l : Option ProcessEntry) → HasTurnLeft l ⊎ (HasTurnLeft l → ⊥)
turn_left None = inl tt
turn_left (Some l) = turn_by l (nat_lt l.process.turn (2 ^ 64)) refl

both_counted : {A B : Type 0} → A ⊎ (A → ⊥) → B ⊎ (B → ⊥) → (A × B) ⊎ (A × B → ⊥)
both_counted (inl a) (inl b) = inl (a, b)
both_counted (inl a) (inr never) = inr (λ both. never both.1)
both_counted (inr never) b = inr (λ both. never both.0)

pub counted_or_not : (cs : List CodeChangeCall) (t : Table) → AreCounted cs t ⊎ (AreCounted cs t → ⊥)
counted_or_not [] t = inl tt
counted_or_not (c ∷ cs) t = both_counted (turn_left (living c.pid t)) (counted_or_not cs t)
