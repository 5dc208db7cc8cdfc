-- A node restarts: each of its applications starts or is passed over, and the client of each open call is told.
use Rattle.std.specs.Prelude.{◌≡◌, ◌||◌, Bool, true, false, List, [], ◌∷◌, map, Option, None, Some, refl}
use Rattle.std.specs.List.{list_any}
use Rattle.std.proofs.Common.{ap, ◌∙◌}
use Rattle.app_table.specs.Applications.{Application}
use Rattle.code_loading.specs.Current.{current_code}
use Rattle.code_server.specs.Modules as code
use Rattle.code_server.specs.Modules.{Table as Loaded}
use Rattle.erl_ir.specs.Module.{Forms}
use Rattle.node_laws.proofs.Starting.{each_starts}
use Rattle.node_restart.specs.Restart.{RestartsAs, TellsRestart, restart}
use Rattle.process_effects.specs.Told.{down}
use Rattle.process_effects.specs.declared.told.Reply.{Reply}
use Rattle.process_index.proofs.OpenCalls.{AreInOrder-with_call, has-with_call, same_call}
use Rattle.process_index.specs.Calls.{AreInOrder, has, is_same, with_call}
use Rattle.process_index.specs.declared.calls.Call.{Call}
use Rattle.process_store.specs.Indexed.{is_asked_by}
use Rattle.process_store.specs.Table as processes
use Rattle.process_store.specs.Table.{Table}
use Rattle.process_store.specs.declared.living.ProcessEntry.{ProcessEntry}
use Rattle.release_boot.specs.Boot.{boot_apps, boot_modules, to_start}
use Rattle.release_table.specs.declared.table.Release.{Release}

-- Calls in order, among which these are and no other

abbrev Ordered : (Call → Bool) → Type 0
Ordered test = (calls : List Call) × AreInOrder calls × ((c : Call) → has c calls ≡ test c)

-- one more, if it is not among them

absorbed : (b : Bool) (c d : Call) (calls : List Call) → is_same c d ≡ b → has d calls ≡ true → has c calls ≡ (b || has c calls)
absorbed true c d calls same there = ap (λ x. has x calls) (same_call c d same) ∙ there
absorbed false c d calls same there = refl

with_one : (d : Call) (calls : List Call) (b : Bool) → has d calls ≡ b → AreInOrder calls →
    (more : List Call) × AreInOrder more × ((c : Call) → has c more ≡ (is_same c d || has c calls))
with_one d calls true is ordered = (calls, ordered, λ c. absorbed (is_same c d) c d calls refl is)
with_one d calls false is ordered = (with_call d calls, AreInOrder-with_call d calls ordered is, λ c. has-with_call c d calls)

or_over : (a b c : Bool) → (a || (b || c)) ≡ ((a || b) || c)
or_over true b c = refl
or_over false b c = refl

-- all of one process, and of all processes

with_all : (ds : List Call) (test : Call → Bool) → Ordered test → Ordered (λ c. has c ds || test c)
with_all [] test given = given
with_all (d ∷ ds) test given =
    let others = with_all ds test given in
    let more = with_one d others.0 (has d others.0) refl others.1 in
    (more.0, more.1, λ c. more.2 c ∙ ap (λ b. is_same c d || b) (others.2 c) ∙ or_over (is_same c d) (has c ds) (test c))

with_slot : (l : Option ProcessEntry) (test : Call → Bool) → Ordered test → Ordered (λ c. is_asked_by c l || test c)
with_slot None test given = given
with_slot (Some l) test given = with_all l.calls test given

all_calls : (slots : List (Option ProcessEntry)) → Ordered (λ c. list_any (is_asked_by c) slots)
all_calls [] = ([], tt, λ c. refl)
all_calls (l ∷ slots) = with_slot l (λ c. list_any (is_asked_by c) slots) (all_calls slots)

pub tells_restart : (t : Table) → (told : List Reply) × TellsRestart t told
tells_restart t =
    let calls = all_calls t.slots in
    (map (down restart) calls.0, (calls.0, record { ordered = calls.1; all = calls.2 }, refl))

pub restarts_as : (r : Release) (modules : Loaded Forms) (t : Table) →
    (after_modules : Loaded Forms) × (after : Table) × (apps : List Application) ×
    RestartsAs r modules t after_modules after apps
restarts_as r modules t =
    let now = boot_modules r (code.emptied modules) in
    let each = each_starts (current_code now) (to_start r.rel.apps) (boot_apps r) (processes.emptied t) in
    (now, each.1, each.0, (refl, each.2))
