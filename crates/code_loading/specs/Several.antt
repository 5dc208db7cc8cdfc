-- The processes that use one of several instances.
use Rattle.std.specs.Prelude.{ℕ, Bool, false, if◌then◌else◌, List, map, Option, None, Some}
use Rattle.std.specs.List.{list_any}
use Rattle.erl_semantics.specs.declared.instance.Instance.{Instance}
use Rattle.process.specs.declared.activity.Activity.{Activity}
use Rattle.process_effects.specs.Uses.{uses_by}
use Rattle.process_store.specs.declared.living.ProcessEntry.{ProcessEntry}
use Rattle.process_store.specs.Table.{Table}

-- whether a process that rests in this, and does that, uses the instance of one of these serials
abbrev pub uses_any_by : List ℕ → Option Instance → Activity → Bool
uses_any_by serials rests activity = list_any (λ serial. uses_by serial rests activity) serials

abbrev pub uses_any : List ℕ → Option ProcessEntry → Bool
uses_any serials None = false
uses_any serials (Some l) = uses_any_by serials l.process.rests_in l.process.activity

-- the processes without those that do

abbrev pub unless_uses_any : List ℕ → Option ProcessEntry → Option ProcessEntry
unless_uses_any serials o = if uses_any serials o then None else o

abbrev pub without_all_users : List ℕ → Table → Table
without_all_users serials t = record { slots = map (unless_uses_any serials) t.slots }
