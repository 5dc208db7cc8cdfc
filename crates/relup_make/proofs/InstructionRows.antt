-- What an instruction becomes that is a group by itself.
use Rattle.std.proofs.Common.{◌≡◌, List, [], ◌∷◌, ◌++◌, map, refl, ap, sym, ◌∙◌, inl, inr, append_assoc, append-nil}
use Rattle.std.specs.Prelude.{codes}
use Rattle.std.proofs.lemmas.List.{append_cancel_right}
use Rattle.erl_term.specs.Tree.{atom}
use Rattle.release_words.specs.Words.{start_type_tree}
use Rattle.release_words.specs.declared.purge.Purge.{Purge}
use Rattle.release_words.specs.declared.purge.Purge.TheVariants.{Brutal}
use Rattle.release_words.specs.declared.start_type.StartType.{StartType}
use Rattle.release_words.specs.declared.start_type.StartType.TheVariants as types
use Rattle.release_words.specs.declared.timeout.Timeout.{Timeout}
use Rattle.low_instructions.specs.declared.low.Low.{Low}
use Rattle.low_instructions.specs.declared.low.Low.TheVariants as lows
use Rattle.low_instructions.specs.declared.modules.Direction.{Direction}
use Rattle.low_instructions.specs.declared.modules.Direction.TheVariants.{Up, Down}
use Rattle.high_instructions.specs.Forms.{Name, Names, on, onto}
use Rattle.high_instructions.specs.declared.high.ApplicationWork.{ApplicationWork}
use Rattle.high_instructions.specs.declared.high.ApplicationWork.TheVariants as works
use Rattle.high_instructions.specs.declared.high.High.{High}
use Rattle.high_instructions.specs.declared.high.ModuleWork.TheVariants.{Update}
use Rattle.high_instructions.specs.declared.words.Change.TheVariants.{Soft}
use Rattle.high_instructions.specs.declared.words.ModuleType.{ModuleType}
use Rattle.relup_make.specs.Laws.{ApplicationTable, InstructionTable, ModuleTable, IsStarted, StaysUnstarted, apply, becomes}
use Rattle.relup_make.specs.Parts.{application_work, loads, removals, start, stop}
use Rattle.relup_make.specs.Releases.{modules_in, start_type_in}
use Rattle.relup_make.specs.Work.{Way, source, target}

-- Instructions on a module

either_way : (way : Way) (high : High) (parts : List Low) → becomes Up way high ≡ parts → becomes Down way high ≡ parts → (direction : Direction) → becomes direction way high ≡ parts
either_way way high parts up down Up = up
either_way way high parts up down Down = down

soft : (way : Way) (m : Name) (dependencies : Names) (pre post : Purge) (type : ModuleType) (timeout : Timeout) (direction : Direction) → becomes direction way (on m (Update type timeout Soft pre post) dependencies) ≡ lows.Suspend (record { name = m; timeout = timeout } ∷ []) ∷ lows.Load m pre post ∷ lows.Resume (m ∷ []) ∷ []
soft way m dependencies pre post type timeout = either_way way _ _ refl refl

modules : (way : Way) (m : Name) (dependencies : Names) (pre post : Purge) → ModuleTable way m dependencies pre post
modules way m dependencies pre post = record {
  add_module = either_way way _ _ refl refl;
  delete_module = either_way way _ _ refl refl;
  load_module = either_way way _ _ refl refl;
  update = λ direction type timeout. soft way m dependencies pre post type timeout direction;
  update_up = λ type timeout extra. refl;
  update_down_static = λ timeout extra. refl;
  update_down_dynamic = λ timeout extra. refl;
}

-- Instructions on an application

-- nothing is suspended or changed
alone : (direction : Direction) (way : Way) (app : Name) (work : ApplicationWork) → becomes direction way (onto app work) ≡ application_work way app work
alone Up way app work = simp append-nil
alone Down way app work = simp append-nil

-- calls

abbrev start_call : Name → StartType → List Low
start_call app type = apply (codes "start") (atom app ∷ start_type_tree type ∷ []) ∷ []

abbrev stop_call : Name → List Low
stop_call app = apply (codes "stop") (atom app ∷ []) ∷ []

abbrev unload_call : Name → List Low
unload_call app = apply (codes "unload") (atom app ∷ []) ∷ []

starts : (app : Name) (type : StartType) → IsStarted type → start app type ≡ start_call app type
starts app types.Permanent does = refl
starts app types.Transient does = refl
starts app types.Temporary does = refl
starts app types.Load does = absurd (does.0 refl)
starts app types.None does = absurd (does.1 refl)

starts_not : (app : Name) (type : StartType) → StaysUnstarted type → start app type ≡ []
starts_not app type (inl e) = ap (start app) e
starts_not app type (inr e) = ap (start app) e

stops : (app : Name) (type : StartType) → IsStarted type → stop app type ≡ stop_call app
stops app types.Permanent does = refl
stops app types.Transient does = refl
stops app types.Temporary does = refl
stops app types.Load does = absurd (does.0 refl)
stops app types.None does = absurd (does.1 refl)

stops_not : (app : Name) (type : StartType) → StaysUnstarted type → stop app type ≡ []
stops_not app type (inl e) = ap (stop app) e
stops_not app type (inr e) = ap (stop app) e

-- removals and loads

abbrev removed : Names → List Low
removed ms = map (λ m. lows.Remove m Brutal Brutal) ms

-- what is stopped and removed, before something else
removal : (stopped : List Low) (others : List Low) (m : Name) (ms : Names) → stopped ++ removals (m ∷ ms) ++ others ≡ stopped ++ (removed (m ∷ ms) ++ lows.Purge (m ∷ ms) ∷ others)
removal stopped others m ms =
    append_assoc stopped (removals (m ∷ ms)) others ∙ ap (λ l. stopped ++ l) (append_assoc (removed (m ∷ ms)) (lows.Purge (m ∷ ms) ∷ []) others)

-- the removal of an application whose stop and whose modules are known
remove_by : (direction : Direction) (way : Way) (app : Name) (stopped : List Low) (ms : Names) → stop app (start_type_in app (source way)) ≡ stopped → modules_in app (source way) ≡ ms → becomes direction way (onto app works.Remove) ≡ stopped ++ removals ms ++ unload_call app
remove_by direction way app stopped ms stop_is modules_are =
    alone direction way app works.Remove ∙ ap (λ l. l ++ removals (modules_in app (source way)) ++ unload_call app) stop_is ∙
    ap (λ l. stopped ++ removals l ++ unload_call app) modules_are

-- and its restart
restart_by : (direction : Direction) (way : Way) (app : Name) (removing starting : List Low) → stop app (start_type_in app (source way)) ++ removals (modules_in app (source way)) ≡ removing → start app (start_type_in app (target way)) ≡ starting → becomes direction way (onto app works.Restart) ≡ removing ++ (loads (modules_in app (target way)) ++ starting)
restart_by direction way app removing starting removing_is starting_is =
    alone direction way app works.Restart ∙ ap (λ l. l ++ loads (modules_in app (target way)) ++ start app (start_type_in app (target way))) removing_is ∙
    ap (λ l. removing ++ loads (modules_in app (target way)) ++ l) starting_is ∙ append_assoc removing (loads (modules_in app (target way))) starting

applications : (way : Way) (direction : Direction) (app : Name) → ApplicationTable way direction app
applications way direction app = record {
  add_application = λ type does. alone direction way app (works.Add type) ∙ ap (λ l. loads (modules_in app (target way)) ++ l) (starts app type does);
  add_unstarted = λ type stays. alone direction way app (works.Add type) ∙ ap (λ l. loads (modules_in app (target way)) ++ l) (starts_not app type stays) ∙ append-nil (loads (modules_in app (target way)));
  remove_application = λ m ms modules_are does.
      remove_by direction way app (stop_call app) (m ∷ ms) (stops app (start_type_in app (source way)) does) modules_are ∙ removal (stop_call app) (unload_call app) m ms;
  remove_unstarted = λ m ms modules_are stays.
      remove_by direction way app [] (m ∷ ms) (stops_not app (start_type_in app (source way)) stays) modules_are ∙ removal [] (unload_call app) m ms;
  remove_without_modules = λ modules_are does.
      remove_by direction way app (stop_call app) [] (stops app (start_type_in app (source way)) does) modules_are;
  remove_unstarted_without_modules = λ modules_are stays.
      remove_by direction way app [] [] (stops_not app (start_type_in app (source way)) stays) modules_are;
  restart_application = λ m ms modules_are does does_then.
      let removing = ap (λ l. l ++ removals (modules_in app (source way))) (stops app (start_type_in app (source way)) does) ∙ ap (λ l. stop_call app ++ removals l) modules_are in
      restart_by direction way app (stop_call app ++ removals (m ∷ ms)) (start_call app (start_type_in app (target way))) removing (starts app (start_type_in app (target way)) does_then) ∙
      removal (stop_call app) (loads (modules_in app (target way)) ++ start_call app (start_type_in app (target way))) m ms ∙
      sym (append_assoc (stop_call app ++ removed (m ∷ ms)) (lows.Purge (m ∷ ms) ∷ loads (modules_in app (target way))) (start_call app (start_type_in app (target way))));
  restart_in_every_case = λ removing removing_is.
      let cut = append_cancel_right (stop app (start_type_in app (source way)) ++ removals (modules_in app (source way))) removing (unload_call app) (sym (alone direction way app works.Remove) ∙ removing_is) in
      restart_by direction way app removing (start app (start_type_in app (target way))) cut refl ∙
      ap (λ l. removing ++ l) (sym (alone direction way app (works.Add (start_type_in app (target way)))));
}

pub table : InstructionTable
table = record { modules = modules; applications = applications }
