-- Calls from outside of all modules and jobs are evaluated regularly, where the code comes of sources.
use Rattle.std.specs.Prelude.{◌≡◌, ℕ, zero, suc, List, [], ◌∷◌, Option, None, Some, Contains, refl}
use Rattle.std.proofs.Common.{sym, subst}
use Rattle.std.proofs.lemmas.List.Elements.{All-contains}
use Rattle.erl_term.specs.Tree as term
use Rattle.erl_term.specs.Tree.{Tree, Trees, count}
use Rattle.erl_ir.specs.declared.function.Function.{Function}
use Rattle.erl_ir.specs.declared.function.Definition.{Definition}
use Rattle.erl_ir.specs.declared.function.Definition.TheVariants as definition
use Rattle.erl_ir.specs.Module.{Forms, function_of}
use Rattle.erl_ir.specs.Pattern.{Pats}
use Rattle.erl_ir.specs.Expression.{Guards, Clauses}
use Rattle.erl_semantics.specs.State.{Instance, Place, server, loop as looping, World}
use Rattle.erl_semantics.specs.Matching.{matched_each}
use Rattle.erl_semantics.specs.Guards.{Selection}
use Rattle.erl_semantics.specs.Jobs.{FromOutside, Job, entered_in, reached_in, world_of, Callback, callback_of, name_of, arguments_of}
use Rattle.erl_semantics.specs.Jobs.{handle_call, handle_cast, handle_info, Handles, not_exported, handled, heard_in, heard_by, heard, Receives}
use Rattle.erl_semantics.specs.Jobs.{unheard, received, GivesAt, Outcome}
use Rattle.erl_semantics.specs.Jobs as jobs
use Rattle.erl_semantics.proofs.Kept.{contains_first, contains_more}
use Rattle.erl_semantics.proofs.Options.{some_none, some_injective}
use Rattle.source_laws.specs.Laws.{IsSound, ComesOfSource, ComesOfSources, CallsAreRegular, JobsAreRegular}
use Rattle.source_laws.specs.Regular.{OutsideIsRegular, CallbackIsRegular, LoopIsRegular, ReceivingIsRegular, ReceivedIsRegular, JobIsRegular}
use Rattle.source_laws.proofs.Evaluating.{FunctionIsSound, IfSound, IfFoundSound, function_sound, exported_sound, remote_sound, entered_regular}
use Rattle.source_laws.proofs.Evaluating.{body_regular}
use Rattle.source_laws.proofs.Forming.{sources_are_sound}
use Rattle.source_laws.proofs.Matching.{each_leaves, may_match_each, may_try, FoundIsReady, selected_ready}

instances_sound : (code : List Instance) → ComesOfSources code → (i : Instance) → Contains code i → IsSound i.forms
instances_sound code comes i there =
    let source = All-contains ComesOfSource code i comes there in sources_are_sound source.0 i.forms source.1

-- A call from outside

outside_regular : {w : World} {name : List ℕ} {f : Option (Instance × Function)} {args : Trees} {o : Outcome} →
    ((i : Instance) → Contains w.code i → IsSound i.forms) → IfFoundSound (count args) f → (d : FromOutside w name f args o) →
    OutsideIsRegular d
outside_regular sound found (jobs.undefined is) = tt
outside_regular {w = w} sound found (jobs.called d is) = entered_regular w sound found.0 found.1 refl d

pub calls_are_regular : CallsAreRegular
calls_are_regular w m f args o comes d =
    let sound = instances_sound w.code comes in
    outside_regular sound (remote_sound w sound m f (count args)) d

-- A job

entered_in_code : (serial : ℕ) (code : List Instance) (i : Instance) → entered_in serial code ≡ Some i → Contains code i
entered_in_code zero code i is = absurd (some_none (sym is))
entered_in_code (suc serial) [] i is = absurd (some_none (sym is))
entered_in_code (suc serial) (j ∷ code) i is =
    subst (λ x. Contains (j ∷ code) x) (some_injective is) (contains_first j code)

reached_in_code : (serial : ℕ) (code : List Instance) (i : Instance) → Contains (reached_in serial code) i → Contains code i
reached_in_code zero code i there = there
reached_in_code (suc serial) [] i there = there
reached_in_code (suc serial) (j ∷ code) i there = contains_more i j code there

module _ (j : Job) (sound : (i : Instance) → Contains (world_of j).code i → IsSound i.forms) where
  callback_regular : {m : List ℕ} {s : Tree} {callback : Callback} {f : Option Function} {i : Instance} {o : Outcome} →
      IsSound i.forms → IfSound (count (arguments_of callback s)) i.forms f → (d : Handles j m s callback f i o) →
      CallbackIsRegular d
  callback_regular code found (not_exported is) = tt
  callback_regular code found (handled d is) = entered_regular (world_of j) sound code found refl d

  loop_regular : (message : Tree) (args : Trees) (m : Forms) (f : Definition) → FunctionIsSound (count args) m f →
      LoopIsRegular message args f
  loop_regular message args m (definition.Clauses cs) found = tt
  loop_regular message args m (definition.Loop ps gs cs) found = (
    may_match_each found.scopes.1 args [] refl,
    λ env is. may_try m found.scopes.3 env (term.more message term.none) found.formed.1 found.patterns.1
        (each_leaves found.scopes.1 args [] env refl is),
  )

  receiving_regular : (message : Tree) (args : Trees) (m : Forms) (f : Option Function) → IfSound (count args) m f →
      ReceivingIsRegular message args f
  receiving_regular message args m None found = tt
  receiving_regular message args m (Some f) found = loop_regular message args m f.definition found

  heard_behind : (message : Tree) (args : Trees) (m : Forms) (ps : Pats) (gs : Guards) (cs : Clauses) →
      FunctionIsSound (count args) m (definition.Loop ps gs cs) → (env : Option (List Tree)) → matched_each ps args [] ≡ env →
      FoundIsReady m (heard_in j.pid message cs env).0
  heard_behind message args m ps gs cs found None is = tt
  heard_behind message args m ps gs cs found (Some env) is =
      selected_ready m found.scopes.3 j.pid env (term.more message term.none) 0 found.formed.1
      (each_leaves found.scopes.1 args [] env refl is)

  heard_by_ready : (message : Tree) (args : Trees) (m : Forms) (f : Definition) → FunctionIsSound (count args) m f →
      FoundIsReady m (heard_by j.pid message args f).0
  heard_by_ready message args m (definition.Clauses cs) found = tt
  heard_by_ready message args m (definition.Loop ps gs cs) found =
      heard_behind message args m ps gs cs found (matched_each ps args []) refl

  heard_ready : (message : Tree) (args : Trees) (m : Forms) (f : Option Function) → IfSound (count args) m f →
      FoundIsReady m (heard j.pid message args f).0
  heard_ready message args m None found = tt
  heard_ready message args m (Some f) found = heard_by_ready message args m f.definition found

  received_regular : {i : Instance} {found : Selection} {o : Outcome} → IsSound i.forms → FoundIsReady i.forms found.0 →
      (d : Receives j i found o) → ReceivedIsRegular d
  received_regular code found (unheard is) = tt
  received_regular code found (received d is) =
      (body_regular (world_of j) sound code found.scopes found.has_one found.formed refl d).0

  job_regular : (p : Place) (entered : Option Instance) (o : Outcome) → ((i : Instance) → entered ≡ Some i → IsSound i.forms) →
      (d : GivesAt j p entered o) → JobIsRegular j p entered o d
  job_regular (server m s) None o code d = tt
  job_regular (server m s) (Some i) o code d =
      callback_regular (code i refl)
      (exported_sound (name_of (callback_of j.message)) (count (arguments_of (callback_of j.message) s)) i.forms
      (code i refl)) d
  job_regular (looping m serial name args) None o code d = tt
  job_regular (looping m serial name args) (Some i) o code d =
      let found = function_sound name (count args) i.forms (code i refl) in (
        receiving_regular j.message args i.forms (function_of name (count args) i.forms) found,
        received_regular (code i refl) (heard_ready j.message args i.forms (function_of name (count args) i.forms) found) d,
      )

pub jobs_are_regular : JobsAreRegular
jobs_are_regular j o comes d =
    let sound = instances_sound j.code comes in
    job_regular j (λ i there. sound i (reached_in_code j.entry_serial j.code i there)) j.place
    (entered_in j.entry_serial j.code) o
    (λ i is. sound i (entered_in_code j.entry_serial j.code i is)) d
