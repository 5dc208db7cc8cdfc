-- Whatever lines the shell executes, the commands that they carried out lead to its journal's timeline.
use Rattle.std.proofs.Common.{◌≡◌, ◌<◌, ◌≤◌, ℕ, List, [], ◌∷◌, ◌++◌, All, Option, None, Some, IfSome, option_map, option_to_list, unwrap_or, arith, refl, sym, ap, subst, ◌∙◌}
use Rattle.undo_journal.specs.Timeline.{here, opened, cut_to, forgotten_to, node_at, IsDead, IsOrdered}
use Rattle.undo_journal.specs.History as history
use Rattle.undo_journal.specs.History.{AreAfter, CarriedOut, Live}
use Rattle.undo_journal.specs.declared.history.Command.{Command}
use Rattle.undo_journal.specs.declared.history.Command.TheVariants.{Forget}
use Rattle.undo_journal.proofs.Floors.{Makes-unforgotten, floor-after}
use Rattle.undo_journal.proofs.Forgets.{cut_to-below, forgotten_to-mark, here-forgotten, IsOrdered-forgotten}
use Rattle.undo_journal.proofs.Histories.{Makes-live, FoldsTo-live, RunsCommands-of, AreAfter-append, IsOrdered-opened, IsOrdered-after, node_at-after, node_at-forgotten}
use Rattle.undo_journal.proofs.Timelines.{cut_to-here}
use Rattle.line_server.specs.declared.ended.ServeEnd.{ServeEnd}
use Rattle.line_server.specs.Serving.{Serves, ServesWhole}
use Rattle.line_server.specs.Session.{Answered, lines_in, text_of}
use Rattle.shell_exec.specs.Node.{NodeState}
use Rattle.shell_exec.specs.Step.{MayRunOut, Step}
use Rattle.node_types.specs.declared.event.Event.{Event}
use Rattle.release_files.specs.Files.{Contents}
use Rattle.shell_requests.specs.Request.{asks, forget, undo}
use Rattle.shell_answers.specs.Answers.{fixed}
use Rattle.shell_answers.specs.declared.fixed.Fixed.TheVariants as words
use Rattle.shell_exec.specs.State.{Effect, NodeTimeline, ShellState, answered, opened_shell}
use Rattle.shell_exec.specs.Fate.{Fate}
use Rattle.shell_exec.specs.Fate.TheVariants.{StoppedAt}
use Rattle.node_shell.specs.Replay.{Executed, AreExecuted, Forgets, IsReplayed, IsHeadline, IsNamed, MarksName, NamesMark, Stops, Undoes, commands_in, shell_behind, timeline_behind}
use Rattle.node_shell.specs.Run.{RunsShell, RunsWhole, BootsFiles}
use Rattle.node_shell.specs.Shell.{shell_exchange}
use Rattle.shell_exec.proofs.Led.{Does-led}
use Rattle.node_shell.proofs.Led.{Does-cuts, Does-dead, Does-floors, Does-forgotten, Does-stops}
use Rattle.node_shell.proofs.Exchanges.{executed-from_answered, unrefused-executed}

after-executed : (s : ShellState) (executed : List Executed) → AreExecuted s executed → AreAfter Step (commands_in executed) s.timeline (timeline_behind s executed)
after-executed s [] in_turn = refl
after-executed s (o ∷ others) in_turn =
    AreAfter-append Step (option_to_list o.effect.command) (commands_in others) s.timeline o.effect.after.timeline (timeline_behind o.effect.after others) (Does-led o.fate s o.said o.effect in_turn.0) (after-executed o.effect.after others in_turn.1)

-- a journal that carries commands out, none of them missed
carried-all : (cs : List (Command Event)) (t u : NodeTimeline) → AreAfter Step cs t u → CarriedOut Step MayRunOut 0 cs cs t u
carried-all [] t u are = subst (λ v. CarriedOut Step MayRunOut 0 [] [] t v) (sym are) history.none
carried-all (c ∷ cs) t u are = history.done c are.1 (carried-all cs are.0 u are.2)

-- some commands and more, with their live steps
RunsCommands-then : (cs ds : List (Command Event)) (t u v : NodeTimeline) (begun between end : List (Live Event)) → history.RunsCommands Step cs t begun u between → history.RunsCommands Step ds u between v end → history.RunsCommands Step (cs ++ ds) t begun v end
RunsCommands-then [] ds t u v begun between end first rest =
    subst (λ w. history.RunsCommands Step ds w begun v end) first.0 (subst (λ l. history.RunsCommands Step ds u l v end) first.1 rest)
RunsCommands-then (c ∷ cs) ds t u v begun between end first rest =
    (first.0, first.1, first.2, RunsCommands-then cs ds first.0 u v first.1 between end first.3 rest)

-- some lines and more
AreExecuted-parts : (s : ShellState) (front more : List Executed) → AreExecuted s (front ++ more) → AreExecuted s front × AreExecuted (shell_behind s front) more
AreExecuted-parts s [] more in_turn = (tt, in_turn)
AreExecuted-parts s (o ∷ others) more in_turn =
    let parts = AreExecuted-parts o.effect.after others more in_turn.1 in ((in_turn.0, parts.0), parts.1)

shell_behind-more : (s : ShellState) (front more : List Executed) → shell_behind s (front ++ more) ≡ shell_behind (shell_behind s front) more
shell_behind-more s [] more = refl
shell_behind-more s (o ∷ others) more = shell_behind-more o.effect.after others more

if_alive : {S : Type 0} (o p : Option S) → ((n : S) → o ≡ Some n → p ≡ Some n) → IfSome o (λ n. p ≡ Some n)
if_alive None p named = tt
if_alive (Some n) p named = named n refl

module _ (node : NodeState) (start : ShellState) (begun : start.timeline ≡ opened node) where
  led : (executed : List Executed) → AreExecuted start executed → AreAfter Step (commands_in executed) (opened node) (timeline_behind start executed)
  led executed in_turn =
      subst (λ (t : NodeTimeline). AreAfter Step (commands_in executed) t (timeline_behind start executed)) begun (after-executed start executed in_turn)

  replayed : (executed : List Executed) → AreExecuted start executed → IsReplayed node (commands_in executed) (timeline_behind start executed)
  replayed executed in_turn =
      let commands = commands_in executed in
      let end = timeline_behind start executed in
      let runs = RunsCommands-of Step commands (opened node) end [] (led executed in_turn) in
      record {
        live = runs.0;
        runs = runs.1;
        stations = Makes-live Step node commands end runs.0 runs.1;
        fold = FoldsTo-live Step node commands end runs.0 runs.1;
        unforgotten = λ unforgotten. (Makes-unforgotten Step MayRunOut node commands 0 end (record {
          carried = commands;
          carried_out = carried-all commands (opened node) end (led executed in_turn);
          live = runs.0;
          runs = runs.1;
          stations = Makes-live Step node commands end runs.0 runs.1;
          fold = FoldsTo-live Step node commands end runs.0 runs.1;
        }) unforgotten).1;
      }

  marks-named : (front more : List Executed) → AreExecuted start (front ++ more) → MarksName (timeline_behind start front) (timeline_behind start (front ++ more))
  marks-named front more in_turn mark given =
      let parts = AreExecuted-parts start front more in_turn in
      let s = shell_behind start front in
      let t = timeline_behind start front in
      let end = timeline_behind s more in
      let ordered = IsOrdered-after Step (commands_in front) (opened node) t (led front parts.0) (IsOrdered-opened node) in
      let behind : timeline_behind start (front ++ more) ≡ end = ap (λ (u : ShellState). u.timeline) (shell_behind-more start front more) in
      if_alive (node_at mark (timeline_behind start (front ++ more))) (node_at mark t) (λ n alive. node_at-after Step mark (commands_in more) t end n (after-executed s more parts.1) ordered given (ap (λ u. node_at mark u) (sym behind) ∙ alive))

  named-here : (front : List Executed) → AreExecuted start front → IsNamed (timeline_behind start front)
  named-here front in_turn =
      let t = timeline_behind start front in
      let ordered = IsOrdered-after Step (commands_in front) (opened node) t (led front in_turn) (IsOrdered-opened node) in
      ap (λ o. option_map (λ (u : NodeTimeline). (here u).node) o) (cut_to-here t ordered)

  undo-stops : (front others : List Executed) (o : Executed) (mark reached : ℕ) → AreExecuted start (front ++ o ∷ others) → o.fate ≡ Some (StoppedAt reached) → o.said ≡ asks (undo mark) → Stops (timeline_behind start front) o.effect mark reached
  undo-stops front others o mark reached in_turn is says =
      let does = (AreExecuted-parts start front (o ∷ others) in_turn).1.0 in
      Does-stops (shell_behind start front) mark reached o.fate o.said o.effect is says does

  undo-undoes : (front others : List Executed) (o : Executed) (mark : ℕ) (end : NodeTimeline) → AreExecuted start (front ++ o ∷ others) → o.fate ≡ None → o.said ≡ asks (undo mark) → cut_to mark (timeline_behind start front) ≡ Some end → Undoes (timeline_behind start front) o.effect mark end
  undo-undoes front others o mark end in_turn whole says is =
      let s = shell_behind start front in
      let does = (AreExecuted-parts start front (o ∷ others) in_turn).1.0 in
      let done = Does-cuts s mark end o.fate o.said o.effect whole says is does in
      record {
        leads = ap (λ (d : Effect). d.after.timeline) done;
        node = ap (λ t. option_map (λ (u : NodeTimeline). (here u).node) t) is;
        answer = ap (λ (d : Effect). d.text) done;
      }

  ordered-behind : (front : List Executed) → AreExecuted start front → IsOrdered (timeline_behind start front)
  ordered-behind front in_turn =
      IsOrdered-after Step (commands_in front) (opened node) (timeline_behind start front) (led front in_turn) (IsOrdered-opened node)

  forget-floors : (front others : List Executed) (o : Executed) (mark : ℕ) (end : NodeTimeline) → AreExecuted start (front ++ o ∷ others) → o.said ≡ asks (forget mark) → forgotten_to mark (timeline_behind start front) ≡ Some end → Forgets node (commands_in front) (timeline_behind start front) o.effect mark end
  forget-floors front others o mark end in_turn says is =
      let s = shell_behind start front in
      let t = timeline_behind start front in
      let parts = AreExecuted-parts start front (o ∷ others) in_turn in
      let ordered = ordered-behind front parts.0 in
      let done = Does-floors s mark end o.fate o.said o.effect says is parts.1.0 in
      let at = forgotten_to-mark mark t end is in
      record {
        leads = ap (λ (d : Effect). d.after.timeline) done;
        carried_out = ap (λ (d : Effect). d.command) done;
        floor = at;
        node_stays = ap (λ u. u.node) (here-forgotten mark t end is);
        live_stay = λ live runs. RunsCommands-then (commands_in front) (Forget mark ∷ []) (opened node) t end [] live live runs (end, live, (ap (λ u. unwrap_or u t) (sym is), refl), (refl, refl));
        kept = λ other from. (node_at-forgotten mark other t end ordered is).0 from;
        below = λ other low. (let under : other < end.first.serial = omega (arith, at, low) in (under, cut_to-below other end (IsOrdered-forgotten mark t end is ordered) under));
        answer = ap (λ (d : Effect). d.text) done;
      }

  rises : (front more : List Executed) → AreExecuted start (front ++ more) → (timeline_behind start front).first.serial ≤ (timeline_behind start (front ++ more)).first.serial
  rises front more in_turn =
      let parts = AreExecuted-parts start front more in_turn in
      let s = shell_behind start front in
      let behind : timeline_behind start (front ++ more) ≡ timeline_behind s more = ap (λ (u : ShellState). u.timeline) (shell_behind-more start front more) in
      subst (λ (u : NodeTimeline). (timeline_behind start front).first.serial ≤ u.first.serial) (sym behind) (floor-after Step (commands_in more) s.timeline (timeline_behind s more) (after-executed s more parts.1) (ordered-behind front parts.0))

  told-forgotten : (front others : List Executed) (o : Executed) (mark : ℕ) → AreExecuted start (front ++ o ∷ others) → NamesMark mark o.said → mark < (timeline_behind start front).first.serial → o.effect ≡ answered (shell_behind start front) (fixed words.Forgotten)
  told-forgotten front others o mark in_turn names below =
      let parts = AreExecuted-parts start front (o ∷ others) in_turn in
      Does-forgotten (shell_behind start front) mark o.fate o.said o.effect (ordered-behind front parts.0) names below parts.1.0

  told-dead : (front others : List Executed) (o : Executed) (mark : ℕ) → AreExecuted start (front ++ o ∷ others) → NamesMark mark o.said → IsDead mark (timeline_behind start front) → o.effect ≡ answered (shell_behind start front) (fixed words.DeadMark)
  told-dead front others o mark in_turn names dead =
      Does-dead (shell_behind start front) mark o.fate o.said o.effect names dead (AreExecuted-parts start front (o ∷ others) in_turn).1.0

  -- the headline of any lines that a shell over the node executed
  pub executed-headline : (executed : List Executed) → AreExecuted start executed → IsHeadline node start executed
  executed-headline executed in_turn = record {
    replayed = λ front others is. replayed front (AreExecuted-parts start front others (subst (λ all. AreExecuted start all) is in_turn)).0;
    given = λ front others is. named-here front (AreExecuted-parts start front others (subst (λ all. AreExecuted start all) is in_turn)).0;
    marks = λ front more others is. marks-named front more (AreExecuted-parts start (front ++ more) others (subst (λ all. AreExecuted start all) is in_turn)).0;
    undos = λ front others o mark end is. undo-undoes front others o mark end (subst (λ all. AreExecuted start all) is in_turn);
    stops = λ front others o mark reached is. undo-stops front others o mark reached (subst (λ all. AreExecuted start all) is in_turn);
    forgets = λ front others o mark end is. forget-floors front others o mark end (subst (λ all. AreExecuted start all) is in_turn);
    floor_rises = λ front more others is. rises front more (AreExecuted-parts start (front ++ more) others (subst (λ all. AreExecuted start all) is in_turn)).0;
    forgotten = λ front others o mark is. told-forgotten front others o mark (subst (λ all. AreExecuted start all) is in_turn);
    dead = λ front others o mark is. told-dead front others o mark (subst (λ all. AreExecuted start all) is in_turn);
  }

-- A run over files, of what the shell answered.

module _ (files : Contents) (vsn : List ℕ) (node : NodeState) (starts : BootsFiles files vsn node) where
  pub RunsCommands-served : (end : ShellState) (left rest held holds : Option (List ℕ)) (ended : ServeEnd) → Serves shell_exchange (opened_shell files node) end left rest held holds ended → RunsShell files vsn left rest held holds ended
  RunsCommands-served end left rest held holds ended serves =
      let were = executed-from_answered (opened_shell files node) serves.answered serves.in_turn in
      record {
        node = node;
        starts = starts;
        end = end;
        serves = serves;
        executed = were.executed;
        answered = were.same;
        said = were.said;
        in_turn = were.in_turn;
        headline = executed-headline node (opened_shell files node) refl were.executed were.in_turn;
      }

  pub RunsWhole-served : (end : ShellState) (input before : List ℕ) (holds : Option (List ℕ)) → ServesWhole shell_exchange (opened_shell files node) end input before holds → RunsWhole files vsn input before holds
  RunsWhole-served end input before holds serves =
      let were = executed-from_answered (opened_shell files node) serves.answered serves.in_turn in
      record {
        node = node;
        starts = starts;
        executed = were.executed;
        said = were.said;
        in_turn = were.in_turn;
        headline = executed-headline node (opened_shell files node) refl were.executed were.in_turn;
        unrefused = unrefused-executed were.executed (subst (λ all. All (λ (a : Answered ShellState Fate). a.fate ≡ None) all) were.same serves.unrefused);
        lines = ap lines_in (sym were.same) ∙ serves.lines;
        written = serves.written ∙ ap (λ all. Some (before ++ text_of all)) were.same;
      }
