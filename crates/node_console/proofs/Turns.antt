-- The lines that the shell executed are a run of the shell.
use Rattle.std.proofs.Common.{◌≡◌, ◌⊎◌, ℕ, List, [], ◌∷◌, Option, None, Some, inl, inr, refl, ap, subst, ◌∙◌}
use Rattle.console_answers.proofs.Commenting.{more_added, none_added}
use Rattle.console_answers.specs.Comments.{AddsComments}
use Rattle.console_answers.specs.Journal.{mark_named}
use Rattle.line_server.specs.declared.ended.ServeEnd.{ServeEnd}
use Rattle.line_server.specs.Lines.{heard}
use Rattle.line_server.specs.Serving.{Serves, ServesWhole}
use Rattle.line_server.specs.Session.{Answered, AreInTurn, Exchange}
use Rattle.node_console.specs.Console as console
use Rattle.node_console.specs.Console.{AnswersRequest, ConsoleState, NamesHere, Obeys, ObeysNamed, console_exchange, does_line, opened_console, said_of}
use Rattle.node_console.specs.Run.{AreTurns, IsTurn, RunsConsole, ServesConsole}
use Rattle.node_shell.proofs.Replays.{executed-headline}
use Rattle.node_shell.specs.Replay.{AreExecuted, Executed}
use Rattle.node_shell.specs.Run.{BootsFiles}
use Rattle.release_files.specs.Files.{Contents}
use Rattle.shell_exec.specs.Execution.{ExecutesLine}
use Rattle.shell_exec.specs.Fate.{Fate}
use Rattle.shell_exec.specs.Node.{NodeState}
use Rattle.shell_exec.specs.State.{ShellState, opened_shell}
use Rattle.shell_requests.specs.Console.{ConsoleRequest, console_request, name_mark, show, to_named}
use Rattle.shell_requests.specs.Request.{Spoken, spoken}
use Rattle.shell_requests.specs.declared.request.MarkUse.{MarkUse}

-- a line left the shell unchanged, or the shell executed it
abbrev pub IsStep : ConsoleState → Answered ConsoleState Fate → Type 0
IsStep c a = (a.exchange.after.shell ≡ c.shell) ⊎ ((o : Executed) × IsTurn a o × ExecutesLine o.fate c.shell o.said o.effect)

module _ (c : ConsoleState) (line : List ℕ) where
  abbrev answered_by : Option Fate → Exchange ConsoleState → Answered ConsoleState Fate
  answered_by fate t = record { line = line; fate = fate; exchange = t }

  obeyed : (heard : List ℕ) (said : Spoken) (fate : Option Fate) (t : Exchange ConsoleState) → Obeys c heard said fate t → IsStep c (answered_by fate t)
  obeyed heard said _ _ (console.does fate d executes) =
      inr (record { line = line; said = said; fate = fate; effect = d }, record { line = refl; fate = refl; after = refl; text = none_added d.text }, executes)
  obeyed heard said _ _ console.no_memory_to_note = inl refl

  named : (name : List ℕ) (fate : Option Fate) (t : Exchange ConsoleState) → NamesHere c name fate t → IsStep c (answered_by fate t)
  named name _ _ console.has_name = inl refl
  named name _ _ console.no_memory_to_name = inl refl

  to_a_name : (heard : List ℕ) (kind : MarkUse) (mark : Option ℕ) (fate : Option Fate) (t : Exchange ConsoleState) → ObeysNamed c heard kind mark fate t → IsStep c (answered_by fate t)
  to_a_name heard kind None fate t is = inl (ap (λ (u : Exchange ConsoleState). u.after.shell) is.1)
  to_a_name heard kind (Some mark) fate t does = obeyed heard (said_of kind mark) fate t does

  requested : (heard : List ℕ) (request : Option ConsoleRequest) (fate : Option Fate) (t : Exchange ConsoleState) → AnswersRequest c heard request fate t → IsStep c (answered_by fate t)
  requested heard None fate t does = obeyed heard (spoken (Some heard)) fate t does
  requested heard (Some (show sight)) fate t is = inl (ap (λ (u : Exchange ConsoleState). u.after.shell) is.2)
  requested heard (Some (name_mark name)) fate t is = named name fate t is
  requested heard (Some (to_named kind name)) fate t is = to_a_name heard kind (mark_named name c.marks) fate t is

  did : (it : Option (List ℕ)) (fate : Option Fate) (t : Exchange ConsoleState) → does_line fate c it t → IsStep c (answered_by fate t)
  did None fate t does = obeyed [] (spoken None) fate t does
  did (Some heard) fate t is = requested heard (console_request heard) fate t is

  -- with comments after it
  and_comments : (fate : Option Fate) (u t : Exchange ConsoleState) → t.after ≡ u.after → AddsComments u.text t.text → IsStep c (answered_by fate u) → IsStep c (answered_by fate t)
  and_comments fate u t after adds (inl same) = inl (ap (λ (it : ConsoleState). it.shell) after ∙ same)
  and_comments fate u t after adds (inr step) =
      inr (step.0, record { line = step.1.line; fate = step.1.fate; after = ap (λ (it : ConsoleState). it.shell) after ∙ step.1.after; text = more_added step.0.effect.text u.text t.text step.1.text adds }, step.2)

  exchanged : (it : Option (List ℕ)) (fate : Option Fate) (t : Exchange ConsoleState) → console_exchange fate c it t → IsStep c (answered_by fate t)
  exchanged it fate t is = and_comments fate is.0 t is.2 is.3 (did it fate is.0 is.1)

-- What the console answered in turn, the shell executed in part.
pub record WereTurns (c : ConsoleState) (answered : List (Answered ConsoleState Fate)) : Type 0 where
  pub executed : List Executed
  pub turns : AreTurns c answered executed
  pub in_turn : AreExecuted c.shell executed

-- a line before others that the shell did not execute

passed : (c : ConsoleState) (a : Answered ConsoleState Fate) (others : List (Answered ConsoleState Fate)) (executed : List Executed) → a.exchange.after.shell ≡ c.shell → AreTurns a.exchange.after others executed → AreTurns c (a ∷ others) executed
passed c a others [] same turns = (same, turns)
passed c a others (o ∷ executed) same turns = inl (same, turns)

with_step : (c : ConsoleState) (a : Answered ConsoleState Fate) (others : List (Answered ConsoleState Fate)) → IsStep c a → WereTurns a.exchange.after others → WereTurns c (a ∷ others)
with_step c a others (inl same) rest = record {
  executed = rest.executed;
  turns = passed c a others rest.executed same rest.turns;
  in_turn = subst (λ (s : ShellState). AreExecuted s rest.executed) same rest.in_turn;
}
with_step c a others (inr step) rest = record {
  executed = step.0 ∷ rest.executed;
  turns = inr (step.1, rest.turns);
  in_turn = (step.2, subst (λ (s : ShellState). AreExecuted s rest.executed) step.1.after rest.in_turn);
}

pub were_turns : (c : ConsoleState) (answered : List (Answered ConsoleState Fate)) → AreInTurn console_exchange c answered → WereTurns c answered
were_turns c [] in_turn = record { executed = []; turns = refl; in_turn = tt }
were_turns c (a ∷ others) in_turn =
    with_step c a others (exchanged c a.line (heard a.line) a.fate a.exchange in_turn.0) (were_turns a.exchange.after others in_turn.1)

pub console-served : (files : Contents) (vsn : List ℕ) (node : NodeState) → BootsFiles files vsn node → (end : ConsoleState) (left rest held holds : Option (List ℕ)) (ended : ServeEnd) → Serves console_exchange (opened_console files node) end left rest held holds ended → RunsConsole files vsn left rest held holds ended
console-served files vsn node starts end left rest held holds ended serves =
    let were = were_turns (opened_console files node) serves.answered serves.in_turn in
    record {
      node = node;
      starts = starts;
      end = end;
      serves = serves;
      executed = were.executed;
      turns = were.turns;
      in_turn = were.in_turn;
      headline = executed-headline node (opened_shell files node) refl were.executed were.in_turn;
    }
