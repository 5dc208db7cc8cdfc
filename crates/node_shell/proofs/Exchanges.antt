-- Lemmas on the shell's exchanges: each is an effect, as the line server sees it.
use Rattle.std.proofs.Common.{◌≡◌, ℕ, List, [], ◌∷◌, ◌++◌, map, All, Option, None, refl, ap, subst, ◌∙◌}
use Rattle.std.proofs.lemmas.List.Elements.{All-nil, All-cons, All-head, All-tail}
use Rattle.line_server.specs.Lines.{heard}
use Rattle.line_server.specs.Session.{Exchange, Answered, IsExchange, AreInTurn}
use Rattle.shell_exec.specs.Execution.{ExecutesLine}
use Rattle.shell_exec.specs.HoldingsDone.{IsDone}
use Rattle.shell_exec.specs.State.{ShellState}
use Rattle.shell_exec.specs.Fate.{Fate}
use Rattle.shell_requests.specs.Request.{spoken}
use Rattle.node_shell.specs.Replay.{Executed, AreExecuted, SaysItsBytes, answered_as}
use Rattle.node_shell.specs.Shell.{shell_exchange, exchange_of}

-- what is said in a line was done, and the answer written behind others
pub exchange-done : (fate : Option Fate) (held s new : ShellState) (line : Option (List ℕ)) (none answer old appended : List ℕ) → held ≡ s → none ≡ [] → IsDone (ExecutesLine fate held (spoken line)) new none answer → appended ≡ old ++ answer → IsExchange (shell_exchange fate s line) new old appended
exchange-done fate held s new line none answer old appended views empty done more =
    let d = done.0 in
    let text : answer ≡ d.text = done.3 ∙ ap (λ l. l ++ d.text) empty in
    (exchange_of d, (d, subst (λ u. ExecutesLine fate u (spoken line) d) views done.1, refl), done.2, more ∙ ap (λ l. old ++ l) text)

-- What the shell answered in turn it did.
pub record WereObeyed (start : ShellState) (answered : List (Answered ShellState Fate)) : Type 0 where
  pub executed : List Executed
  pub same : answered ≡ map answered_as executed
  pub said : All SaysItsBytes executed
  pub in_turn : AreExecuted start executed

pub executed-from_answered : (start : ShellState) (answered : List (Answered ShellState Fate)) → AreInTurn shell_exchange start answered → WereObeyed start answered
executed-from_answered start [] in_turn = record { executed = []; same = refl; said = All-nil SaysItsBytes; in_turn = tt }
executed-from_answered start (a ∷ others) in_turn =
    let done = in_turn.0 in
    let o : Executed = record { line = a.line; said = spoken (heard a.line); fate = a.fate; effect = done.0 } in
    let first : a ≡ answered_as o = ap (λ (t : Exchange ShellState). record { line = a.line; fate = a.fate; exchange = t }) done.2 in
    let rest = executed-from_answered a.exchange.after others in_turn.1 in
    record {
      executed = o ∷ rest.executed;
      same = ap (λ (b : Answered ShellState Fate). b ∷ others) first ∙ ap (λ bs. answered_as o ∷ bs) rest.same;
      said = All-cons SaysItsBytes o rest.executed refl rest.said;
      in_turn = (done.1, subst (λ s. AreExecuted s rest.executed) (ap (λ (t : Exchange ShellState). t.after) done.2) rest.in_turn);
    }

-- no memory was refused where none was at what was answered
pub unrefused-executed : (executed : List Executed) → All (λ (a : Answered ShellState Fate). a.fate ≡ None) (map answered_as executed) → All (λ (o : Executed). o.fate ≡ None) executed
unrefused-executed [] none = All-nil (λ (o : Executed). o.fate ≡ None)
unrefused-executed (o ∷ others) none =
    All-cons (λ (p : Executed). p.fate ≡ None) o others (All-head (λ (a : Answered ShellState Fate). a.fate ≡ None) (answered_as o) (map answered_as others) none) (unrefused-executed others (All-tail (λ (a : Answered ShellState Fate). a.fate ≡ None) (answered_as o) (map answered_as others) none))
