-- What is told of replies and of releases.
use Rattle.std.proofs.Common.{◌≡◌, ℕ, List, [], ◌∷◌, Option, None, Some, Ok, refl, ap}
use Rattle.erl_term.specs.Rows.{append_trees}
use Rattle.erl_term.specs.Tree.{Trees, none, more}
use Rattle.node_history.specs.declared.command.Command.TheVariants as command
use Rattle.node_history.specs.declared.command.Said.TheVariants as said
use Rattle.workers.specs.Core.{AddsLine, SeatState}
use Rattle.workers.specs.Seats.{IsFor}
use Rattle.release_statuses.specs.declared.listed.Listed.{Listed}
use Rattle.shell_answers.specs.Answers.{fixed, line_of}
use Rattle.shell_answers.specs.Refusals.{naming_nothing}
use Rattle.shell_answers.specs.declared.fixed.Fixed.TheVariants as words
use Rattle.shell_exec.specs.Fate.{Fate}
use Rattle.shell_exec.specs.Fate.TheVariants as fates
use Rattle.worker_lines.specs.Asking.{Holds, IsAnswered, IsWritten, releases_told, unwritten}
use Rattle.workers.specs.Lines.{line}
use Rattle.worker_lines.proofs.Heard.{heard-told}

pub append-none : (ts : Trees) → append_trees ts none ≡ ts
append-none none = refl
append-none (more t ts) = ap (more t) (append-none ts)

pub releases-told : (rs : List Listed) (fate : Option Fate) (seat after : SeatState) (text appended : List ℕ) → IsFor command.Which (said.Releases rs) × AddsLine command.Which (Ok (said.Releases rs)) seat after → IsWritten rs fate text appended → IsAnswered (Holds command.Which naming_nothing releases_told fate) seat after text appended
releases-told rs None seat after text appended lists told =
    heard-told command.Which naming_nothing releases_told seat after text appended (said.Releases rs) None lists (refl, told)
releases-told rs (Some fates.Refused) seat after text appended lists told = record {
  lines = line command.Which (Ok (said.Releases rs)) ∷ [];
  answer = line_of (fixed words.Memory);
  may_be = unwritten (said.Releases rs) refl lists.0;
  listed = lists.1;
  written = told;
}
releases-told rs (Some (fates.StoppedAt mark)) seat after text appended lists told = absurd told
