-- One more read: it had the reply that was looked for, or not.
use Rattle.std.proofs.Common.{◌≡◌, ℕ, ◌+◌, suc, true, false, cond, List, [], ◌∷◌, ◌++◌, length, None, Some, Ok, refl, sym, ap, subst, ◌∙◌, append-nil, arith}
use Rattle.std.proofs.lemmas.List.{length_push}
use Rattle.std.proofs.lemmas.List.Elements.{All-nil, All-push}
use Rattle.erl_term.specs.declared.atom.Atom.{Atom}
use Rattle.erl_term.specs.declared.term.Term.{Term}
use Rattle.process_effects.specs.declared.told.Reply.{Reply}
use Rattle.node_history.specs.declared.command.Command.TheVariants as command
use Rattle.node_history.specs.declared.command.Said.TheVariants as said
use Rattle.node_history.specs.declared.entry.Line.{Line}
use Rattle.node_lock.specs.Core.{SeatState}
use Rattle.node_lock.specs.Seats.{Lists}
use Rattle.workers.specs.Calling.{Awaits, Calls, HasRead, Looks, end_of_reads, is_followed, line_of_read, lines_of_reads, reads_of, reply_to}
use Rattle.workers.specs.Lines.{with_lines}
use Rattle.workers.proofs.Behind.{behind}

lines-push : (from : ℕ) (reads : List (List Reply)) (rs : List Reply) → lines_of_reads from (reads ++ rs ∷ []) ≡ lines_of_reads from reads ++ line_of_read (end_of_reads from reads) rs ∷ []
lines-push from [] rs = refl
lines-push from (r ∷ reads) rs = ap (λ ls. line_of_read from r ∷ ls) (lines-push (from + length r) reads rs)

end-push : (from : ℕ) (reads : List (List Reply)) (rs : List Reply) → end_of_reads from (reads ++ rs ∷ []) ≡ end_of_reads from reads + length rs
end-push from [] rs = refl
end-push from (r ∷ reads) rs = end-push (from + length r) reads rs

-- the line of a read behind the others
last_line : (number first from often : ℕ) (rs : List Reply) (old mid new : SeatState) (has : HasRead number first from often old mid) → new ≡ with_lines mid (line_of_read from rs ∷ []) → new ≡ with_lines old (lines_of_reads first has.before ++ line_of_read (end_of_reads first has.before) rs ∷ [])
last_line number first from often rs old mid new has line =
    behind old mid new (lines_of_reads first has.before) (line_of_read (end_of_reads first has.before) rs ∷ []) has.lines
    (line ∙ ap (λ (n : ℕ). with_lines mid (line_of_read n rs ∷ [])) has.ends)

pub reads_nothing : (number first : ℕ) (old : SeatState) → HasRead number first first 0 old old
reads_nothing number first old = record {
  before = [];
  count = refl;
  none = All-nil (λ (rs : List Reply). reply_to number rs ≡ None);
  ends = refl;
  lines = ap (λ (ls : List Line). let s : SeatState = record { number = old.number; lines = ls } in s) (sym (append-nil old.lines));
}

pub reads_more : (number first from next often : ℕ) (old mid new : SeatState) → HasRead number first from often old mid → Looks number from next None mid new → HasRead number first next (often + 1) old new
reads_more number first from next often old mid new has looks =
    let rs = looks.0 in record {
      before = has.before ++ rs ∷ [];
      count = length_push has.before rs ∙ ap (λ n. n + 1) has.count;
      none = All-push (λ (rs : List Reply). reply_to number rs ≡ None) has.before rs has.none looks.1;
      ends = looks.2 ∙ ap (λ n. n + length rs) has.ends ∙ sym (end-push first has.before rs);
      lines = last_line number first from often rs old mid new has looks.3 ∙ ap (λ (ls : List Line). with_lines old ls) (sym (lines-push first has.before rs));
    }

pub reads_reply : (number first from next often : ℕ) (reply : Reply) (old mid new : SeatState) → HasRead number first from often old mid → Looks number from next (Some reply) mid new → Awaits number first old new reply
reads_reply number first from next often reply old mid new has looks = record {
  before = has.before;
  none = has.none;
  last = looks.0;
  first = looks.1;
  lines = last_line number first from often looks.0 old mid new has looks.2;
}

-- One more wait, which a read follows or not.

reads-next : (wait : ℕ) → reads_of (wait + 1) ≡ cond (is_followed (wait + 1)) (reads_of wait + 1) (reads_of wait)
reads-next wait =
    let e : suc wait ≡ wait + 1 = omega arith in
    subst (λ n. reads_of n ≡ cond (is_followed n) (reads_of wait + 1) (reads_of wait)) e refl

pub reads_passed : (number first from wait : ℕ) (old now : SeatState) → HasRead number first from (reads_of wait) old now → is_followed (wait + 1) ≡ false → HasRead number first from (reads_of (wait + 1)) old now
reads_passed number first from wait old now has not =
    subst (λ often. HasRead number first from often old now) (sym (reads-next wait ∙ ap (λ b. cond b (reads_of wait + 1) (reads_of wait)) not)) has

pub reads_made : (number first from next wait : ℕ) (old mid new : SeatState) → HasRead number first from (reads_of wait) old mid → Looks number from next None mid new → is_followed (wait + 1) ≡ true → HasRead number first next (reads_of (wait + 1)) old new
reads_made number first from next wait old mid new has looks is =
    subst (λ often. HasRead number first next often old new) (sym (reads-next wait ∙ ap (λ b. cond b (reads_of wait + 1) (reads_of wait)) is)) (reads_more number first from next (reads_of wait) old mid new has looks)

-- a call that is accepted, and the reply that is waited for
pub calls : (name : Atom) (term : Term) (number from : ℕ) (old called new : SeatState) (reply : Reply) → Lists (command.Call name term) (Ok (said.Called number)) old called → Awaits number from called new reply → Calls name term old new reply
calls name term number from old called new reply lists awaits =
    record { number = number; called = called; accepted = lists.1; from = from; awaits = awaits }

pub ruleset reads_laws = (reads_nothing, reads_passed, reads_made, reads_reply)
