-- One more advance of an install: it ends the install, or not.
use Rattle.std.proofs.Common.{◌≡◌, ℕ, ◌-◌, List, [], ◌∷◌, ◌++◌, Ok, refl, sym, ap, ◌∙◌, append-nil}
use Rattle.std.proofs.lemmas.List.Elements.{All-nil, All-push}
use Rattle.node_history.specs.declared.command.Said.TheVariants.{Performed}
use Rattle.node_history.specs.declared.entry.Line.{Line}
use Rattle.node_lock.specs.Core.{SeatState}
use Rattle.workers.specs.Installing.{Advances, Begins, Drives, GoesOn, HasAdvanced, MeetsEnd, Stride, goes, waits, left_after, left_after_all, line_of_advance, line_of_stride, lines_of_strides}
use Rattle.workers.specs.Lines.{with_lines}
use Rattle.workers.specs.declared.installing.Advanced.TheVariants as advanced
use Rattle.workers.specs.declared.installing.InstallEnd.{InstallEnd}
use Rattle.workers.proofs.Behind.{behind}

lines-push : (left : ℕ) (strides : List Stride) (s : Stride) → lines_of_strides left (strides ++ s ∷ []) ≡ lines_of_strides left strides ++ line_of_stride (left_after_all left strides) s ∷ []
lines-push left [] s = refl
lines-push left (t ∷ strides) s = ap (λ ls. line_of_stride left t ∷ ls) (lines-push (left_after left t) strides s)

left-push : (left : ℕ) (strides : List Stride) (s : Stride) → left_after_all left (strides ++ s ∷ []) ≡ left_after (left_after_all left strides) s
left-push left [] s = refl
left-push left (t ∷ strides) s = left-push (left_after left t) strides s

pub advances_nothing : (patience : ℕ) (old : SeatState) → HasAdvanced patience patience old old
advances_nothing patience old = record {
  strides = [];
  on = All-nil GoesOn;
  still = refl;
  lines = ap (λ (ls : List Line). let s : SeatState = record { number = old.number; lines = ls } in s) (sym (append-nil old.lines));
}

-- one more stride
strides : (patience left : ℕ) (s : Stride) (old mid new : SeatState) → HasAdvanced patience left old mid → GoesOn s → new ≡ with_lines mid (line_of_stride left s ∷ []) → HasAdvanced patience (left_after left s) old new
strides patience left s old mid new has on line = record {
  strides = has.strides ++ s ∷ [];
  on = All-push GoesOn has.strides s has.on on;
  still = ap (λ n. left_after n s) has.still ∙ sym (left-push patience has.strides s);
  lines = behind old mid new (lines_of_strides patience has.strides) (line_of_stride (left_after_all patience has.strides) s ∷ []) has.lines
      (line ∙ ap (λ (n : ℕ). with_lines mid (line_of_stride n s ∷ [])) has.still) ∙
      ap (λ (ls : List Line). with_lines old ls) (sym (lines-push patience has.strides s));
}

pub advances_on : (patience left : ℕ) (old mid new : SeatState) → HasAdvanced patience left old mid → Advances left advanced.Went mid new → HasAdvanced patience left old new
advances_on patience left old mid new has went = strides patience left (goes went.0) old mid new has went.1 went.2

pub advances_waiting : (patience left : ℕ) (old mid new : SeatState) → HasAdvanced patience left old mid → Advances left advanced.Busy mid new → HasAdvanced patience (left - 1) old new
advances_waiting patience left old mid new has busy = strides patience left (waits busy.0) old mid new has tt busy.1

pub advances_to_end : (patience left : ℕ) (end : InstallEnd) (old mid new : SeatState) → HasAdvanced patience left old mid → Advances left (advanced.Ended end) mid new → MeetsEnd patience old new end
advances_to_end patience left end old mid new has ends = record {
  strides = has.strides;
  on = has.on;
  answer = ends.0;
  ends = ends.1;
  lines = behind old mid new (lines_of_strides patience has.strides) (line_of_advance (left_after_all patience has.strides) (Ok (Performed ends.0)) ∷ []) has.lines
      (ends.2 ∙ ap (λ (n : ℕ). with_lines mid (line_of_advance n (Ok (Performed ends.0)) ∷ [])) has.still);
}

pub drives : (vsn : List ℕ) (patience : ℕ) (old begun new : SeatState) (end : InstallEnd) → Begins vsn old begun → MeetsEnd patience begun new end → Drives vsn patience old new end
drives vsn patience old begun new end begins ends = record { begun = begun; begins = begins; ends = ends }

pub ruleset advances_laws = (advances_nothing, advances_on, advances_waiting, advances_to_end)
