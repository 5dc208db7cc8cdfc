-- The steps that lines of the console made, and the names of marks.
use Rattle.std.specs.Prelude.{ℕ, nat_le, nat_lt, ◌==◌, not, if◌then◌else◌, List, [], ◌∷◌, ◌++◌, filter, Option, option_map}
use Rattle.std.specs.List.{find}
use Rattle.std.specs.Str.{bytes_eq, chars, is_utf8}
use Rattle.console_answers.specs.Rows.{number, string, tuple_of}
use Rattle.console_answers.specs.declared.journal.LoggedStep.{LoggedStep}
use Rattle.console_answers.specs.declared.journal.NamedMark.{NamedMark}
use Rattle.erl_term.specs.Term.{trees}
use Rattle.erl_term.specs.declared.term.Term.{Term}
use Rattle.erl_term.specs.declared.term.Term.TheVariants.{Atom, List as ListOf}

-- `{K,"Line",Names}`: the mark after a step, the line that made it, and the names of the mark.

abbrev pub names_at : ℕ → List NamedMark → List Term
names_at mark [] = []
names_at mark (m ∷ ms) = if m.mark == mark then Atom m.name ∷ names_at mark ms else names_at mark ms

-- a line by its characters; of one that is not UTF-8, which is no command, there is nothing to show
abbrev pub line_term : List ℕ → Term
line_term line = if is_utf8 line then string (chars line) else string []

abbrev pub step_row : List NamedMark → LoggedStep → Term
step_row marks s = tuple_of (number s.serial ∷ line_term s.line ∷ ListOf (trees (names_at s.serial marks)) ∷ [])

-- the rows of the steps after a mark
abbrev pub step_rows : ℕ → List NamedMark → List LoggedStep → List Term
step_rows after marks [] = []
step_rows after marks (s ∷ ss) =
    if nat_lt after s.serial then step_row marks s ∷ step_rows after marks ss else step_rows after marks ss

-- the mark of a name
abbrev pub mark_named : List ℕ → List NamedMark → Option ℕ
mark_named name marks = option_map (λ m. m.mark) (find (λ m. bytes_eq m.name name) marks)

-- What stays of the steps when the node came from one mark and floor to another: a step that a line made goes last; an undo takes
-- away those after its mark, and a forget those up to the floor.
abbrev pub steps_after : List ℕ → ℕ → ℕ → ℕ → ℕ → List LoggedStep → List LoggedStep
steps_after line mark_before floor_before mark floor steps =
    if nat_lt mark_before mark then steps ++ record { serial = mark; line = line } ∷ []
    else (if nat_lt mark mark_before then filter (λ s. nat_le s.serial mark) steps
    else (if nat_lt floor_before floor then filter (λ s. nat_lt floor s.serial) steps else steps))

-- a mark has a name, which no other mark has any more
abbrev pub named_mark : List ℕ → ℕ → List NamedMark → List NamedMark
named_mark name mark marks = filter (λ m. not (bytes_eq m.name name)) marks ++ record { mark = mark; name = name } ∷ []
