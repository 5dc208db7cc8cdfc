-- What a seat keeps of a history: its list.
use Rattle.std.specs.Prelude.{ℕ, List, filter, map, nat_eq}
use Rattle.node_history.specs.declared.entry.Entry.{Entry}
use Rattle.node_history.specs.declared.entry.Line.{Line}

-- of an entry all but the seat and the note
abbrev pub line_of : Entry → Line
line_of e = record { command = e.command; answer = e.answer }

-- the lines of a seat, by its number: its own entries, in order
abbrev pub lines_of : ℕ → List Entry → List Line
lines_of seat entries = map line_of (filter (λ e. nat_eq e.seat seat) entries)
