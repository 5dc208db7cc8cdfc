-- A fault is told at the `$`, or at the backslash.
use Rattle.std.proofs.Common.{rules}
use Rattle.erl_chars.specs.Cursor.{left}
use Rattle.erl_scan.specs.Answers.{faulty}
use Rattle.erl_scan.proofs.Reading.{no_character, bad_character}
use Rattle.erl_scan.proofs.scanner.Scanner.character_token.Goals as goal

pub returns-in_default-clause-answers : goal.returns-in_default-clause-answers
returns-in_default-clause-answers c =
    faulty _ (no_character _ (search (rules, c.peek.ensures))) c.offset-dollar.ensures

pub returns-in-Err-clause-answers : goal.returns-in-Err-clause-answers
returns-in-Err-clause-answers c =
    let step = rw c.advance-2.ensures.left at c.in-Err.ensures.step in
    let placed = rw c.advance.ensures.total at c.offset-at.ensures in
    faulty (left c.advance.new.self) (bad_character (left c.args.self.now.cursor) (left c.advance.new.self) (left c.escape.new.self) c.in-Some.c c.in-Err.field-0 c.advance.ensures.left c.in-Some.ensures c.if-c-ne92.false step) placed
