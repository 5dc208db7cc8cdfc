-- By the tokens so far.
use Rattle.std.proofs.lemmas.Result.{err_from_is_err_and}
use Rattle.erl_scan.specs.Scanner.{left, total}
use Rattle.erl_term.specs.Term.{trees}
use Rattle.erl_consult.specs.Parser.{seen}
use Rattle.erl_consult.proofs.Joining.{start-reads, scan-fault, take-more, take-fault, end-joined}
use Rattle.erl_scan.proofs.Shorter.{token-less}
use Rattle.erl_consult.proofs.parsing.read_text.Goals as goal

pub loop-parser-init : goal.loop-parser-init
loop-parser-init c =
    start-reads c.args.text.now (left c.new-scanner.result) (total c.new-scanner.result) (seen c.new-parser.result) c.utf8.text c.new-scanner.ensures.left c.new-scanner.ensures.total c.new-parser.ensures

pub returns-in_err-spot : goal.returns-in_err-spot
returns-in_err-spot c =
    let p = err_from_is_err_and c.from_residual.result c.from_residual.ensures.1 in
    rw (p.1, p.2) (scan-fault c.args.text.now (left c.loop-parser.scanner) (total c.loop-parser.scanner) (seen c.loop-parser.parser) c.in_err-spot.field-0.0 c.loop-parser.invariant c.in_err-spot.ensures.scans)

pub loop-parser-smaller : goal.loop-parser-smaller
loop-parser-smaller c =
    let scanned = rw c.in-Some.is at c.in_ok-spot.ensures.scans in
    token-less (left c.loop-parser.scanner) c.in-Some.spot.what (left c.next_token.new.self) scanned.0

pub loop-parser-preserved : goal.loop-parser-preserved
loop-parser-preserved c =
    take-more c.args.text.now (left c.loop-parser.scanner) (left c.next_token.new.self) (total c.loop-parser.scanner) (total c.next_token.new.self) (seen c.loop-parser.parser) (seen c.take.new.self) c.in-Some.spot c.loop-parser.invariant (rw c.in-Some.is at c.in_ok-spot.ensures.scans) c.in_ok-take.ensures c.in_ok-spot.ensures.total

pub returns-in_err-take : goal.returns-in_err-take
returns-in_err-take c =
    let p = err_from_is_err_and c.from_residual-in_err-take.result c.from_residual-in_err-take.ensures.1 in
    rw (p.1, p.2) (take-fault c.args.text.now (left c.loop-parser.scanner) (left c.next_token.new.self) (total c.loop-parser.scanner) (seen c.loop-parser.parser) c.in-Some.spot c.in_err-take.field-0.0 c.loop-parser.invariant (rw c.in-Some.is at c.in_ok-spot.ensures.scans) c.in_err-take.ensures)

pub returns : goal.returns
returns c =
    end-joined (λ terms. trees terms.items) c.args.text.now (left c.loop-parser.scanner) (total c.loop-parser.scanner) (seen c.loop-parser.parser) c.finish.result c.utf8.text c.loop-parser.invariant (rw c.in_default.is at c.in_ok-spot.ensures.scans).0 c.finish.ensures
