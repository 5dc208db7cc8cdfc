-- By the tokens so far.
use Rattle.erl_scan.specs.Scanner.{left, total}
use Rattle.erl_scan.proofs.Shorter.{token-less}
use Rattle.erl_scan.proofs.WholeTexts.{so_far-none, so_far-more, scan-faulty}
use Rattle.erl_scan.proofs.whole.scan.Goals as goal

pub loop-spot-init : goal.loop-spot-init
loop-spot-init c =
    so_far-none c.args.text.now (left c.new-scanner.result) (total c.new-scanner.result) c.in_ok-tokens.tokens.items c.utf8.text c.new-scanner.ensures.left c.new-scanner.ensures.total c.in_ok-tokens.ensures.items

pub loop-spot-smaller : goal.loop-spot-smaller
loop-spot-smaller c =
    let scanned = rw c.in-Ok-Some.field-0-is at c.in-Ok-Some.ensures.scans in
    token-less (left c.loop-spot.scanner) c.in-Ok-Some.spot.what (left c.next_token.new.self) scanned.0

pub loop-spot-preserved : goal.loop-spot-preserved
loop-spot-preserved c =
    let scanned = rw c.in-Ok-Some.field-0-is at c.in-Ok-Some.ensures.scans in
    so_far-more c.args.text.now (left c.loop-spot.scanner) (left c.next_token.new.self) (total c.loop-spot.scanner) (total c.next_token.new.self) c.loop-spot.tokens.items c.push.new.self.items c.in-Ok-Some.spot c.loop-spot.invariant scanned c.in_ok-push-in-Ok-Some.ensures.items c.in-Ok-Some.ensures.total

pub returns-in_default : goal.returns-in_default
returns-in_default c =
    scan-faulty c.args.text.now (left c.loop-spot.scanner) (total c.loop-spot.scanner) c.loop-spot.tokens.items c.in-Err.error c.loop-spot.invariant c.in-Err.ensures.scans c.in_default.not-Memory
