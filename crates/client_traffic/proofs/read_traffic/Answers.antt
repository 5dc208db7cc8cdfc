-- One line more.
use Rattle.std.proofs.Common.{◌≡◌, ◌∙◌, ◌<◌, ◌≤◌, get_or, length, ap, subst, sym, arith, lit<}
use Rattle.std.proofs.lemmas.Iterator.Consumers.{YieldsList-turn, YieldsList-end}
use Rattle.std.proofs.lemmas.Iterator.Splits.{YieldsList-from_str_split}
use Rattle.std.proofs.lemmas.List.{length_push}
use Rattle.client_traffic.proofs.Lines.{amiss_at, send_all, send_next}
use Rattle.client_traffic.specs.Traffic.{lines_of}
use Rattle.client_traffic.proofs.read_traffic.Goals as goal

pub loop-line-preserved : goal.loop-line-preserved
loop-line-preserved c =
    let turn = YieldsList-turn (YieldsList-from_str_split 10 c.args.text.now (lit< tt) (cc) (cc) (cc)) c.loop-line.yielded _ c.loop-line.yielded_by _ _ c.in-Some.line c.in-Some.is c.next.ensures.steps in
    let lines = lines_of c.args.text.now in
    let n = c.loop-line.number in
    let count : n ≡ length c.loop-line.yielded = c.loop-line.invariant.0 in
    let within : n < length lines = subst (λ k. k < length lines) (sym count) turn.0 in
    let item : c.in-Some.line.now ≡ get_or lines n c.in-Some.line.now =
    turn.1 ∙ ap (λ k. get_or lines k c.in-Some.line.now) (sym count) in (
      omega (arith, count, length_push c.loop-line.yielded c.in-Some.line),
      send_next lines n c.in-Some.line.now _ _ within item c.loop-line.invariant.1 c.in-Ok.ensures,
    )

pub returns-in-Err : goal.returns-in-Err
returns-in-Err c =
    let turn = YieldsList-turn (YieldsList-from_str_split 10 c.args.text.now (lit< tt) (cc) (cc) (cc)) c.loop-line.yielded _ c.loop-line.yielded_by _ _ c.in-Some.line c.in-Some.is c.next.ensures.steps in
    let lines = lines_of c.args.text.now in
    let n = c.loop-line.number in
    let count : n ≡ length c.loop-line.yielded = c.loop-line.invariant.0 in
    let within : n < length lines = subst (λ k. k < length lines) (sym count) turn.0 in
    let item : c.in-Some.line.now ≡ get_or lines n c.in-Some.line.now =
    turn.1 ∙ ap (λ k. get_or lines k c.in-Some.line.now) (sym count) in
    amiss_at lines n c.in-Some.line.now c.loop-line.found.items c.in-Err.error within item c.loop-line.invariant.1 c.in-Err.ensures

pub returns : goal.returns
returns c =
    let end = YieldsList-end (YieldsList-from_str_split 10 c.args.text.now (lit< tt) (cc) (cc) (cc)) c.loop-line.yielded _ c.loop-line.yielded_by _ _ c.in-None.is c.next.ensures.steps in
    let lines = lines_of c.args.text.now in
    let n = c.loop-line.number in
    let count : n ≡ length c.loop-line.yielded = c.loop-line.invariant.0 in
    let past : length lines ≤ n = omega (arith, count, end.1) in
    send_all lines n c.loop-line.found.items past c.loop-line.invariant.1
