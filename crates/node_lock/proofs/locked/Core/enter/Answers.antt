-- A command of a seat, done and entered.
use Rattle.std.proofs.Common.{List, ap, arith, subst, ◌∙◌}
use Rattle.node_history.specs.declared.entry.Entry.{Entry}
use Rattle.node_history.specs.declared.entry.Line.{Line}
use Rattle.node_commands.specs.Acting.{IsDone}
use Rattle.node_lock.specs.Entering.{Puts}
use Rattle.node_lock.specs.Core.{CoreState, Enters, SeatState}
use Rattle.node_lock.proofs.Entered.{enters, legal, longer}
use Rattle.node_lock.proofs.Listed.{lists}
use Rattle.node_lock.proofs.locked.Core.enter.Goals as goal

pub invariant_of-self-2 : goal.invariant_of-self-2
invariant_of-self-2 g c =
    let inside = c.self.inside in
    let seat = c.seat.inside in
    let before = c.in_ok-make_room.ensures.items in
    let asked = c.args.command in
    let listed = c.in_ok-listed.listed in
    let it = c.in_ok-acted.acted in
    let entries = c.put.new.history.items in
    let lines = c.put.new.lines.items in
    let t = c.act.new.journal in
    let done = subst (λ (es : List Entry). IsDone inside.journal es seat.number asked it t) before c.in_ok-acted.ensures.done in
    let history = ap (λ h. h.items) c.in_ok-acted.ensures.history ∙ before in
    let behind = subst (λ (es : List Entry). Puts seat.number asked listed it es c.make_room-2.new.self.items c.put.result entries lines) history c.put.ensures in
    let puts = subst (λ (ls : List Line). Puts seat.number asked listed it inside.history.items ls c.put.result entries lines) c.in_ok-make_room-2.ensures.items behind in
    let more = longer seat.number asked listed it inside.history.items seat.lines.items c.put.result entries lines puts in (
      legal g.N.Naming.opened asked listed it record { booted = inside.booted.value; history = inside.history.items; timeline = inside.journal }
          record { number = seat.number; lines = seat.lines.items } c.put.result entries lines t c.self.invariant.0 done puts,
      omega (arith, c.add.ensures.total, c.self.invariant.1, more.0),
      c.self.invariant.2,
      c.self.invariant.3,
    )

pub returns-clause-entered : goal.returns-clause-entered
returns-clause-entered g c =
    let inside = c.self.inside in
    let seat = c.seat.inside in
    let before = c.in_ok-make_room.ensures.items in
    let asked = c.args.command in
    let listed = c.in_ok-listed.listed in
    let it = c.in_ok-acted.acted in
    let entries = c.put.new.history.items in
    let lines = c.put.new.lines.items in
    let t = c.act.new.journal in
    let done = subst (λ (es : List Entry). IsDone inside.journal es seat.number asked it t) before c.in_ok-acted.ensures.done in
    let history = ap (λ h. h.items) c.in_ok-acted.ensures.history ∙ before in
    let behind = subst (λ (es : List Entry). Puts seat.number asked listed it es c.make_room-2.new.self.items c.put.result entries lines) history c.put.ensures in
    let puts = subst (λ (ls : List Line). Puts seat.number asked listed it inside.history.items ls c.put.result entries lines) c.in_ok-make_room-2.ensures.items behind in
    let old : CoreState = record { booted = inside.booted.value; history = inside.history.items; timeline = inside.journal } in
    let was : SeatState = record { number = seat.number; lines = seat.lines.items } in
    let new : CoreState = record { booted = inside.booted.value; history = entries; timeline = t } in
    let after : SeatState = record { number = seat.number; lines = lines } in
    let done_so = enters asked listed it old was c.put.result entries lines t c.in_ok-listed.ensures done puts in
    subst (λ (s : SeatState). Enters asked c.put.result c.args.self.now s new after) c.seat.view_is
    (subst (λ (s : CoreState). Enters asked c.put.result s was new after) c.self.view_is done_so)

pub returns-clause-listed : goal.returns-clause-listed
returns-clause-listed g c = lists c.args.command c.put.result _ _ _ _ (returns-clause-entered g c)
