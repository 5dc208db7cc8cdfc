-- One more is put in.
use Rattle.std.proofs.Common.{rules, ◌≡◌, ◌∷◌, ◌||◌, ◌∙◌, ap, subst, sym, List}
use Rattle.process_index.specs.Calls.{has}
use Rattle.process_index.specs.declared.calls.Call.{Call}
use Rattle.node_restart.proofs.AllCalls.{IsPutIn, moved, put_in}
use Rattle.node_restart.proofs.open_calls.add_calls.Goals as goal

step : (c : goal.In_ok-insert) → c.loop-call.call-iterator ≡ c.in-Some.call.now ∷ c.next.new.self
step c = search rules

pub loop-call-preserved : goal.loop-call-preserved
loop-call-preserved c =
    let call = c.in-Some.call.now in
    let before = c.loop-call.all.keys in
    let put = subst (IsPutIn call before) (sym c.in_ok-insert.ensures.keys) (put_in call before c.loop-call.invariant.ordered) in
    record {
      all = λ d. moved d call before c.insert.new.self.keys c.next.new.self put ∙ ap (λ (ks : List Call). has d before || has d ks) (sym (step c)) ∙ c.loop-call.invariant.all d;
      ordered = put.ordered;
    }
