-- The pieces are the line's.
use Rattle.std.proofs.Common.{◌≡◌, ℕ, List, ◌++◌, ◌∷◌, [], codes, pos, ap, refl, ◌∙◌}
use Rattle.erl_semantics.specs.declared.acts.Place.{Place}
use Rattle.process.specs.Process.{ProcessState}
use Rattle.erl_term.specs.Tree.{int, pid, list}
use Rattle.erl_term.specs.Term.{trees}
use Rattle.shell_answers.specs.Answers.{activity_of, line_of, place_of, process_of}
use Rattle.shell_answers.proofs.Pieces.{before, on_ok, same, bytes}
use Rattle.shell_answers.proofs.Texts.{process-line}
use Rattle.shell_answers.proofs.processes.write_process.Goals as goal

parts : (p : ProcessState) (n turn : ℕ) (at : Place) (word : List ℕ) → n ≡ p.pid → turn ≡ p.turn → at ≡ p.place → word ≡ bytes (activity_of p.activity) → codes "{proc," ++ (bytes (pid n) ++ (44 ∷ [] ++ (bytes (place_of at) ++ (44 ∷ [] ++ (word ++ (44 ∷ [] ++ (bytes (int (pos turn)) ++ (44 ∷ [] ++ (bytes (list (trees p.mailbox)) ++ codes "}\n"))))))))) ≡ line_of (process_of p)
parts p n turn at word same_pid same_turn same_place same_word =
    (λ i. codes "{proc," ++ (bytes (pid (same_pid i)) ++ (44 ∷ [] ++ (bytes (place_of (same_place i)) ++ (44 ∷ [] ++ (same_word i ++ (44 ∷ [] ++ (bytes (int (pos (same_turn i))) ++ (44 ∷ [] ++ (bytes (list (trees p.mailbox)) ++ codes "}\n")))))))))) ∙ process-line p

pub returns : goal.returns
returns c =
    let old = c.args.out.now.items in
    let new = c.put-7.new.out.items in
    on_ok c.put-7.result _ _ c.put-7.ensures (λ last. same old new ((codes "{proc,") ++ ((bytes (pid c.pid.result)) ++ ((44 ∷ []) ++ ((bytes (place_of c.args.process.now.place)) ++ ((44 ∷ []) ++ (c.activity_word.result.now ++ ((44 ∷ []) ++ ((bytes (int (pos c.turn.result))) ++ ((44 ∷ []) ++ ((bytes (list (trees c.args.process.now.mailbox))) ++ (codes "}\n"))))))))))) _ (before (old) (c.put.new.out.items) new (codes "{proc,") ((bytes (pid c.pid.result)) ++ ((44 ∷ []) ++ ((bytes (place_of c.args.process.now.place)) ++ ((44 ∷ []) ++ (c.activity_word.result.now ++ ((44 ∷ []) ++ ((bytes (int (pos c.turn.result))) ++ ((44 ∷ []) ++ ((bytes (list (trees c.args.process.now.mailbox))) ++ (codes "}\n")))))))))) c.in_ok-put.ensures (before (c.put.new.out.items) (c.put_pid.new.out.items) new (bytes (pid c.pid.result)) ((44 ∷ []) ++ ((bytes (place_of c.args.process.now.place)) ++ ((44 ∷ []) ++ (c.activity_word.result.now ++ ((44 ∷ []) ++ ((bytes (int (pos c.turn.result))) ++ ((44 ∷ []) ++ ((bytes (list (trees c.args.process.now.mailbox))) ++ (codes "}\n"))))))))) c.in_ok-put_pid.ensures (before (c.put_pid.new.out.items) (c.put-2.new.out.items) new (44 ∷ []) ((bytes (place_of c.args.process.now.place)) ++ ((44 ∷ []) ++ (c.activity_word.result.now ++ ((44 ∷ []) ++ ((bytes (int (pos c.turn.result))) ++ ((44 ∷ []) ++ ((bytes (list (trees c.args.process.now.mailbox))) ++ (codes "}\n")))))))) c.in_ok-put-2.ensures (before (c.put-2.new.out.items) (c.put_standing.new.out.items) new (bytes (place_of c.args.process.now.place)) ((44 ∷ []) ++ (c.activity_word.result.now ++ ((44 ∷ []) ++ ((bytes (int (pos c.turn.result))) ++ ((44 ∷ []) ++ ((bytes (list (trees c.args.process.now.mailbox))) ++ (codes "}\n"))))))) c.in_ok-put_standing.ensures (before (c.put_standing.new.out.items) (c.put-3.new.out.items) new (44 ∷ []) (c.activity_word.result.now ++ ((44 ∷ []) ++ ((bytes (int (pos c.turn.result))) ++ ((44 ∷ []) ++ ((bytes (list (trees c.args.process.now.mailbox))) ++ (codes "}\n")))))) c.in_ok-put-3.ensures (before (c.put-3.new.out.items) (c.put-4.new.out.items) new c.activity_word.result.now ((44 ∷ []) ++ ((bytes (int (pos c.turn.result))) ++ ((44 ∷ []) ++ ((bytes (list (trees c.args.process.now.mailbox))) ++ (codes "}\n"))))) c.in_ok-put-4.ensures (before (c.put-4.new.out.items) (c.put-5.new.out.items) new (44 ∷ []) ((bytes (int (pos c.turn.result))) ++ ((44 ∷ []) ++ ((bytes (list (trees c.args.process.now.mailbox))) ++ (codes "}\n")))) c.in_ok-put-5.ensures (before (c.put-5.new.out.items) (c.put_number.new.out.items) new (bytes (int (pos c.turn.result))) ((44 ∷ []) ++ ((bytes (list (trees c.args.process.now.mailbox))) ++ (codes "}\n"))) c.in_ok-put_number.ensures (before (c.put_number.new.out.items) (c.put-6.new.out.items) new (44 ∷ []) ((bytes (list (trees c.args.process.now.mailbox))) ++ (codes "}\n")) c.in_ok-put-6.ensures (before (c.put-6.new.out.items) (c.put_mailbox.new.out.items) new (bytes (list (trees c.args.process.now.mailbox))) (codes "}\n") c.in_ok-put_mailbox.ensures last)))))))))) (parts c.args.process.now c.pid.result c.turn.result c.args.process.now.place c.activity_word.result.now c.pid.ensures c.turn.ensures refl (c.activity_word.ensures ∙ ap (λ a. bytes (activity_of a)) c.activity.ensures)))
