-- The pieces are the tuple's.
use Rattle.std.proofs.Common.{◌++◌, ◌∷◌, []}
use Rattle.erl_term.specs.Tree.{atom}
use Rattle.shell_answers.proofs.Pieces.{before, on_ok, same, bytes}
use Rattle.shell_answers.specs.Answers.{serial_of}
use Rattle.shell_answers.proofs.Texts.{triple-pieces}
use Rattle.shell_answers.proofs.modules.put_module.Goals as goal

pub returns : goal.returns
returns c =
    let old = c.args.out.now.items in
    let new = c.put-4.new.out.items in
    on_ok c.put-4.result _ _ c.put-4.ensures (λ last. same old new ((123 ∷ []) ++ ((bytes (atom c.args.name.now)) ++ ((44 ∷ []) ++ ((bytes (serial_of c.args.slots.now.current)) ++ ((44 ∷ []) ++ ((bytes (serial_of c.args.slots.now.former)) ++ (125 ∷ []))))))) _ (before (old) (c.put.new.out.items) new (123 ∷ []) ((bytes (atom c.args.name.now)) ++ ((44 ∷ []) ++ ((bytes (serial_of c.args.slots.now.current)) ++ ((44 ∷ []) ++ ((bytes (serial_of c.args.slots.now.former)) ++ (125 ∷ [])))))) c.in_ok-put.ensures (before (c.put.new.out.items) (c.print_atom.new.out.items) new (bytes (atom c.args.name.now)) ((44 ∷ []) ++ ((bytes (serial_of c.args.slots.now.current)) ++ ((44 ∷ []) ++ ((bytes (serial_of c.args.slots.now.former)) ++ (125 ∷ []))))) c.in_ok-print_atom.ensures.printed (before (c.print_atom.new.out.items) (c.put-2.new.out.items) new (44 ∷ []) ((bytes (serial_of c.args.slots.now.current)) ++ ((44 ∷ []) ++ ((bytes (serial_of c.args.slots.now.former)) ++ (125 ∷ [])))) c.in_ok-put-2.ensures (before (c.put-2.new.out.items) (c.put_serial.new.out.items) new (bytes (serial_of c.args.slots.now.current)) ((44 ∷ []) ++ ((bytes (serial_of c.args.slots.now.former)) ++ (125 ∷ []))) c.in_ok-put_serial.ensures (before (c.put_serial.new.out.items) (c.put-3.new.out.items) new (44 ∷ []) ((bytes (serial_of c.args.slots.now.former)) ++ (125 ∷ [])) c.in_ok-put-3.ensures (before (c.put-3.new.out.items) (c.put_serial-2.new.out.items) new (bytes (serial_of c.args.slots.now.former)) (125 ∷ []) c.in_ok-put_serial-2.ensures last)))))) (triple-pieces (atom c.args.name.now) (serial_of c.args.slots.now.current) (serial_of c.args.slots.now.former)))
