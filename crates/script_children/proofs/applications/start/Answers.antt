-- Of an application that has started the children are taken that it had before.
use Rattle.std.proofs.Common.{◌≡◌, ℕ, List, IfSome, Option, None, Some}
use Rattle.app_table.specs.Applications.{Application, app_of, started}
use Rattle.app_table.specs.Pieces.{Piece, child_pieces, held}
use Rattle.app_table.specs.declared.child.Child.{Child}
use Rattle.sys_protocol.specs.Refusals.{start_refusal, start_refusal_of}
use Rattle.script_children.specs.Pieces.{SpecsTaken, children_held, replaced}
use Rattle.script_children.proofs.applications.start.Goals as goal

of_children : (o : Option Application) (pieces : List Piece) → start_refusal_of o ≡ None → IfSome o (λ a. pieces ≡ child_pieces a.spec.name a.children) → pieces ≡ children_held o
of_children None pieces starts is = absurd (let no : ⊥ = cc in no)
of_children (Some a) pieces starts is = is

taken : (name : List ℕ) (children : List Child) (before after : List Application) (pieces : List Piece) → start_refusal name before ≡ None → after ≡ started name children before → IfSome (app_of name before) (λ a. pieces ≡ child_pieces a.spec.name a.children) → SpecsTaken pieces before after
taken name children before after pieces starts now is = replaced name children now (of_children (app_of name before) pieces starts is)

pub returns-clause-app_pieces : goal.returns-clause-app_pieces
returns-clause-app_pieces c =
    let it = c.in_ok-started.ensures in
    taken c.args.name.now it.started.0 c.args.apps.now c.start_app.new.apps (held c.in_ok-started.started.undo c.start_app.new.apps) it.ok it.started.4 it.app_pieces
