-- Each refusal by its word.
use Rattle.std.proofs.Common.{◌++◌, codes, sym, ap, ◌∙◌}
use Rattle.erl_term.specs.Tree.{atom}
use Rattle.shell_answers.specs.Answers.{line_of}
use Rattle.shell_answers.specs.Relups.{unmade}
use Rattle.shell_answers.proofs.Pieces.{bytes, on_ok, same}
use Rattle.shell_answers.proofs.Texts.{base_changed-line, no_appup-line, unknown_module-line}
use Rattle.shell_answers.proofs.relups.write_unmade.Goals as goal

pub returns-in-BaseChanged : goal.returns-in-BaseChanged
returns-in-BaseChanged c =
    on_ok c.write_of_name.result _ _ c.write_of_name.ensures (λ wrote. same c.args.out.now.items c.write_of_name.new.out.items (codes "{error,{base_changed," ++ (bytes (atom c.in-BaseChanged.app) ++ codes "}}\n")) _ wrote (base_changed-line c.in-BaseChanged.app ∙ ap (λ e. line_of (unmade e)) (sym c.in-BaseChanged.is)))

pub returns-in-NoAppup : goal.returns-in-NoAppup
returns-in-NoAppup c =
    on_ok c.write_of_name-in-NoAppup.result _ _ c.write_of_name-in-NoAppup.ensures (λ wrote. same c.args.out.now.items c.write_of_name-in-NoAppup.new.out.items (codes "{error,{no_appup," ++ (bytes (atom c.in-NoAppup.app) ++ codes "}}\n")) _ wrote (no_appup-line c.in-NoAppup.app ∙ ap (λ e. line_of (unmade e)) (sym c.in-NoAppup.is)))

pub returns-in-UnknownModule : goal.returns-in-UnknownModule
returns-in-UnknownModule c =
    on_ok c.write_of_name-in-UnknownModule.result _ _ c.write_of_name-in-UnknownModule.ensures (λ wrote. same c.args.out.now.items c.write_of_name-in-UnknownModule.new.out.items (codes "{error,{unknown_module," ++ (bytes (atom c.in-UnknownModule.name) ++ codes "}}\n")) _ wrote (unknown_module-line c.in-UnknownModule.name ∙ ap (λ e. line_of (unmade e)) (sym c.in-UnknownModule.is)))
