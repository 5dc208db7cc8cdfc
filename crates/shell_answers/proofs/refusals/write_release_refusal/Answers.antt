-- Each refusal by its word.
use Rattle.std.proofs.Common.{◌++◌, ◌∷◌, codes, sym, ap, ◌∙◌}
use Rattle.std.specs.Str.{chars}
use Rattle.release_words.specs.Words.{string_tree}
use Rattle.shell_answers.specs.Answers.{line_of}
use Rattle.shell_answers.specs.Refusals.{release_refusal}
use Rattle.shell_answers.proofs.Pieces.{on_ok, same, bytes}
use Rattle.shell_answers.proofs.Texts.{of_version-line, exists-word, no_such_release-word, already_installed-word, permanent-word}
use Rattle.shell_answers.proofs.refusals.write_release_refusal.Goals as goal

pub returns-in-Exists : goal.returns-in-Exists
returns-in-Exists c =
    let vsn = chars c.args.vsn.now in
    on_ok c.write_of_version.result _ _ c.write_of_version.ensures (λ wrote. same c.args.out.now.items c.write_of_version.new.out.items (codes "{error,{" ++ (codes "exists" ++ (44 ∷ (bytes (string_tree vsn) ++ codes "}}\n")))) _ wrote (of_version-line (codes "exists") vsn exists-word ∙ ap (λ e. line_of (release_refusal vsn e)) (sym c.in-Exists.is)))

pub returns-in-NoSuchRelease : goal.returns-in-NoSuchRelease
returns-in-NoSuchRelease c =
    let vsn = chars c.args.vsn.now in
    on_ok c.write_of_version-in-NoSuchRelease.result _ _ c.write_of_version-in-NoSuchRelease.ensures (λ wrote. same c.args.out.now.items c.write_of_version-in-NoSuchRelease.new.out.items (codes "{error,{" ++ (codes "no_such_release" ++ (44 ∷ (bytes (string_tree vsn) ++ codes "}}\n")))) _ wrote (of_version-line (codes "no_such_release") vsn no_such_release-word ∙ ap (λ e. line_of (release_refusal vsn e)) (sym c.in-NoSuchRelease.is)))

pub returns-in-AlreadyInstalled : goal.returns-in-AlreadyInstalled
returns-in-AlreadyInstalled c =
    let vsn = chars c.args.vsn.now in
    on_ok c.write_of_version-in-AlreadyInstalled.result _ _ c.write_of_version-in-AlreadyInstalled.ensures (λ wrote. same c.args.out.now.items c.write_of_version-in-AlreadyInstalled.new.out.items (codes "{error,{" ++ (codes "already_installed" ++ (44 ∷ (bytes (string_tree vsn) ++ codes "}}\n")))) _ wrote (of_version-line (codes "already_installed") vsn already_installed-word ∙ ap (λ e. line_of (release_refusal vsn e)) (sym c.in-AlreadyInstalled.is)))

pub returns-in-Permanent : goal.returns-in-Permanent
returns-in-Permanent c =
    let vsn = chars c.args.vsn.now in
    on_ok c.write_of_version-in-Permanent.result _ _ c.write_of_version-in-Permanent.ensures (λ wrote. same c.args.out.now.items c.write_of_version-in-Permanent.new.out.items (codes "{error,{" ++ (codes "permanent" ++ (44 ∷ (bytes (string_tree vsn) ++ codes "}}\n")))) _ wrote (of_version-line (codes "permanent") vsn permanent-word ∙ ap (λ e. line_of (release_refusal vsn e)) (sym c.in-Permanent.is)))
