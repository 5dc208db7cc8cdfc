-- The look-up by a path's bytes.
use Rattle.std.proofs.Common.{sym, ap, ◌∙◌, Some}
use Rattle.release_files.specs.Files.{file_of}
use Rattle.release_files.proofs.Held.{lookup-paths}
use Rattle.release_files.proofs.files.Files.get.Goals as goal

pub returns-in-Some : goal.returns-in-Some
returns-in-Some c =
    let path = c.args.path.now in
    sym (c.in-Some.ensures.value ∙ lookup-paths path c.self.inside.list.entries ∙ ap (file_of path) c.self.view_is) ∙ ap Some (sym c.as_slice.ensures)

pub returns-in-None : goal.returns-in-None
returns-in-None c =
    let path = c.args.path.now in
    sym (c.in-None.ensures.value ∙ lookup-paths path c.self.inside.list.entries ∙ ap (file_of path) c.self.view_is)
