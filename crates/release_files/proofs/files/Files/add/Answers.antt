-- A new path goes last.
use Rattle.std.proofs.Common.{◌++◌, ◌∷◌, [], ap, ◌∙◌, map, string_bytes}
use Rattle.std.specs.String.{string_eq}
use Rattle.std.proofs.lemmas.List.{map-append}
use Rattle.indexmap.proofs.CallerLemmas.{insert_entry-new}
use Rattle.release_files.specs.Files.{file_of}
use Rattle.release_files.proofs.Held.{lookup-paths}
use Rattle.release_files.proofs.files.Files.add.Goals as goal

pub returns-in-Ok-clause-ok : goal.returns-in-Ok-clause-ok
returns-in-Ok-clause-ok c =
    let path = c.args.path in
    let list = c.self.inside.list in
    let absent = lookup-paths (string_bytes path) list.entries ∙ ap (file_of (string_bytes path)) c.self.view_is ∙ c.requires in
    ap (map (λ e. (string_bytes e.0, e.1))) (c.in-Ok.ensures.entries ∙ insert_entry-new string_eq list path _ absent) ∙ map-append (λ e. (string_bytes e.0, e.1)) list.entries _ ∙ ap (λ files. files ++ (string_bytes path, c.new.result) ∷ []) c.self.view_is ∙ ap (λ bytes. c.args.self.now ++ (string_bytes path, bytes) ∷ []) c.new.ensures
