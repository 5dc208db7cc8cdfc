-- The keys of the map.
use Rattle.std.proofs.Common.{ap, ◌∙◌, map, string_bytes}
use Rattle.release_files.specs.Files.{paths_of}
use Rattle.release_files.proofs.Held.{keys-paths}
use Rattle.release_files.proofs.files.Files.paths.Goals as goal

pub returns : goal.returns
returns c =
    ap (map (λ path. string_bytes path)) (c.as_slice.ensures ∙ c.keys.ensures.rest) ∙ keys-paths c.self.inside.list.entries ∙ ap paths_of c.self.view_is
