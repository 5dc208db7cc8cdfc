-- By the first path of a `.rel`.
use Rattle.std.proofs.Common.{map, string_bytes}
use Rattle.release_files.proofs.Judged.{rel_missing, rel_of_path, rel_stands}
use Rattle.release_files.proofs.rel.rel_of.Goals as goal

pub rel_told-requires : goal.rel_told-requires
rel_told-requires c =
    rel_stands c.args.files.now c.args.vsn.now c.in-Some.path.now (map (λ path. string_bytes path) c.paths.result.now) c.paths.ensures c.in-Some.ensures

pub returns-in-Some : goal.returns-in-Some
returns-in-Some c =
    rel_of_path c.args.files.now c.args.vsn.now c.in-Some.path.now (map (λ path. string_bytes path) c.paths.result.now) c.rel_told.result c.paths.ensures c.in-Some.ensures c.rel_told.ensures

pub returns-in-None : goal.returns-in-None
returns-in-None c =
    rel_missing c.args.files.now c.args.vsn.now (string_bytes c.missing_rel.result.path) (map (λ path. string_bytes path) c.paths.result.now) c.missing_rel.result.fault c.paths.ensures c.in-None.ensures c.missing_rel.ensures
