-- The first of the paths that were seen.
use Rattle.std.proofs.Common.{map, string_bytes, take}
use Rattle.release_files.proofs.Firsts.{IsFirstOf}
use Rattle.release_files.proofs.rel_path.first_rel.Given as goal

abbrev pub invariant-loop-path : goal.invariant-loop-path
invariant-loop-path l = IsFirstOf (map (λ path. string_bytes path) (take l.path-index l.paths)) l.vsn l.first
