-- Names of shared nodes.
use Rattle.std.specs.Prelude.{[]}
use Rattle.release_table.specs.declared.table.Release.{Release}

-- The release that a name has as long as nobody picks one: it has no application.
abbrev pub some_release : Release
some_release = record {
  rel = record { name = []; vsn = []; erts = []; apps = [] };
  relup = record { vsn = []; up = []; down = [] };
  apps = [];
}
