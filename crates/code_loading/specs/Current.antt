-- Every module's current code (code(3), all_loaded/0).
use Rattle.std.specs.Prelude.{ℕ, List, Option, filter_map, option_map}
use Rattle.erl_ir.specs.Module.{Forms}
use Rattle.erl_semantics.specs.declared.instance.Instance.{Instance}
use Rattle.code_server.specs.Modules.{Entry, Table as Loaded}
use Rattle.code_server.specs.declared.modules.Instance as loaded

-- an instance with the name of its module
abbrev pub named : List ℕ → loaded.Instance Forms → Instance
named name i = record { name = name; serial = i.serial; «module» = i.code }

abbrev pub current_in : Entry Forms → Option Instance
current_in entry = option_map (named entry.0) entry.1.current

-- in the order of the table
abbrev pub current_code : Loaded Forms → List Instance
current_code t = filter_map current_in t.entries
