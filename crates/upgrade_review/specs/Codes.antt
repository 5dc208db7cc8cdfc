-- The code of modules in the releases that a script leads from and to, and while it runs. Sources represent object code here.
use Rattle.std.specs.Prelude.{ℕ, Bool, false, ◌&&◌, if◌then◌else◌, List, Option, None, Some, is_some}
use Rattle.std.specs.List.{list_any}
use Rattle.std.specs.Str.{bytes_eq}
use Rattle.erl_ir.specs.Module.{Forms}
use Rattle.low_instructions.specs.declared.low.Low.{Low}
use Rattle.otp_files.specs.declared.app.StartModule.{StartModule}
use Rattle.release_table.specs.declared.table.AppFiles.{AppFiles}
use Rattle.release_table.specs.declared.table.Release.{Release}
use Rattle.script_state.specs.ObjectCode.{source_in, sources}
use Rattle.upgrade_review.specs.Scripts.{is_loaded, is_started}

-- The code of a module in a release, if the release has the module.
abbrev pub code_in : List ℕ → Release → Option Forms
code_in m r = source_in m (sources r)

-- The code that a module has after these instructions of a script: that of the release that is installed, if they load it, and
-- else that of the release that is left.
abbrev pub code_behind : List ℕ → List Low → Release → Release → Option Forms
code_behind m before left installed = if is_loaded m before then code_in m installed else code_in m left

-- Whether an application has a module.
abbrev pub has_module : List ℕ → AppFiles → Bool
has_module m files = is_some (source_in m files.modules)

-- Whether a script starts an application of a release that has a module.
abbrev pub is_started_with : List ℕ → Release → List Low → Bool
is_started_with m r script = list_any (λ files. has_module m files && is_started files.spec.name script) r.apps

-- Whether a module is this callback module of an application.
abbrev pub is_start_module : List ℕ → Option StartModule → Bool
is_start_module m None = false
is_start_module m (Some start) = bytes_eq start.name m

-- Whether a module is the callback module of an application of a release, `{mod,{M,Args}}` (app(4)): a change of its code is
-- one of the application's supervisor.
abbrev pub is_callback_module : List ℕ → Release → Bool
is_callback_module m r = list_any (λ files. is_start_module m files.spec.start) r.apps
