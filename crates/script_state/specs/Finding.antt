-- The script of an install (relup(4); release_handler(3), install_release/1).
use Rattle.std.specs.Prelude.{Option}
use Rattle.std.specs.Option.{option_or}
use Rattle.erl_term.specs.declared.term.Term.{Term}
use Rattle.low_instructions.specs.declared.low.Low.{Low}
use Rattle.otp_files.specs.Entries.{entry_for}
use Rattle.otp_files.specs.declared.upgrade.Entry.{Entry}
use Rattle.release_table.specs.declared.table.Release.{Release}

-- It leads from the release that runs to a new one: up from `running`, in the relup of `new`; where there is none, down to
-- `new`, in the relup of `running`.
abbrev pub script_for : Release → Release → Option (Entry Term Low)
script_for running new = option_or (entry_for running.rel.vsn new.relup.up) (entry_for new.rel.vsn running.relup.down)
