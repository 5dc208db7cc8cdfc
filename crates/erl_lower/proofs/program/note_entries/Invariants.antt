-- The entries so far, and those that are left, are all.
use Rattle.std.proofs.Common.{◌≡◌, drop}
use Rattle.indexmap.specs.IndexSet.{insert_all}
use Rattle.erl_ir.specs.Module.{key_eq}
use Rattle.erl_lower.specs.Meaning.{entries_of}
use Rattle.erl_lower.proofs.program.note_entries.Given as goal

abbrev pub invariant-loop-entry : goal.invariant-loop-entry
invariant-loop-entry l =
    insert_all key_eq l.exports.keys (entries_of (drop l.entry-index l.entries)) ≡ insert_all key_eq l.fn.exports.keys (entries_of l.entries)
