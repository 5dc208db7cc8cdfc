-- What is exported so far, and what is left exports, is all.
use Rattle.std.proofs.Common.{◌≡◌, drop}
use Rattle.indexmap.specs.IndexSet.{insert_all}
use Rattle.erl_ir.specs.Module.{key_eq}
use Rattle.erl_lower.specs.Meaning.{entries_in, exports_of}
use Rattle.erl_lower.proofs.program.exports_of.Given as goal

abbrev pub invariant-loop-form : goal.invariant-loop-form
invariant-loop-form l = insert_all key_eq l.exports.keys (entries_in (drop l.form-index l.forms)) ≡ exports_of l.forms
