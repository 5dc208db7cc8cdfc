-- One entry more is noted.
use Rattle.std.proofs.Common.{◌∙◌, ◌∷◌, [], ap, refl}
use Rattle.indexmap.specs.IndexSet.{insert_all, insert_key}
use Rattle.erl_ir.specs.Module.{key_eq}
use Rattle.erl_lower.specs.Meaning.{entries_of}
use Rattle.erl_lower.proofs.Rows.{next_taken}
use Rattle.erl_lower.proofs.program.note_entries.Goals as goal

pub loop-entry-preserved : goal.loop-entry-preserved
loop-entry-preserved c =
    next_taken (insert_key key_eq) entries_of (λ e. (e.function.name, e.arity) ∷ []) (λ x xs. refl) c.args.entries.now c.loop-entry.entry-index
    c.entry-item.result c.loop-entry.exports.keys c.insert.new.self.keys (insert_all key_eq c.args.exports.now.keys (entries_of c.args.entries.now))
    c.loop-entry-test.true c.entry-item.is
    (c.in_ok-insert.ensures.keys ∙ ap (λ n. insert_key key_eq c.loop-entry.exports.keys (n, c.entry-item.result.arity)) c.in_ok-copy.ensures)
    c.loop-entry.invariant
