-- What of erl_ir may go to another thread.
use denote.Param.Send.{IsSend, IsSync, view_send, view_sync, sendable}
use denote.Param.SendFields.{declared_send, declared_sync, variants_send, variants_sync}
use Rattle.std.proofs.Crossing.{crosses, Arc-send, Arc-sync}
use Rattle.node_sends.proofs.ErlTerm as erl_term
use Rattle.erl_term.proofs.term.Terms.TheLaws.TheKnot as terms
use Rattle.indexmap.proofs.map.IndexMap.TheSendSync as map
use Rattle.indexmap.proofs.set.IndexSet.TheSendSync as set
use Rattle.erl_term.proofs.atom.Atom.TheSendSync as atom
use Rattle.erl_ir.proofs.expression.Clauses.TheLaws.TheKnot as expressions
use Rattle.erl_ir.proofs.operation.Operation.TheSendSync as operation
use Rattle.erl_ir.proofs.operation.Connective.TheSendSync as connective
use Rattle.erl_ir.proofs.pattern.Patterns.TheLaws.TheKnot as patterns
use Rattle.erl_ir.specs.contracts.module.Module as Module
use Rattle.erl_ir.specs.contracts.module.Module.TheInside as ModuleInside
use Rattle.erl_ir.specs.contracts.module.Parts as Parts
use Rattle.erl_ir.specs.contracts.function.Function as Function
use Rattle.erl_ir.specs.contracts.function.Definition as Definition
use Rattle.erl_ir.specs.contracts.expression.Clauses as Clauses
use Rattle.erl_ir.specs.contracts.expression.Guard as Guard
use Rattle.erl_ir.specs.contracts.pattern.Pattern as Pattern
use Rattle.erl_ir.specs.contracts.pattern.Patterns as Patterns

pattern_send : IsSend Pattern.the_row
pattern_send = search (crosses, terms.crosses, patterns.crosses, sendable) depth 60 fits 20000

pattern_sync : IsSync Pattern.the_row
pattern_sync = search (crosses, terms.crosses, patterns.crosses, sendable) depth 60 fits 20000

patterns_send : IsSend Patterns.the_row
patterns_send = search (crosses, terms.crosses, patterns.crosses, sendable) depth 60 fits 20000

patterns_sync : IsSync Patterns.the_row
patterns_sync = search (crosses, terms.crosses, patterns.crosses, sendable) depth 60 fits 20000

clauses_send : IsSend Clauses.the_row
clauses_send = search (
  operation.the_send,
  connective.the_send,
  erl_term.term_send,
  pattern_send,
  patterns_send,
  expressions.crosses,
  crosses,
  sendable,
) depth 60 fits 20000

clauses_sync : IsSync Clauses.the_row
clauses_sync = search (
  operation.the_sync,
  connective.the_sync,
  erl_term.term_sync,
  pattern_sync,
  patterns_sync,
  expressions.crosses,
  crosses,
  sendable,
) depth 60 fits 20000

guard_send : IsSend Guard.the_row
guard_send = search (
  operation.the_send,
  connective.the_send,
  erl_term.term_send,
  pattern_send,
  patterns_send,
  expressions.crosses,
  crosses,
  sendable,
) depth 60 fits 20000

guard_sync : IsSync Guard.the_row
guard_sync = search (
  operation.the_sync,
  connective.the_sync,
  erl_term.term_sync,
  pattern_sync,
  patterns_sync,
  expressions.crosses,
  crosses,
  sendable,
) depth 60 fits 20000

definition_send : IsSend Definition.the_row
definition_send = variants_send Definition.enum ((clauses_send, tt), ((patterns_send, (guard_send, (clauses_send, tt))), tt))

definition_sync : IsSync Definition.the_row
definition_sync = variants_sync Definition.enum ((clauses_sync, tt), ((patterns_sync, (guard_sync, (clauses_sync, tt))), tt))

function_send : IsSend Function.the_row
function_send = declared_send Function.the_type (search sendable, (definition_send, tt))

function_sync : IsSync Function.the_row
function_sync = declared_sync Function.the_type (search sendable, (definition_sync, tt))

parts_send : IsSend Parts.the_row
parts_send = declared_send Parts.the_type (
  atom.the_send,
  (
    search (erl_term.term_send, sendable, crosses) depth 30,
    (
      search (map.the_send, atom.the_send, function_send, sendable, crosses) depth 60 fits 20000,
      (
        search (
          set.the_send,
          atom.the_send,
          sendable,
          crosses,
        ) depth 60 fits 20000,
        (search sendable, (search (sendable, crosses), tt)),
      ),
    ),
  ),
)

parts_sync : IsSync Parts.the_row
parts_sync = declared_sync Parts.the_type (
  atom.the_sync,
  (
    search (erl_term.term_sync, sendable, crosses) depth 30,
    (
      search (map.the_sync, atom.the_sync, function_sync, sendable, crosses) depth 60 fits 20000,
      (
        search (
          set.the_sync,
          atom.the_sync,
          sendable,
          crosses,
        ) depth 60 fits 20000,
        (search sendable, (search (sendable, crosses), tt)),
      ),
    ),
  ),
)

module_fields_send : IsSend ModuleInside.the_row
module_fields_send = declared_send ModuleInside.the_type (Arc-send Parts.the_row parts_send parts_sync, tt)

module_fields_sync : IsSync ModuleInside.the_row
module_fields_sync = declared_sync ModuleInside.the_type (Arc-sync Parts.the_row parts_send parts_sync, tt)

pub module_send : IsSend Module.the_row
module_send = view_send _ _ _ _ _ module_fields_send

pub module_sync : IsSync Module.the_row
module_sync = view_sync _ _ _ _ _ module_fields_sync
