-- What of code_server may go to another thread, where what it holds are modules.
use denote.Param.Send.{IsSend, IsSync, sendable}
use Rattle.std.proofs.Crossing.{crosses}
use Rattle.code_server.proofs.modules.Modules.TheSendSync as modules
use Rattle.code_server.specs.contracts.modules.Modules as Modules
use Rattle.erl_ir.specs.contracts.module.Module as Module
use Rattle.node_sends.proofs.ErlForms as erl_ir

pub modules_send : IsSend (Modules.the_row Module.the_row)
modules_send = search (modules.the_send, erl_ir.module_send, crosses, sendable) depth 60 fits 20000

pub modules_sync : IsSync (Modules.the_row Module.the_row)
modules_sync = search (modules.the_sync, erl_ir.module_sync, crosses, sendable) depth 60 fits 20000
