-- What of sys_protocol may go to another thread.
use denote.Param.Send.{IsSend, IsSync}
use denote.Param.SendFields.{declared_send, declared_sync, variants_send, variants_sync}
use Rattle.node_sends.proofs.ErlTerm as erl_term
use Rattle.sys_protocol.specs.contracts.error.SysError as SysError
use Rattle.sys_protocol.specs.contracts.start_failed.StartFailed as StartFailed

pub start_failed_send : IsSend StartFailed.the_row
start_failed_send = declared_send StartFailed.the_type (erl_term.term_send, (erl_term.term_send, tt))

pub start_failed_sync : IsSync StartFailed.the_row
start_failed_sync = declared_sync StartFailed.the_type (erl_term.term_sync, (erl_term.term_sync, tt))

pub sys_error_send : IsSend SysError.the_row
sys_error_send = variants_send SysError.enum ((start_failed_send, tt), (tt, (tt, tt)))

pub sys_error_sync : IsSync SysError.the_row
sys_error_sync = variants_sync SysError.enum ((start_failed_sync, tt), (tt, (tt, tt)))
