-- Why work is not done.
use Rattle.node_lock.specs.declared.error.LockError.{LockError}
use Rattle.node_lock.specs.declared.error.LockError.TheVariants as lock
use Rattle.workers.specs.declared.error.WorkError.{WorkError}
use Rattle.workers.specs.declared.error.WorkError.TheVariants as work

-- why the node doesn't do what is asked, as why work is not done
abbrev pub error_of : LockError → WorkError
error_of lock.Memory = work.Memory
error_of (lock.Journal e) = work.Lock (lock.Journal e)
