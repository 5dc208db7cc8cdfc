-- Lines that have nothing in them but their words.
use Rattle.std.proofs.Common.{◌≡◌, codes, refl}
use lib.Utf8.{encode}
use Rattle.erl_term.specs.Text.{is_quoted_word, utf8}
use Rattle.shell_answers.specs.Answers.{fixed, line_of}
use Rattle.shell_answers.specs.declared.fixed.Fixed.TheVariants as it

pub done-line : line_of (fixed it.Done) ≡ codes "ok\n"
unfolding utf8 is_quoted_word encode
done-line = refl

pub true-line : line_of (fixed it.True) ≡ codes "true\n"
unfolding utf8 is_quoted_word encode
true-line = refl

pub false-line : line_of (fixed it.False) ≡ codes "false\n"
unfolding utf8 is_quoted_word encode
false-line = refl

pub bad_command-line : line_of (fixed it.BadCommand) ≡ codes "{error,bad_command}\n"
unfolding utf8 is_quoted_word encode
bad_command-line = refl

pub line_too_long-line : line_of (fixed it.LineTooLong) ≡ codes "{error,line_too_long}\n"
unfolding utf8 is_quoted_word encode
line_too_long-line = refl

pub serial_end-line : line_of (fixed it.SerialEnd) ≡ codes "{error,serial_end}\n"
unfolding utf8 is_quoted_word encode
serial_end-line = refl

pub counter_at_end-line : line_of (fixed it.CounterAtEnd) ≡ codes "{error,counter_end}\n"
unfolding utf8 is_quoted_word encode
counter_at_end-line = refl

pub forgotten-line : line_of (fixed it.Forgotten) ≡ codes "{error,forgotten}\n"
unfolding utf8 is_quoted_word encode
forgotten-line = refl

pub dead_mark-line : line_of (fixed it.DeadMark) ≡ codes "{error,dead_mark}\n"
unfolding utf8 is_quoted_word encode
dead_mark-line = refl

pub memory-line : line_of (fixed it.Memory) ≡ codes "{error,memory}\n"
unfolding utf8 is_quoted_word encode
memory-line = refl

pub no_job-line : line_of (fixed it.NoJob) ≡ codes "{error,no_job}\n"
unfolding utf8 is_quoted_word encode
no_job-line = refl

pub no_proc-line : line_of (fixed it.NoProc) ≡ codes "{error,no_proc}\n"
unfolding utf8 is_quoted_word encode
no_proc-line = refl

pub suspended-line : line_of (fixed it.Suspended) ≡ codes "{error,suspended}\n"
unfolding utf8 is_quoted_word encode
suspended-line = refl

pub running-line : line_of (fixed it.Running) ≡ codes "{error,running}\n"
unfolding utf8 is_quoted_word encode
running-line = refl

pub idle-line : line_of (fixed it.Idle) ≡ codes "{error,idle}\n"
unfolding utf8 is_quoted_word encode
idle-line = refl

pub not_running-line : line_of (fixed it.NotRunning) ≡ codes "{error,not_running}\n"
unfolding utf8 is_quoted_word encode
not_running-line = refl

pub stale-line : line_of (fixed it.Stale) ≡ codes "{error,stale}\n"
unfolding utf8 is_quoted_word encode
stale-line = refl

pub duplicate_call-line : line_of (fixed it.DuplicateCall) ≡ codes "{error,duplicate_call}\n"
unfolding utf8 is_quoted_word encode
duplicate_call-line = refl

pub no_child-line : line_of (fixed it.NoChild) ≡ codes "{error,no_child}\n"
unfolding utf8 is_quoted_word encode
no_child-line = refl

pub not_due-line : line_of (fixed it.NotDue) ≡ codes "{error,not_due}\n"
unfolding utf8 is_quoted_word encode
not_due-line = refl

pub installing-line : line_of (fixed it.Installing) ≡ codes "{error,installing}\n"
unfolding utf8 is_quoted_word encode
installing-line = refl

pub not_installing-line : line_of (fixed it.NotInstalling) ≡ codes "{error,not_installing}\n"
unfolding utf8 is_quoted_word encode
not_installing-line = refl

pub erts_changed-line : line_of (fixed it.ErtsChanged) ≡ codes "{error,erts_changed}\n"
unfolding utf8 is_quoted_word encode
erts_changed-line = refl

pub stepped_only-line : line_of (fixed it.SteppedOnly) ≡ codes "{error,stepped_only}\n"
unfolding utf8 is_quoted_word encode
stepped_only-line = refl

pub no_reply-line : line_of (fixed it.NoReply) ≡ codes "{error,no_reply}\n"
unfolding utf8 is_quoted_word encode
no_reply-line = refl

pub name_taken-line : line_of (fixed it.NameTaken) ≡ codes "{error,name_taken}\n"
unfolding utf8 is_quoted_word encode
name_taken-line = refl
