-- What the values that a line is read as stand for.
use Rattle.std.specs.Str.{chars}
use Rattle.shell_requests.specs.declared.request.Line.{Line}
use Rattle.shell_requests.specs.declared.request.Line.TheVariants.{Silent, Unknown, Asks}
use Rattle.shell_requests.specs.declared.request.Proc.{Proc}
use Rattle.shell_requests.specs.declared.request.Proc.TheVariants.{Pid, Name}
use Rattle.shell_requests.specs.declared.request.Request.{Request as Read}
use Rattle.shell_requests.specs.declared.request.Request.TheVariants.{Ask, Alter, Load, Undo, Forget, Commit, Arrive, Serve, Revive, Unpack, Release, Relup, Advance, Sweep}
use Rattle.shell_requests.specs.Request.{Request, ask, change, load, undo, forget, commit, arrive, serve, revive, unpack, release, relup, advance, sweep}
use Rattle.shell_requests.specs.Request.{Spoken, silent, unknown, asks, Who, numbered, named}

-- the process that was read
abbrev pub who_is : Proc → Who
who_is (Pid pid) = numbered pid
who_is (Name name) = named (chars name.text.now)

-- the request that was read
abbrev pub meant : Read → Request
meant (Ask question) = ask question
meant (Alter kind name) = change kind (chars name.text.now)
meant (Load name path) = load (chars name.text.now) path.now
meant (Undo mark) = undo mark
meant (Forget mark) = forget mark
meant (Commit job) = commit job
meant (Arrive kind name term) = arrive kind (chars name.text.now) term.now
meant (Serve service process) = serve service (who_is process)
meant (Revive app id) = revive (chars app.text.now) (chars id.text.now)
meant (Unpack vsn) = unpack vsn.now
meant (Release kind vsn) = release kind vsn.now
meant (Relup from to) = relup from.now to.now
meant (Advance give_up) = advance give_up
meant Sweep = sweep

-- what the line said
abbrev pub said : Line → Spoken
said Silent = silent
said Unknown = unknown
said (Asks request) = asks (meant request)
