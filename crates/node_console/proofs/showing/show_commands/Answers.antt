-- Comments alone.
use Rattle.std.proofs.Common.{refl}
use Rattle.node_console.proofs.Answering.{comments_said}
use Rattle.node_console.proofs.showing.show_commands.Goals as goal

pub returns : goal.returns
returns c = comments_said _ c.args.out.now.items c.write_help.new.out.items refl c.in_ok-write_help.ensures
