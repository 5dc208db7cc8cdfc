-- One module more is looked at.
use Rattle.code_loading.proofs.Users.{one_module_more}
use Rattle.code_loading.specs.Current.{current_in}
use Rattle.std.specs.Prelude.{filter_map}
use Rattle.code_loading.proofs.current.current_code.Goals as goal

pub loop-index-preserved : goal.loop-index-preserved
loop-index-preserved c =
    let es = c.args.modules.now.entries in
    one_module_more current_in es c.loop-index.index c.loop-index.code.items c.push_entry.new.code.items (filter_map current_in es) c.in_ok-push_entry.ensures c.loop-index.invariant
