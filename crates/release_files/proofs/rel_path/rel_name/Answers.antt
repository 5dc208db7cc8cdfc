-- Part by part.
use Rattle.release_files.proofs.Fronts.{name_told, no_first, no_second, no_third}
use Rattle.release_files.proofs.rel_path.rel_name.Goals as goal

pub returns-in_err-versioned : goal.returns-in_err-versioned
returns-in_err-versioned c =
    rw c.from_residual.ensures (no_first c.args.path.now c.args.vsn.now c.in_err-versioned.ensures)

pub returns-in_err-rest : goal.returns-in_err-rest
returns-in_err-rest c =
    rw c.from_residual-in_err-rest.ensures (no_second c.args.path.now c.args.vsn.now c.in_ok-versioned.versioned.now c.in_ok-versioned.ensures c.in_err-rest.ensures)

pub returns-in_err-file : goal.returns-in_err-file
returns-in_err-file c =
    rw c.from_residual-in_err-file.ensures (no_third c.args.path.now c.args.vsn.now c.in_ok-versioned.versioned.now c.in_ok-rest.rest.now c.in_ok-versioned.ensures c.in_ok-rest.ensures c.in_err-file.ensures)

pub returns : goal.returns
returns c =
    name_told c.args.path.now c.args.vsn.now c.in_ok-versioned.versioned.now c.in_ok-rest.rest.now c.in_ok-file.file.now c.in_front.result c.in_ok-versioned.ensures c.in_ok-rest.ensures c.in_ok-file.ensures c.in_front.ensures
