-- What was stepped over is the name.
use Rattle.std.proofs.Common.{◌++◌, sym, ap, ◌∙◌}
use Rattle.erl_chars.specs.Chars.{is_name_char, front}
use Rattle.erl_scan.specs.Scanner.{left}
use Rattle.erl_scan.proofs.Fronts.{front_and_rest, front_from_rest}
use Rattle.erl_scan.proofs.scanner.Scanner.name.Goals as goal

pub up_to-requires : goal.up_to-requires
up_to-requires c =
    let here = left c.args.self.now in
    record { ahead = (front is_name_char here, front_and_rest is_name_char here ∙ ap (λ ys. front is_name_char here ++ ys) (sym c.skip_name.ensures.left)) }

pub returns-clause-name : goal.returns-clause-name
returns-clause-name c =
    front_from_rest is_name_char (left c.args.self.now) _ _ c.skip_name.ensures.left c.up_to.ensures.between
