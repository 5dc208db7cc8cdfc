-- Two decisions of one question agree.
use Rattle.std.specs.Str.{bytes_eq}
use Rattle.std.proofs.lemmas.Bool.Decides.{same_from_decides}
use Rattle.std.proofs.lemmas.Slice.Eq.{bytes_eq-Decides}
use Rattle.erl_term.proofs.atom.AtomPartialEq.eq.Goals as goal

pub returns : goal.returns
returns c =
    let decides = bytes_eq-Decides c.args.self.now c.args.other.now in
    same_from_decides c.same.result (bytes_eq c.args.self.now c.args.other.now) c.same.ensures decides
