-- By its NAME.
use Rattle.std.proofs.lemmas.List.Elements.{contains_decides, Decides-contains}
use Rattle.std.specs.Prelude.{nat_eq}
use Rattle.std.proofs.lemmas.Bool.Decides.{Decides-eqb}
use Rattle.release_files.proofs.Fronts.{told_by_name, told_by_none}
use Rattle.release_files.proofs.rel_path.is_rel_name.Goals as goal

pub returns-in-Some : goal.returns-in-Some
returns-in-Some c =
    told_by_name c.args.path.now c.args.vsn.now c.in-Some.name.now c.contains.result c.in-Some.ensures (Decides-contains c.in-Some.name.now 47 c.contains.result (contains_decides nat_eq Decides-eqb c.in-Some.name.now 47 c.contains.result c.contains.ensures.cases))

pub returns-in-None : goal.returns-in-None
returns-in-None c = told_by_none c.args.path.now c.args.vsn.now c.in-None.ensures
