-- Why an instruction fails, as a term (release_handler(3), install_release/1).
use Rattle.std.specs.Prelude.{ℕ, List, codes}
use Rattle.erl_term.specs.Tree.{atom, none, more}
use Rattle.erl_term.specs.Term.{tree}
use Rattle.erl_term.specs.declared.term.Term.{Term}
use Rattle.erl_term.specs.declared.term.Term.TheVariants.{Tuple, Pid}

abbrev pub no_object_code : List ℕ → Term
no_object_code m = Tuple (more (atom (codes "no_object_code")) (more (atom m) none))

abbrev pub code_change_failed : ℕ → Term → Term
code_change_failed pid reason = Tuple (more (atom (codes "code_change_failed")) (more (tree (Pid pid)) (more (tree reason) none)))
