-- Why there is no relup of two releases, as it is answered: `{error,erts_changed}`, `{error,{base_changed,App}}`,
-- `{error,{no_appup,App}}`, `{error,{no_entry,App,"Vsn"}}`, `{error,{unknown_module,Mod}}`.
use Rattle.std.specs.Prelude.{ℕ, List, codes}
use Rattle.erl_term.specs.Tree.{Tree, atom}
use Rattle.release_words.specs.Words.{string_tree}
use Rattle.relup_make.specs.declared.error.MakeError.{MakeError}
use Rattle.relup_make.specs.declared.error.MakeError.TheVariants as make
use Rattle.shell_answers.specs.Answers.{fixed, pair, triple}
use Rattle.shell_answers.specs.declared.fixed.Fixed.TheVariants as words

abbrev pub of_name : List ℕ → List ℕ → Tree
of_name word name = pair (atom (codes "error")) (pair (atom word) (atom name))

abbrev pub no_entry : List ℕ → List ℕ → Tree
no_entry app vsn = pair (atom (codes "error")) (triple (atom (codes "no_entry")) (atom app) (string_tree vsn))

abbrev pub unmade : MakeError → Tree
unmade make.ErtsChanged = fixed words.ErtsChanged
unmade (make.BaseChanged app) = of_name (codes "base_changed") app
unmade (make.NoAppup app) = of_name (codes "no_appup") app
unmade (make.NoEntry app vsn) = no_entry app vsn
unmade (make.UnknownModule name) = of_name (codes "unknown_module") name
unmade make.Memory = fixed words.Memory
