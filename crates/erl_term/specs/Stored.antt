-- The terms of a row, wherever they stand.
use Rattle.std.specs.Prelude.{List}
use Rattle.erl_term.specs.declared.term.Stored.{Stored}
use Rattle.erl_term.specs.declared.term.Stored.TheVariants.{Two, Three, Many}
use Rattle.erl_term.specs.declared.term.Term.{Term}

abbrev pub listed : Stored → List Term
listed (Two ts) = ts
listed (Three ts) = ts
listed (Many ts) = ts.items
