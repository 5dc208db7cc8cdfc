use Rattle.source_laws.proofs.Ruling.{operators_have_rules, guard_operators_have_rules, lists_have_rules, functions_have_rules}
use Rattle.source_laws.proofs.Ruling.{naming_has_rules}
use Rattle.source_laws.proofs.operations_have_rules.Goals as goal

pub returns : goal.returns
returns c = record {
  operators = operators_have_rules;
  guards = guard_operators_have_rules;
  lists = lists_have_rules;
  functions = functions_have_rules;
  naming = naming_has_rules;
}
