-- What is told of the tokens, or of the tree that they are, is told of the text.
use Rattle.std.proofs.Common.{◌≡◌, rules, length, Some, subst, sym}
use Rattle.std.specs.Prelude.{IfErr}
use Rattle.std.specs.Str.{chars}
use Rattle.erl_scan.specs.Scan.{IsScanOf}
use Rattle.erl_ast.specs.Forms.{IsModule}
use Rattle.erl_ast.specs.Terminal.{terminals}
use Rattle.values.specs.Failure.{Fails}
use Rattle.erl_parse.specs.Sources.{IsWritten}
use Rattle.erl_parse.specs.Telling.{faulty, TellsTokens}
use Rattle.erl_parse.proofs.Meanings.{stops_behind, results_say, token_results_say}
use Rattle.erl_parse.proofs.source.read_text.Goals as goal

pub returns-in-None-clause-refused : goal.returns-in-None-clause-refused
returns-in-None-clause-refused c =
    let written : IsWritten c.args.text.now c.in-Ok.tree = search rules in
    results_say c.args.text.now c.in-Ok.tree written c.module_of.result c.module_of.ensures.refused

pub returns-in-Some-clause-refused : goal.returns-in-Some-clause-refused
returns-in-Some-clause-refused c =
    let scan : IsScanOf (chars c.args.text.now) c.in_ok-tokens.tokens.items (Some c.in-Some.fault) = search rules in
    let is : IsModule (terminals c.in_ok-tokens.tokens.items) c.in-Ok.tree = search rules in
    faulty {e = c.in-Some.fault} c.of_token.ensures
    (stops_behind c.args.text.now c.in_ok-tokens.tokens.items c.in-Ok.tree c.in-Some.fault c.utf8.text scan is)

pub returns-in-Err-clause-refused : goal.returns-in-Err-clause-refused
returns-in-Err-clause-refused c =
    let scan : IsScanOf (chars c.args.text.now) c.as_slice.result.now c.in_ok-tokens.field-0.fault = search rules in
    let said = token_results_say c.args.text.now c.as_slice.result.now c.in_ok-tokens.field-0.fault c.utf8.text scan c.tree_of-read.result c.tree_of-read.ensures.refused in
    rw c.in-Err.is at said
