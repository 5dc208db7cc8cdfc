-- Each so far has told it, and each that is left can.
use Rattle.std.proofs.Common.{◌≡◌, ◌+◌, ◌++◌, All, List, replicate, vec_capacity, vec_len}
use Rattle.std.specs.Vec.Iter.{into_iter_items, into_iter_len}
use Rattle.erl_term.specs.declared.term.Term.{Term}
use Rattle.process_effects.specs.declared.answers.Answer.{Answer}
use Rattle.process_effects.specs.Telling.{IsEcho}
use Rattle.process_effects.proofs.telling.tell_echoes.Given as goal

abbrev pub invariant-loop-echo : goal.invariant-loop-echo
invariant-loop-echo l = record {
  ready : (answers : List Answer) (reasons : List Term) → All (IsEcho answers reasons) l.fn.echoes.items → All (IsEcho answers reasons) (into_iter_items l.echo-iterator);
  told : l.lists.items ++ replicate (into_iter_len l.echo-iterator) l.told ≡ l.fn.lists.items ++ replicate (vec_len l.fn.echoes) l.told;
  len : vec_len l.lists + into_iter_len l.echo-iterator ≡ vec_len l.fn.lists + vec_len l.fn.echoes;
  room : vec_capacity l.lists ≡ vec_capacity l.fn.lists;
}
