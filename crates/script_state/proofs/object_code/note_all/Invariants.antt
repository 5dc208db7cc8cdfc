-- What is noted so far, and what is left.
use Rattle.std.proofs.Common.{◌≡◌, drop, length, take}
use Rattle.script_state.specs.ObjectCode.{all_noted}
use Rattle.std.specs.Option.{option_copied}
use Rattle.script_state.proofs.object_code.note_all.Given as goal

abbrev pub invariant-loop-name : goal.invariant-loop-name
invariant-loop-name l = record {
  noted : all_noted l.modules (option_copied l.files) (drop l.name-index l.names) l.versions.items ≡ all_noted l.modules (option_copied l.files) l.names l.initial.versions.items;
  first : take (length l.initial.versions.items) l.versions.items ≡ l.initial.versions.items;
}
