-- The position behind the bytes that were passed.
use Rattle.std.proofs.Common.{◌+◌, ◌≤◌, take}
use Rattle.diagnostics.specs.Positions.{StandsBehind}
use Rattle.diagnostics.proofs.position.position_of.Given as goal

abbrev pub invariant-loop-byte : goal.invariant-loop-byte
invariant-loop-byte l =
    StandsBehind (take l.byte-index l.byte-items) l.position × (l.position.line ≤ 1 + l.byte-index) × (l.position.column ≤ 1 + l.byte-index)
