-- What is kept fits the room.
use Rattle.std.proofs.Common.{◌≡◌, ℕ, ◌++◌, ◌+◌, ◌-◌, min, length, take, is_ok, vec_len, ap, ◌∙◌, arith, length-take}
use Rattle.line_server.specs.Lines.{longest_line}
use Rattle.line_server.proofs.Telling.{append-kept, grown_within}
use Rattle.line_server.proofs.line_start.LineStart.append.Goals as goal

pub overflow_sub-room : goal.overflow_sub-room
unfolding longest_line
overflow_sub-room c = omega (arith, c.args.self.now.is_cut)

pub unreachable-requires : goal.unreachable-requires
unfolding longest_line
unreachable-requires c =
    let line = c.args.self.now in
    let taken = length-take c.min-kept.result c.args.piece.now in
    let full = c.in_default.ensures.full in
    omega (arith, line.has_room, line.is_cut, taken, full)

pub invariant_of-self : goal.invariant_of-self
unfolding longest_line
invariant_of-self c =
    let line = c.args.self.now in
    let taken = length-take c.min-kept.result c.args.piece.now in
    record {
      has_room = omega (arith, line.has_room, c.extend_from_slice.ensures.capacity);
      is_cut = grown_within (is_ok c.extend_from_slice.result) (vec_len line.bytes) (length (take c.min-kept.result c.args.piece.now)) (longest_line + 1) _ c.extend_from_slice.ensures.len (omega (arith, line.is_cut, taken));
    }

pub returns : goal.returns
unfolding longest_line
returns c =
    let line = c.args.self.now in
    let kept = append-kept (longest_line + 1) line.bytes.items c.args.piece.now (omega (arith, line.is_cut)) in
    let count : c.min-kept.result ≡ min (length c.args.piece.now) (longest_line + 1 - length line.bytes.items) = omega (arith, c.min-kept.ensures, c.len.ensures) in
    c.in-Ok.ensures.items ∙ ap (λ (k : ℕ). line.bytes.items ++ take k c.args.piece.now) count ∙ kept
