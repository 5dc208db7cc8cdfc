-- Where the characters that are left begin, one character ends.
use Rattle.erl_chars.proofs.Utf8.{left_is_within, boundary_before_left, chars-in_front}
use Rattle.erl_chars.proofs.bytes.in_front.Goals as goal

pub overflow_sub-text : goal.overflow_sub-text
overflow_sub-text c = left_is_within c.args.text.now c.args.left.now c.requires.0 c.utf8.text c.utf8.left c.requires.1

pub split_at-requires : goal.split_at-requires
split_at-requires c = boundary_before_left c.args.text.now c.args.left.now c.requires.0 c.utf8.text c.utf8.left c.requires.1

pub returns : goal.returns
returns c =
    rw (c.split_at.ensures.front) (chars-in_front c.args.text.now c.args.left.now c.requires.0 c.utf8.text c.utf8.left c.requires.1)
