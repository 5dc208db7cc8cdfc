-- The words stay, and what stands behind the spaces; and the text gets shorter.
use Rattle.std.proofs.Common.{◌≡◌, length}
use denote.Text.{Utf8}
use denote.Shadow.{shadow}
use Rattle.shell_requests.specs.Words.{after_spaces, words_of}
use Rattle.shell_requests.proofs.words.after_spaces.Given as goal

abbrev pub invariant-loop-shorter : goal.invariant-loop-shorter
invariant-loop-shorter l = shadow (Utf8 l.rest) × (words_of l.rest ≡ words_of l.fn.text) × (after_spaces l.rest ≡ after_spaces l.fn.text)

abbrev pub decreases-loop-shorter : goal.decreases-loop-shorter
decreases-loop-shorter l = length l.rest
