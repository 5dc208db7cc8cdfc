-- The reading of what terms print as.
use Rattle.std.specs.Prelude.{◌≡◌, true, ◌++◌, codes}
use Rattle.erl_term.specs.Tree.{Tree, none, more}
use Rattle.erl_term.specs.Text.{utf8, text}
use Rattle.erl_term.specs.RoundTrip.{is_bounded, is_readable}
use Rattle.erl_consult.specs.Faults.{IsTextOf}

-- The law: what a term prints as, with a dot and a newline behind it, is the text of that term alone.
abbrev pub PrintedReads : Type 0
PrintedReads =
    (t : Tree) → is_bounded t ≡ true → is_readable t ≡ true → IsTextOf (utf8 (text t) ++ codes ".\n") (more t none)
