-- The commands of which the console says what they do. What it says are comments.
use Rattle.std.specs.Prelude.{ℕ, Bool, codes, List, [], ◌∷◌}
use Rattle.std.specs.List.{list_any}
use Rattle.std.specs.Str.{bytes_eq}

-- the commands of the shell, and then those of the console alone
abbrev pub command_words : List (List ℕ)
command_words =
    codes "load"
    ∷ codes "delete"
    ∷ codes "purge"
    ∷ codes "soft_purge"
    ∷ codes "modules"
    ∷ codes "call"
    ∷ codes "cast"
    ∷ codes "send"
    ∷ codes "take"
    ∷ codes "retake"
    ∷ codes "commit"
    ∷ codes "replies"
    ∷ codes "proc"
    ∷ codes "revive"
    ∷ codes "apps"
    ∷ codes "unpack"
    ∷ codes "remove"
    ∷ codes "which"
    ∷ codes "install"
    ∷ codes "step"
    ∷ codes "permanent"
    ∷ codes "reboot"
    ∷ codes "sweep"
    ∷ codes "relup"
    ∷ codes "mark"
    ∷ codes "undo"
    ∷ codes "forget"
    ∷ codes "help"
    ∷ codes "processes"
    ∷ codes "queue"
    ∷ codes "children"
    ∷ codes "jobs"
    ∷ codes "journal"
    ∷ codes "script"
    ∷ codes "releases"
    ∷ codes "preview" ∷ []

-- whether a word is one of them
abbrev pub is_command : List ℕ → Bool
is_command word = list_any (λ it. bytes_eq it word) command_words
