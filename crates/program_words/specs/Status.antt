-- With which status a program ends for its command line (exit(3); 2 for misuse, as shells have it).
use Rattle.std.specs.Prelude.{ℕ}
use Rattle.program_words.specs.declared.WordsError.{WordsError}
use Rattle.program_words.specs.declared.WordsError.TheVariants.{Words, NotUtf8, Unread, Memory}

-- 2 for words that are no command line, and 1 where the words could not be had
abbrev pub status_of_words : WordsError → ℕ
status_of_words (Words message) = 2
status_of_words (NotUtf8 index) = 2
status_of_words (Unread error) = 1
status_of_words (Memory error) = 1
