-- ASCII texts, by a test that computes at literals.
use Rattle.std.specs.Prelude.{ℕ, Bool, nat_lt, List}
use Rattle.std.specs.List.{list_all}

-- whether all characters are below 128, so that the bytes are the characters
abbrev pub is_ascii_text : List ℕ → Bool
is_ascii_text bs = list_all (λ b. nat_lt b 128) bs
