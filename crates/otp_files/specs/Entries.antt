-- Which entry of an appup or a relup counts for a version: the first.
use Rattle.std.specs.Prelude.{ℕ, List, Option}
use Rattle.std.specs.List.{find}
use Rattle.std.specs.Str.{bytes_eq}
use Rattle.otp_files.specs.declared.upgrade.Entry.{Entry}

abbrev pub entry_for : {D I : Type 0} → List ℕ → List (Entry D I) → Option (Entry D I)
entry_for vsn entries = find (λ entry. bytes_eq entry.vsn vsn) entries
