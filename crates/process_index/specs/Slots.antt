-- What slots end as, where a `&mut` to what lives at a pid is handed out.
use Rattle.std.specs.Prelude.{ℕ, List, Option}
use Rattle.std.specs.Borrow.{Fml, LendsIf, MutBor, RattleType}
use Rattle.process_index.specs.Standing.{put_at}
use Rattle.process_index.specs.contracts.slots.Slots.{the_row}

-- once the borrow r ends, what was last written through r lives at the pid; where nothing lived there all is as it was
abbrev pub lends_living : (T : RattleType) → MutBor (List (Option T.Denot)) → ℕ → Option (MutBor T.Denot) → Fml
lends_living T slots pid r = LendsIf (the_row T) T slots r (λ it. put_at pid it slots.now) slots.now
