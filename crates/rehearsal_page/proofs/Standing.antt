-- The old bytes stay before what is written after them.
use Rattle.std.proofs.Common.{◌∙◌, sym, ap, ℕ, List, [], ◌∷◌, ◌++◌, append_assoc, append-nil, Result, Ok, Err, OnOk}
use Rattle.rehearsal_page.specs.Page.{StandsBefore}
use Rattle.rehearsal_page.specs.Parts.{Adds, AreWritten, IsWritten}
use Rattle.rehearsal_page.specs.declared.parts.Part.{Part}

-- if nothing is written
pub stands-still : (old : List ℕ) → StandsBefore old old
unfolding StandsBefore
stands-still old = ([], sym (append-nil old))

-- after one step and another
pub stands-on : (old mid new : List ℕ) → StandsBefore old mid → StandsBefore mid new → StandsBefore old new
unfolding StandsBefore
stands-on old mid new (xs, is) (ys, more) = (xs ++ ys, more ∙ ap (λ l. l ++ ys) is ∙ append_assoc old xs ys)

-- after steps and a last one, whose result is returned
pub stands-last : {T E : Type 0} (r : Result T E) (old mid new : List ℕ) → StandsBefore old mid → OnOk r (StandsBefore mid new) → OnOk r (StandsBefore old new)
stands-last (Ok x) old mid new so_far more = stands-on old mid new so_far more
stands-last (Err e) old mid new so_far more = tt

pub ruleset standing = (stands-still, stands-on, stands-last)

-- the first piece of some is before the others
pub first-stands : (part : Part) (parts : List Part) (old new : List ℕ) → Adds (AreWritten (part ∷ parts)) old new → (first : List ℕ) × IsWritten part first × StandsBefore (old ++ first) new
unfolding AreWritten StandsBefore
first-stands part parts old new (bytes, (first, rest, here, there, is), more) =
    (first, here, (rest, more ∙ ap (λ l. old ++ l) is ∙ sym (append_assoc old first rest)))
