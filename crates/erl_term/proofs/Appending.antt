-- What is appended in several steps.
use Rattle.std.proofs.Common.{◌≡◌, ℕ, ◌≤◌, List, ◌++◌, length, take, Result, Ok, Err, IsErr, OnErr, append_assoc, subst, sym, ap, ◌∙◌, arith}
use Rattle.std.proofs.Math.Seq.{take-append_seam}
use Rattle.std.proofs.lemmas.List.{length-append, take-take}
use Rattle.erl_term.specs.Appending.{Appends}

-- bytes by another name
pub renamed : {T E : Type 0} (r : Result T E) (old new bs ds : List ℕ) → Appends r bs old new → bs ≡ ds → Appends r ds old new
renamed r old new bs ds appends is = subst (λ l. Appends r l old new) is appends

-- what stood there before a step that was made stands there after one that is refused
pub kept : (old mid new bs : List ℕ) → mid ≡ old ++ bs → take (length mid) new ≡ mid → take (length old) new ≡ old
kept old mid new bs is here =
    let within : length old ≤ length mid = omega (arith, ap length is, length-append old bs) in
    sym (take-take (length old) (length mid) new within) ∙ ap (take (length old)) (here ∙ is) ∙ take-append_seam old bs

-- one step more
pub joined : (old mid new bs cs : List ℕ) → mid ≡ old ++ bs → new ≡ mid ++ cs → new ≡ old ++ (bs ++ cs)
joined old mid new bs cs one other = other ∙ ap (λ l. l ++ cs) one ∙ append_assoc old bs cs

pub joined_as : (old mid new bs cs ds : List ℕ) → mid ≡ old ++ bs → new ≡ mid ++ cs → bs ++ cs ≡ ds → new ≡ old ++ ds
joined_as old mid new bs cs ds one other is = joined old mid new bs cs one other ∙ ap (λ l. old ++ l) is

pub last : {T E : Type 0} (r : Result T E) (old mid new bs cs ds : List ℕ) → mid ≡ old ++ bs → Appends r cs mid new → bs ++ cs ≡ ds → Appends r ds old new
last (Ok x) old mid new bs cs ds one other is = joined_as old mid new bs cs ds one other is
last (Err x) old mid new bs cs ds one other is = kept old mid new bs one other

-- a step that is refused, behind one that was made
pub stopped : {T E : Type 0} (r : Result T E) (old mid new bs ds : List ℕ) → IsErr r → mid ≡ old ++ bs → take (length mid) new ≡ mid → Appends r ds old new
stopped (Ok x) old mid new bs ds is one other = absurd (let no : ⊥ = cc in no)
stopped (Err x) old mid new bs ds is one other = kept old mid new bs one other

-- what is cut off again where memory was refused
pub settled_back : {S T E F : Type 0} (a : Result S E) (r : Result T F) (old mid new bs : List ℕ) (n : ℕ) → Appends a bs old mid → n ≡ length old → OnErr r (IsErr a × (new ≡ take n mid)) → OnErr r (new ≡ old)
settled_back a (Ok x) old mid new bs n appends is cut = cut
settled_back (Ok y) (Err x) old mid new bs n appends is cut = absurd (let no : ⊥ = (let same = cut.0 in cc) in no)
settled_back (Err y) (Err x) old mid new bs n appends is cut = cut.1 ∙ ap (λ m. take m mid) is ∙ appends
