-- A job has one code.
use Rattle.std.proofs.Common.{◌≡◌, List, ◌∷◌, refl, sym, ap, ◌∙◌}
use Rattle.std.proofs.lemmas.Option.{none-some, same_Some}
use Rattle.erl_ir.specs.Module.{Forms}
use Rattle.code_server.specs.Modules.{Entry, Table}
use Rattle.erl_semantics.specs.State.{Instance}
use Rattle.process.specs.JobCode.{AreReached, IsJobCode, none, reached, without_code, not_reached, job_code, instance_of}

pub AreReached-one : (t : Table Forms) (from : Forms) (entries : List (Entry Forms)) (some others : List Instance) → AreReached t from entries some → AreReached t from entries others → some ≡ others
AreReached-one t from _ _ _ none none = refl
AreReached-one t from _ _ _ (reached {entry} {entries} {i} {code} is at rest) (reached {i = j} {code = more} is′ at′ rest′) =
    (λ k. instance_of entry.0 (same_Some i j (sym at ∙ at′) k) ∷ AreReached-one t from entries code more rest rest′ k)
AreReached-one t from _ _ _ (reached {entry} {entries} {i} is at rest) (without_code at′ rest′) = absurd (none-some i (sym at′ ∙ at))
AreReached-one t from _ _ _ (reached is at rest) (not_reached never rest′) = absurd (never is)
AreReached-one t from _ _ _ (without_code at rest) (reached {entry} {entries} {i} is′ at′ rest′) = absurd (none-some i (sym at ∙ at′))
AreReached-one t from _ _ _ (without_code {entry} {entries} {code} at rest) (without_code {code = more} at′ rest′) = AreReached-one t from entries code more rest rest′
AreReached-one t from _ _ _ (without_code {entry} {entries} {code} at rest) (not_reached {code = more} never rest′) = AreReached-one t from entries code more rest rest′
AreReached-one t from _ _ _ (not_reached never rest) (reached is′ at′ rest′) = absurd (never is′)
AreReached-one t from _ _ _ (not_reached {entry} {entries} {code} never rest) (without_code {code = more} at′ rest′) = AreReached-one t from entries code more rest rest′
AreReached-one t from _ _ _ (not_reached {entry} {entries} {code} never rest) (not_reached {code = more} never′ rest′) = AreReached-one t from entries code more rest rest′

pub IsJobCode-one : (t : Table Forms) (entered : Instance) (some others : List Instance) → IsJobCode t entered some → IsJobCode t entered others → some ≡ others
IsJobCode-one t entered _ _ (job_code {reached = here} are) (job_code {reached = there} are′) =
    ap (λ l. entered ∷ l) (AreReached-one t entered.forms t.entries here there are are′)
