-- What takes a message, and what a place accepts.
use Rattle.std.specs.Prelude.{◌≡◌, ◌↔◌, ◌<◌, ℕ, zero, suc, true, false, List, [], ◌∷◌, None, Some, is_some, IsTrue, refl}
use Rattle.std.proofs.Common.{arith, ap, sym, subst, true≢false}
use Rattle.erl_term.specs.Tree.{count}
use Rattle.erl_ir.specs.Module.{function_of}
use Rattle.erl_semantics.specs.State.{Instance, Place, server, loop}
use Rattle.erl_semantics.specs.Guards.{Selection}
use Rattle.erl_semantics.specs.Jobs.{Outcome, Job, GivesAt, Receives, unheard, received, accepts, entered_in, heard, nowhere}
use Rattle.erl_semantics.specs.Laws.{SelectsOne, ClauseGives, TakenAt}

selects : (found : Selection) → is_some found.0 ≡ true → SelectsOne found
selects (None, calls) e = absurd (true≢false (sym e))
selects (Some (env, body), calls) e = (env, body, calls, refl)

pub selects_one : (found : Selection) → IsTrue (is_some found.0) ↔ SelectsOne found
selects_one found = (selects found, λ (env, body, calls, is). ap (λ f. is_some f.0) is)

clause_gives : {j : Job} {i : Instance} {found : Selection} {o : Outcome} → is_some found.0 ≡ true → Receives j i found o →
    ClauseGives j i found o
clause_gives e (unheard x) = absurd (true≢false (sym e))
clause_gives e (received {env = env} {body = body} {calls = calls} {r = r} {s = s} d x) =
    (env, body, calls, r, s, refl, d, x)

of_clause : (j : Job) (i : Instance) (found : Selection) (o : Outcome) → ClauseGives j i found o →
    IsTrue (is_some found.0) × Receives j i found o
of_clause j i found o (env, body, calls, r, s, is, d, x) =
    (ap (λ f. is_some f.0) is, subst (λ f. Receives j i f o) (sym is) (received d x))

pub taken_at : (j : Job) (p : Place) (serial : ℕ) (code : List Instance) → 0 < serial → (o : Outcome) →
    TakenAt j p (entered_in serial code) o ↔ (IsTrue (accepts j.pid p code j.message) × GivesAt j p (entered_in serial code) o)
taken_at j (server m s) serial code some o = (λ g. (refl, g), λ g. g.1)
taken_at j (loop m n name args) zero code some o = absurd (omega arith)
taken_at j (loop m n name args) (suc serial) [] some o = (λ none. absurd none, λ g. absurd (true≢false (sym g.0)))
taken_at j (loop m n name args) (suc serial) (i ∷ is) some o = (
  of_clause j i (heard j.pid j.message args (function_of name (count args) i.forms)) o,
  λ g. clause_gives g.0 g.1,
)

nothing_gives : {j : Job} {i : Instance} {found : Selection} {o : Outcome} → is_some found.0 ≡ false → Receives j i found o →
    o ≡ nowhere
nothing_gives e (unheard x) = x
nothing_gives e (received d x) = absurd (true≢false e)

of_nothing : (j : Job) (i : Instance) (found : Selection) (o : Outcome) → is_some found.0 ≡ false → o ≡ nowhere →
    Receives j i found o
of_nothing j i (None, calls) o e x = unheard x
of_nothing j i (Some found, calls) o e x = absurd (true≢false e)

pub refused_at : (j : Job) (p : Place) (serial : ℕ) (code : List Instance) → 0 < serial →
    accepts j.pid p code j.message ≡ false → (o : Outcome) → GivesAt j p (entered_in serial code) o ↔ (o ≡ nowhere)
refused_at j (server m s) serial code some e o = absurd (true≢false e)
refused_at j (loop m n name args) zero code some e o = absurd (omega arith)
refused_at j (loop m n name args) (suc serial) [] some e o = (λ x. x, λ x. x)
refused_at j (loop m n name args) (suc serial) (i ∷ is) some e o = (
  nothing_gives e,
  of_nothing j i (heard j.pid j.message args (function_of name (count args) i.forms)) o e,
)
