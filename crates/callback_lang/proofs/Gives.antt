-- What a job gives, from what comes of its parts.
use Rattle.std.specs.Prelude.{◌≡◌, ℕ, zero, suc, true, false, List, [], ◌∷◌, refl, Option, None, Some}
use Rattle.std.proofs.Common.{ap, sym, subst, ◌∙◌}
use Rattle.erl_term.specs.Tree.{Tree, Trees, count}
use Rattle.erl_ir.specs.declared.function.Function.{Function}
use Rattle.erl_ir.specs.Expression.{Exprs}
use Rattle.erl_ir.specs.Module.{exported_of}
use Rattle.erl_semantics.specs.State.{Act, Startup, Result, Instance, World, Place, server, loop}
use Rattle.erl_semantics.specs.Evaluation.{Entered}
use Rattle.erl_semantics.specs.Guards.{Selection}
use Rattle.erl_semantics.specs.Jobs.{Outcome, Job, world_of, Callback, name_of, arguments_of, unexported, served, Handles, not_exported}
use Rattle.erl_semantics.specs.Jobs.{handled, heard, heard_by, Receives, unheard, received, nowhere, fresh, outermost}
use Rattle.erl_semantics.specs.Jobs.{entered_in, reached_in, GivesAt, GivesJob}
use Rattle.callback_lang.specs.Leading.{ComesOf, LoopComes}

module _ (j : Job) (i : Instance) where
  -- loop functions

  pub not_there : (self : ℕ) (message : Tree) (args : Trees) (f : Option Function) (o : Outcome) → f ≡ None → o ≡ nowhere →
      Receives j i (heard self message args f) o
  not_there self message args f o none is = subst (λ g. Receives j i (heard self message args g) o) (sym none) (unheard is)

  unheard_by : (s : Selection) (o : Outcome) → s.0 ≡ None → o ≡ nowhere → Receives j i s o
  unheard_by s o none is = subst (λ f. Receives j i (f, s.1) o) (sym none) (unheard is)

  pub not_heard : (self : ℕ) (message : Tree) (args : Trees) (f : Option Function) (fn : Function) (o : Outcome) → f ≡ Some fn →
      (heard_by self message args fn.definition).0 ≡ None → o ≡ nowhere → Receives j i (heard self message args f) o
  not_heard self message args f fn o there none is = subst (λ g. Receives j i (heard self message args g) o) (sym there)
      (unheard_by (heard_by self message args fn.definition) o none is)

  pub is_heard : (w : World) (self : ℕ) (message : Tree) (args : Trees) (f : Option Function) (fn : Function)
      (env : List Tree) (body : Exprs) (calls : ℕ) (o : Outcome) → w ≡ world_of j → f ≡ Some fn →
      heard_by self message args fn.definition ≡ (Some (env, body), calls) → LoopComes w i env calls body o →
      Receives j i (heard self message args f) o
  is_heard w self message args f fn env body calls o same there selects comes =
      subst (λ g. Receives j i (heard self message args g) o) (sym there)
      (subst (λ s. Receives j i s o) (sym selects)
      (let c = subst (λ v. LoopComes v i env calls body o) same comes in received c.2 c.3))

  -- callbacks

  module _ (m : List ℕ) (s : Tree) (cb seen : Callback) (found : Option Function) (name : List ℕ) (args : Trees) (arity : ℕ)
      (same : seen ≡ cb) (is_name : name ≡ name_of seen) (are_args : args ≡ arguments_of seen s) (is_arity : arity ≡ count args)
      (is_found : found ≡ exported_of name arity i.forms) where
    found_is : exported_of (name_of seen) (count (arguments_of seen s)) i.forms ≡ found
    found_is = sym (is_found ∙ (λ k. exported_of (is_name k) ((is_arity ∙ ap count are_args) k) i.forms))

    pub not_exported_by : (o : Outcome) → found ≡ None → o ≡ unexported m s seen →
        Handles j m s cb (exported_of (name_of cb) (count (arguments_of cb s)) i.forms) i o
    not_exported_by o none is =
        subst (λ c. Handles j m s c (exported_of (name_of c) (count (arguments_of c s)) i.forms) i o) same
        (subst (λ f. Handles j m s seen f i o) (sym (found_is ∙ none)) (not_exported is))

    pub handled_by : (w : World) (fn : Function) (acts : List Act) (startup : Option Startup) (r : Result) (o : Outcome) →
        w ≡ world_of j → found ≡ Some fn → ComesOf w i name fn args acts startup r → o ≡ served m seen acts r →
        Handles j m s cb (exported_of (name_of cb) (count (arguments_of cb s)) i.forms) i o
    handled_by w fn acts startup r o in_world there (u, d, done, is_started) is =
        subst (λ c. Handles j m s c (exported_of (name_of c) (count (arguments_of c s)) i.forms) i o) same
        (subst (λ f. Handles j m s seen f i o) (sym (found_is ∙ there))
        (handled (subst (λ v. Entered v (outermost i false) true (name_of seen) fn.definition (arguments_of seen s) fresh r u)
        in_world
        (subst (λ n. Entered w (outermost i false) true n fn.definition (arguments_of seen s) fresh r u) is_name
        (subst (λ ts. Entered w (outermost i false) true name fn.definition ts fresh r u) are_args d)))
        (is ∙ ap (λ a. served m seen a r) (sym done))))

-- the instance that is entered, and the code that is reached

pub entered_none : (n : ℕ) → entered_in n [] ≡ None
entered_none zero = refl
entered_none (suc n) = refl

pub entered_first : (n : ℕ) (code items : List Instance) (i : Instance) → (n ≡ 0 → ⊥) → code ≡ i ∷ items → entered_in n code ≡ Some i
entered_first zero code items i some is = absurd (some refl)
entered_first (suc n) code items i some is = ap (λ c. entered_in (suc n) c) is

pub reached_first : (n : ℕ) (code items : List Instance) (i : Instance) → (n ≡ 0 → ⊥) → code ≡ i ∷ items → reached_in n code ≡ items
reached_first zero code items i some is = absurd (some refl)
reached_first (suc n) code items i some is = ap (λ c. reached_in (suc n) c) is

pub gives_first : (j : Job) (i : Instance) (o : Outcome) → entered_in j.entry_serial j.code ≡ Some i → GivesAt j j.place (Some i) o →
    GivesJob j o
gives_first j i o entered gives = subst (λ e. GivesAt j j.place e o) (sym entered) gives

nowhere_at : (j : Job) (p : Place) (o : Outcome) → o ≡ nowhere → GivesAt j p None o
nowhere_at j (server m s) o is = is
nowhere_at j (loop m serial name args) o is = is

pub gives_nowhere : (j : Job) (o : Outcome) → entered_in j.entry_serial j.code ≡ None → o ≡ nowhere → GivesJob j o
gives_nowhere j o entered is = subst (λ e. GivesAt j j.place e o) (sym entered) (nowhere_at j j.place o is)
