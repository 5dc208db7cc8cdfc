-- What an upgrade's calls return: `code_change/3` of a callback module (gen_server(3)), and a function that is applied
-- (appup(4), apply).
use Rattle.std.specs.Prelude.{◌≡◌, ℕ, List, codes, if◌then◌else◌, Option, None, Some}
use Rattle.std.specs.Str.{bytes_eq}
use Rattle.erl_term.specs.Tree.{Tree, Trees, atom, pid, tuple, none, more}
use Rattle.erl_semantics.specs.Jobs.{Evaluates, Outcome}
use Rattle.erl_semantics.specs.State.{Act, Instance, Result, exit, pair, plain, rest, value}

-- The state that a process gets by a change of its code, or why it gets none: `{ok,S}`, else R of `{error,R}` and of an
-- exit, and of any other value V `{bad_return_value,V}`. That it rests never comes of a call.

pub data ChangeReturn : Type 0 where
  new_state : Tree → ChangeReturn
  unchanged : Tree → ChangeReturn

abbrev pub change_pair : List ℕ → Tree → Tree → ChangeReturn
change_pair word t v =
    if bytes_eq word (codes "ok") then new_state t
    else (if bytes_eq word (codes "error") then unchanged t else unchanged (pair (atom (codes "bad_return_value")) v))

abbrev pub change_value : Tree → ChangeReturn
change_value (tuple (more (atom cs) (more t none))) = change_pair cs t (tuple (more (atom cs) (more t none)))
change_value v = unchanged (pair (atom (codes "bad_return_value")) v)

abbrev pub change_return : Result → ChangeReturn
change_return (value v) = change_value v
change_return (exit reason) = unchanged reason
change_return (rest p) = unchanged (atom (codes "not_in_profile"))

-- Why an application of a function has failed, if it has: R of `{error,R}`, and `{'EXIT',R}` of an exit; every other value
-- is good.

abbrev pub apply_pair : List ℕ → Tree → Option Tree
apply_pair word t = if bytes_eq word (codes "error") then Some t else None

abbrev pub apply_value : Tree → Option Tree
apply_value (tuple (more (atom cs) (more t none))) = apply_pair cs t
apply_value v = None

abbrev pub apply_return : Result → Option Tree
apply_return (value v) = apply_value v
apply_return (exit reason) = Some (pair (atom (codes "EXIT")) reason)
apply_return (rest p) = Some (pair (atom (codes "EXIT")) (atom (codes "not_in_profile")))

-- `ChangesCode code self m vsn s extra acts r`: in this code `m:code_change(vsn,s,extra)` does these acts, for the process
-- `self`, and returns r.
abbrev pub ChangesCode : List Instance → ℕ → List ℕ → Tree → Tree → Tree → List Act → ChangeReturn → Type 0
ChangesCode code self m vsn s extra acts r = (o : Outcome) ×
    Evaluates (record { code = code; pid = self; mode = plain }) m (codes "code_change") (more vsn (more s (more extra none))) o ×
    (acts ≡ o.acts) × (r ≡ change_return o.ended)

-- `Applies code m f args acts r`: in this code `m:f(args)` does these acts, outside of all processes, and fails for r, or
-- succeeds.
abbrev pub Applies : List Instance → List ℕ → List ℕ → Trees → List Act → Option Tree → Type 0
Applies code m f args acts r = (o : Outcome) ×
    Evaluates (record { code = code; pid = 0; mode = plain }) m f args o × (acts ≡ o.acts) × (r ≡ apply_return o.ended)

-- Each returns in one way.
pub record CallsReturnOneWay : Type 0 where
  pub changes : (code : List Instance) (self : ℕ) (m : List ℕ) (vsn s extra : Tree) (acts others : List Act)
      (r q : ChangeReturn) →
      ChangesCode code self m vsn s extra acts r → ChangesCode code self m vsn s extra others q → (acts ≡ others) × (r ≡ q)
  pub applies : (code : List Instance) (m f : List ℕ) (args : Trees) (acts others : List Act) (r q : Option Tree) →
      Applies code m f args acts r → Applies code m f args others q → (acts ≡ others) × (r ≡ q)
