-- Where code has the instance that a place names, that is the one which is found there.
use Rattle.std.proofs.Common.{◌≡◌, ℕ, zero, suc, ◌==◌, ◌&&◌, Bool, true, false, List, [], ◌∷◌, map, All, refl, sym, ap, ◌∙◌, Option, Some, cond, arith}
use Rattle.std.specs.Prelude.{Contains}
use Rattle.std.specs.Str.{bytes_eq}
use Rattle.std.proofs.lemmas.List.Elements.{All-cons, All-nil}
use Rattle.std.proofs.lemmas.Slice.Eq.{bytes_eq-Decides}
use Rattle.erl_semantics.specs.Acts.{act_of, place}
use Rattle.erl_semantics.specs.OutcomeLaws.{IsPlaceIn}
use Rattle.erl_semantics.specs.State as state
use Rattle.erl_semantics.specs.declared.acts.Act.{Act}
use Rattle.erl_semantics.specs.declared.acts.Act.TheVariants as act
use Rattle.erl_semantics.specs.declared.acts.Place.{Place}
use Rattle.erl_semantics.specs.declared.acts.Place.TheVariants.{Server, Loop}
use Rattle.erl_semantics.specs.Views.{instance}
use Rattle.erl_semantics.specs.declared.instance.Instance.{Instance}
use Rattle.process_effects.specs.Commits.{is_loaded_as, loaded_as, rests_in}
use Rattle.code_loading.specs.Consistent.{IsNamedBy, RestsAt}
use Rattle.code_loading.specs.Laws.{StartsIn}

-- code has an instance of this name and serial
abbrev pub Has : List Instance → List ℕ → ℕ → Type 0
Has code m serial = (i : state.Instance) × Contains (map instance code) i × (i.name ≡ m) × (i.serial ≡ serial)

both_hold : (a b : Bool) → (a && b) ≡ true → (a ≡ true) × (b ≡ true)
both_hold true true is = (refl, refl)
both_hold true false is = absurd (let h : false ≡ true = is in cc)
both_hold false b is = absurd (let h : false ≡ true = is in cc)

named_some : (m : List ℕ) (serial : ℕ) (c : Instance) → is_loaded_as m serial c ≡ true → IsNamedBy m serial (Some c)
named_some m serial c is =
    let h = both_hold (c.serial == serial) (bytes_eq c.name m) is in
    ((bytes_eq-Decides c.name m).0 h.1, grind (arith, h.0))

is_named : (m : List ℕ) (serial : ℕ) (c : Instance) → c.name ≡ m → c.serial ≡ serial → is_loaded_as m serial c ≡ true
is_named m serial c name is = grind (arith, is, (bytes_eq-Decides c.name m).1 name)

behind : (m : List ℕ) (serial : ℕ) (c : Instance) (cs : List Instance) → is_loaded_as m serial c ≡ false → Has (c ∷ cs) m serial → Has cs m serial
behind m serial c cs other (i, (zero, within, at), name, is) =
    absurd (let h : false ≡ true = sym other ∙ is_named m serial c (ap (λ x. x.name) at ∙ name) (ap (λ x. x.serial) at ∙ is) in cc)
behind m serial c cs other (i, (suc k, within, at), name, is) = (i, (k, omega (arith, within), at), name, is)

first_or : (m : List ℕ) (serial : ℕ) (c : Instance) (o : Option Instance) (b : Bool) → is_loaded_as m serial c ≡ b → (b ≡ false → IsNamedBy m serial o) → IsNamedBy m serial (cond b (Some c) o)
first_or m serial c o true is others = named_some m serial c is
first_or m serial c o false is others = others refl

found : (m : List ℕ) (serial : ℕ) (code : List Instance) → ¬ (¬ (Has code m serial)) → IsNamedBy m serial (loaded_as m serial code)
found m serial [] has = absurd (has (λ h. omega (arith, h.1.1)))
found m serial (c ∷ cs) has =
    first_or m serial c (loaded_as m serial cs) (is_loaded_as m serial c) refl
    (λ other. found m serial cs (λ none. has (λ h. none (behind m serial c cs other h))))

-- A process rests in the instance that its place names, where the code has it.
pub rests : (p : Place) (code : List Instance) → ¬ (¬ (IsPlaceIn (map instance code) (place p))) → RestsAt p (rests_in p code)
rests (Server m s) code has = refl
rests (Loop m serial f args) code has = found m serial code has

-- So do the processes that acts start, where the code has the instances of their places.

abbrev pub AreIn : List Instance → List Act → Type 0
AreIn code acts = (p : state.Place) → Contains (map act_of acts) (state.start p) → IsPlaceIn (map instance code) p

start_in : (code : List Instance) (a : Act) (others : List Act) → AreIn code (a ∷ others) → StartsIn code a
start_in code (act.Send to message) others are = tt
start_in code (act.Reply number answer) others are = tt
start_in code (act.Start p) others are = rests p code (λ none. none (are (place p) (0, omega arith, refl)))
start_in code (act.Name name by_register) others are = tt

pub starts_in : (code : List Instance) (acts : List Act) → AreIn code acts → All (StartsIn code) acts
starts_in code [] are = All-nil (StartsIn code)
starts_in code (a ∷ others) are = All-cons (StartsIn code) a others (start_in code a others are)
    (starts_in code others (λ p has. are p (suc has.0, omega (arith, has.1), has.2)))
