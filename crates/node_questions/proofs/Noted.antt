-- What is noted of a part, given what was looked up for it.
use Rattle.std.proofs.Common.{◌≡◌, ◌∙◌, ◌+◌, ℕ, Bool, true, false, List, None, Option, Some, Result, OnOk, Bor, is_some, sym}
use Rattle.std.proofs.Common.{ap, subst}
use Rattle.std.proofs.lemmas.Bool.{false≢true}
use Rattle.std.specs.List.{slice_get}
use Rattle.std.specs.Map.Iter.{deref_pair}
use Rattle.std.specs.Option.{option_copied, option_map}
use Rattle.app_table.specs.Applications.{Application}
use Rattle.app_table.specs.declared.child.Child.{Child}
use Rattle.code_server.specs.Modules.{Entry, Table as Loaded}
use Rattle.code_server.specs.declared.modules.Slots.{Slots}
use Rattle.erl_ir.specs.Module.{Forms}
use Rattle.process_store.specs.Table.{Table}
use Rattle.upgrade_review.proofs.Adding.{UpTo, adds_nothing}
use Rattle.upgrade_review.specs.Gathering.{Adds, FromEach}
use Rattle.node_questions.proofs.Turns.{goes_on_at}
use Rattle.node_questions.specs.Parts.{DiffersAsChild, DiffersAsStarted, DiffersInCode, IsChildStaying, StaysAsStarted}
use Rattle.node_questions.specs.Running.{Running, runs}
use Rattle.node_questions.specs.declared.comparing.Difference.{Difference}
use Rattle.node_questions.specs.declared.comparing.Difference.TheVariants.{ApplicationMissing, ApplicationStays}

-- copies are equal to what they are copies of

pub of_two : {A B C : Type 0} (f : A → B → C) (a b : A) (x y : B) → a ≡ b → x ≡ y → f a x ≡ f b y
of_two f a b x y one other = ap (λ z. f z x) one ∙ ap (f b) other

pub of_four : {A B C D E : Type 0} (f : A → B → C → D → E) (a b : A) (p q : B) (x y : C) (m n : D) →
    a ≡ b → p ≡ q → x ≡ y → m ≡ n → f a p x m ≡ f b q y n
of_four f a b p q x y m n first second third fourth =
    of_two (λ z w. f z w x m) a b p q first second ∙ of_two (f b q) x y m n third fourth

-- Whether a child was found.

pub none_found : (o : Option (Bor Child)) (looked : Option Child) (told : Bool) → option_copied o ≡ looked → told ≡ is_some o →
    told ≡ false → looked ≡ None
none_found None looked told is tells fails = sym is
none_found (Some child) looked told is tells fails = absurd (false≢true (sym fails ∙ tells))

pub some_found : (o : Option (Bor Child)) (looked : Option Child) (told : Bool) → option_copied o ≡ looked → told ≡ is_some o →
    told ≡ true → looked ≡ None → ⊥
some_found None looked told is tells there none = false≢true (sym tells ∙ there)
some_found (Some child) looked told is tells there none =
    let clash : Some child.now ≡ None = is ∙ none in cc

-- What is noted given what was looked up, and that nothing is noted if nothing was found.

pub by_option : {T E X F : Type 0} (r : Result T E) (P : Option X → F → Type 0) (o there : Option (Bor X)) (old new : List F) →
    o ≡ there → OnOk r (Adds (P (option_copied there)) old new) → OnOk r (Adds (P (option_copied o)) old new)
by_option {T} {E} {X} {F} r P o there old new is on =
    subst (λ (b : Option (Bor X)). OnOk r (Adds (P (option_copied b)) old new)) (sym is) on

pub by_none : {X F : Type 0} (P : Option X → F → Type 0) (o : Option (Bor X)) (found : List F) → o ≡ None →
    ((f : F) → P None f → ⊥) → Adds (P (option_copied o)) found found
by_none {X} {F} P o found is never =
    subst (λ (b : Option (Bor X)). Adds (P (option_copied b)) found found) (sym is) (adds_nothing (P None) found never)

-- the module at an index
pub module_turn : (u f : Loaded Forms) (es : List (Entry Forms)) (n : ℕ) (o : Option (Bor (List ℕ) × Bor (Slots Forms)))
    (at : Bor (List ℕ) × Bor (Slots Forms)) (old between new : List Difference) → option_map deref_pair o ≡ slice_get es n →
    o ≡ Some at →
    Adds (UpTo (λ i e. DiffersInCode u f e.0) es n) old between → Adds (DiffersInCode u f at.0.now) between new →
    Adds (UpTo (λ i e. DiffersInCode u f e.0) es (n + 1)) old new
module_turn u f es n o at old between new looked is before here =
    let R : ℕ → Entry Forms → Difference → Type 0 = λ i e. DiffersInCode u f e.0 in
    let entry : slice_get es n ≡ Some (at.0.now, at.1.now) = sym looked ∙ ap (λ x. option_map deref_pair x) is in
    goes_on_at R es n (at.0.now, at.1.now) old between new entry before here

-- of an application that runs, given whether one of its name runs on the other node
there_is : (apps : List Application) (name itself : List ℕ) (told b : Bool) → name ≡ itself → told ≡ runs name apps → told ≡ b →
    b ≡ runs itself apps
there_is apps name itself told b same is by = sym by ∙ is ∙ ap (λ n. runs n apps) same

module _ {T E : Type 0} (r : Result T E) (a : Application) (name : List ℕ) (told : Bool) (old new : List Difference)
    (same : name ≡ a.spec.name) where
  pub children_noted : (u : Running) (t : Table) (children : List Child) → children ≡ a.children → told ≡ runs name u.apps →
      told ≡ true → OnOk r (Adds (FromEach (λ i. DiffersAsChild name u t) children) old new) →
      OnOk r (Adds (DiffersAsStarted (runs a.spec.name u.apps) u t a) old new)
  children_noted u t children its is runs_there on =
      let named : OnOk r (Adds (FromEach (λ i. DiffersAsChild a.spec.name u t) children) old new) =
      subst (λ n. OnOk r (Adds (FromEach (λ i. DiffersAsChild n u t) children) old new)) same on in
      let each : OnOk r (Adds (DiffersAsStarted true u t a) old new) =
      subst (λ cs. OnOk r (Adds (FromEach (λ i. DiffersAsChild a.spec.name u t) cs) old new)) its named in
      subst (λ b. OnOk r (Adds (DiffersAsStarted b u t a) old new)) (there_is u.apps name a.spec.name told true same is
      runs_there) each

  pub missing_noted : (u : Running) (t : Table) (copy : List ℕ) → copy ≡ name → told ≡ runs name u.apps → told ≡ false →
      OnOk r (Adds (λ d. d ≡ ApplicationMissing copy) old new) →
      OnOk r (Adds (DiffersAsStarted (runs a.spec.name u.apps) u t a) old new)
  missing_noted u t copy copied is runs_not on =
      let alone : OnOk r (Adds (DiffersAsStarted false u t a) old new) =
      subst (λ n. OnOk r (Adds (λ d. d ≡ ApplicationMissing n) old new)) (copied ∙ same) on in
      subst (λ b. OnOk r (Adds (DiffersAsStarted b u t a) old new)) (there_is u.apps name a.spec.name told false same is
      runs_not) alone

  pub staying_children_noted : (booted : List Application) (children : List Child) → children ≡ a.children →
      told ≡ runs name booted → told ≡ true → OnOk r (Adds (FromEach (λ i. IsChildStaying name booted) children) old new) →
      OnOk r (Adds (StaysAsStarted (runs a.spec.name booted) booted a) old new)
  staying_children_noted booted children its is runs_there on =
      let named : OnOk r (Adds (FromEach (λ i. IsChildStaying a.spec.name booted) children) old new) =
      subst (λ n. OnOk r (Adds (FromEach (λ i. IsChildStaying n booted) children) old new)) same on in
      let each : OnOk r (Adds (StaysAsStarted true booted a) old new) =
      subst (λ cs. OnOk r (Adds (FromEach (λ i. IsChildStaying a.spec.name booted) cs) old new)) its named in
      subst (λ b. OnOk r (Adds (StaysAsStarted b booted a) old new)) (there_is booted name a.spec.name told true same is
      runs_there) each

  pub staying_noted : (booted : List Application) (copy : List ℕ) → copy ≡ name → told ≡ runs name booted → told ≡ false →
      OnOk r (Adds (λ d. d ≡ ApplicationStays copy) old new) →
      OnOk r (Adds (StaysAsStarted (runs a.spec.name booted) booted a) old new)
  staying_noted booted copy copied is runs_not on =
      let alone : OnOk r (Adds (StaysAsStarted false booted a) old new) =
      subst (λ n. OnOk r (Adds (λ d. d ≡ ApplicationStays n) old new)) (copied ∙ same) on in
      subst (λ b. OnOk r (Adds (StaysAsStarted b booted a) old new)) (there_is booted name a.spec.name told false same is
      runs_not) alone
