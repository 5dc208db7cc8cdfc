-- The supervisors of a module specify their children anew, one after the other.
use Rattle.std.proofs.Common.{◌≡◌, ◌<◌, ◌≤◌, ◌+◌, ℕ, zero, suc, inl, inr, List, [], ◌∷◌, ◌++◌, None, Some, arith, drop, length, map, take, refl, sym, ap, subst, ◌∙◌}
use Rattle.std.proofs.lemmas.List.Elements.{All-from_recursion, recursion_from_All}
use Rattle.std.proofs.lemmas.Option.{same_Some}
use Rattle.std.specs.List.{AllByRecursion}
use Rattle.std.proofs.lemmas.List.{append-nil, append_assoc}
use Rattle.std.specs.Prelude.{IfSome, slice_get}
use Rattle.app_table.specs.Applications.{Application}
use Rattle.app_table.specs.Renewing.{children_renewed, with_renewed}
use Rattle.child_specs.specs.declared.child.ChildSpec.{ChildSpec}
use Rattle.code_changes.specs.Renewing.{AllRenew, FirstBadInit, Gives, GivesNone, RenewsAll, RenewsIf, RenewsOne, supervisor_in}
use Rattle.erl_semantics.proofs.OutcomeLaws.{evaluates_keeps}
use Rattle.erl_semantics.specs.Acts.{act_of}
use Rattle.erl_semantics.specs.OutcomeLaws.{IsMessage}
use Rattle.erl_semantics.specs.declared.acts.Act.{Act}
use Rattle.erl_semantics.specs.declared.instance.Instance.{Instance}
use Rattle.erl_term.specs.declared.term.Term.{Term}
use Rattle.otp_files.specs.declared.app.StartModule.{StartModule}
use Rattle.process_effects.specs.Begins.{begun_told}
use Rattle.process_effects.specs.declared.told.Reply.{Reply}
use Rattle.process_store.specs.Table.{Table}
use Rattle.sys_protocol.specs.AppStarts.{GivesSupervision}
use Rattle.upgrade_calls.proofs.Reached.{asked_after}
use Rattle.upgrade_calls.specs.Evaluated.{AreEvaluated, AreMessages, Evaluated, asked, processes_after, told_after}
use Rattle.values.specs.Edits.{changed_at}
use Rattle.values.specs.Failure.{Fails}
use Rattle.values.specs.declared.failure.Failure.{Failure}
use Rattle.values.specs.declared.failure.Failure.TheVariants.{Refused, Memory}

take_next : (apps : List Application) (index : ℕ) (b : Application) → index < length apps →
    take (suc index) (changed_at (λ it. b) apps index) ≡ take index apps ++ b ∷ []
take_next [] index b within = absurd (omega (arith, within))
take_next (a ∷ apps) zero b within = refl
take_next (a ∷ apps) (suc index) b within = ap (λ (xs : List Application). a ∷ xs) (take_next apps index b (omega (arith, within)))

take_changed : (apps : List Application) (index : ℕ) (b : Application) → index < length apps →
    take (index + 1) (changed_at (λ it. b) apps index) ≡ take index apps ++ b ∷ []
take_changed apps index b within =
    let next : index + 1 ≡ suc index = omega arith in
    ap (λ n. take n (changed_at (λ it. b) apps index)) next ∙ take_next apps index b within

drop_next : (apps : List Application) (index : ℕ) (f : Application → Application) →
    drop (suc index) (changed_at f apps index) ≡ drop (suc index) apps
drop_next [] index f = refl
drop_next (a ∷ apps) zero f = refl
drop_next (a ∷ apps) (suc index) f = drop_next apps index f

pub drop_changed : (apps : List Application) (index : ℕ) (f : Application → Application) →
    drop (index + 1) (changed_at f apps index) ≡ drop (index + 1) apps
drop_changed apps index f =
    let next : index + 1 ≡ suc index = omega arith in
    ap (λ n. drop n (changed_at f apps index)) next ∙ drop_next apps index f ∙ ap (λ n. drop n apps) (sym next)

append_one : {A : Type 0} (xs ys : List A) (y : A) → (xs ++ y ∷ []) ++ ys ≡ xs ++ y ∷ ys
append_one [] ys y = refl
append_one (x ∷ xs) ys y = ap (λ zs. x ∷ zs) (append_one xs ys y)

-- How far it has come: what comes of the applications from an index on comes, behind those so far, of all.
pub record Renewing (code : List Instance) (name : List ℕ) (t : Table) (apps : List Application) (from : Evaluated) (index : ℕ)
    (now : List Application) (e : Evaluated) : Type 0 where
  pub since : List Reply
  pub tells : told_after code e t ≡ told_after code from t ++ since
  pub evaluated : AreEvaluated t e
  pub changes : e.changes ≡ from.changes
  pub all : (last : List Application) (after : Table) (rest : List Reply) →
      AllRenew code name (drop index apps) (processes_after code e t) last after rest →
      AllRenew code name apps (processes_after code from t) (take index now ++ last) after (since ++ rest)

pub none_renewed : (code : List Instance) (name : List ℕ) (t : Table) (apps : List Application) (from : Evaluated) → AreEvaluated t from →
    Renewing code name t apps from 0 apps from
none_renewed code name t apps from it = record {
  since = [];
  tells = sym (append-nil (told_after code from t));
  evaluated = it;
  changes = refl;
  all = λ last after rest x. x;
}

pub one_renewed : (code : List Instance) (name : List ℕ) (t : Table) (apps : List Application) (from : Evaluated) (index : ℕ) →
    (now after : List Application) (e f : Evaluated) (a : Application) → drop index apps ≡ a ∷ drop (index + 1) apps → index < length now →
    Renewing code name t apps from index now e → RenewsOne code name index now after t e f a →
    Renewing code name t apps from (index + 1) after f
one_renewed code name t apps from index now after e f a next within reached one =
    let b = one.now in
    let front : take (index + 1) after ≡ take index now ++ b ∷ [] = ap (take (index + 1)) one.apps ∙ take_changed now index b within in
    record {
      since = reached.since ++ one.said;
      tells = one.tells ∙ ap (λ (r : List Reply). r ++ one.said) reached.tells ∙ append_assoc (told_after code from t) reached.since one.said;
      evaluated = one.evaluated;
      changes = one.changes ∙ reached.changes;
      all = λ last end rest x.
          let here : AllRenew code name (a ∷ drop (index + 1) apps) (processes_after code e t) (b ∷ last) end (one.said ++ rest) =
          (processes_after code f t, one.said, rest, one.renews, x, refl) in
          let there = subst (λ (xs : List Application). AllRenew code name xs (processes_after code e t) (b ∷ last) end (one.said ++ rest)) (sym next) here in
          let more = reached.all (b ∷ last) end (one.said ++ rest) there in
          let lists : take index now ++ b ∷ last ≡ take (index + 1) after ++ last =
          sym (append_one (take index now) last b) ∙ ap (λ (xs : List Application). xs ++ last) (sym front) in
          subst (λ (xs : List Application). AllRenew code name apps (processes_after code from t) xs end ((reached.since ++ one.said) ++ rest)) lists
          (subst (λ (r : List Reply). AllRenew code name apps (processes_after code from t) (take index now ++ b ∷ last) end r)
          (sym (append_assoc reached.since one.said rest)) more);
    }

take_whole : {A : Type 0} (xs : List A) (n : ℕ) → length xs ≤ n → take n xs ++ [] ≡ xs
take_whole [] zero long = refl
take_whole [] (suc n) long = refl
take_whole (x ∷ xs) zero long = absurd (omega (arith, long))
take_whole (x ∷ xs) (suc n) long = ap (λ ys. x ∷ ys) (take_whole xs n (omega (arith, long)))

drop_whole : {A : Type 0} (xs : List A) (n : ℕ) → length xs ≤ n → drop n xs ≡ []
drop_whole [] zero long = refl
drop_whole [] (suc n) long = refl
drop_whole (x ∷ xs) zero long = absurd (omega (arith, long))
drop_whole (x ∷ xs) (suc n) long = drop_whole xs n (omega (arith, long))

pub all_renewed : (code : List Instance) (name : List ℕ) (t : Table) (apps : List Application) (from : Evaluated) (index : ℕ) →
    (now : List Application) (e : Evaluated) → length apps ≤ index → length now ≤ index →
    Renewing code name t apps from index now e → RenewsAll code name apps now t from e
all_renewed code name t apps from index now e long past reached =
    let here = processes_after code e t in
    let last : AllRenew code name (drop index apps) here [] here [] =
    subst (λ (xs : List Application). AllRenew code name xs here [] here []) (sym (drop_whole apps index long)) (refl, refl, refl) in
    let all = reached.all [] here [] last in
    let whole = subst (λ (xs : List Application). AllRenew code name apps (processes_after code from t) xs here (reached.since ++ [])) (take_whole now index past) all in
    record {
      said = reached.since;
      renew = subst (AllRenew code name apps (processes_after code from t) now here) (append-nil reached.since) whole;
      tells = reached.tells;
      evaluated = reached.evaluated;
      changes = reached.changes;
    }

-- one that gives a supervision isn't the first that gives none
pub bad_later : (code : List Instance) (name : List ℕ) (apps : List Application) (index : ℕ) (a : Application) →
    drop index apps ≡ a ∷ drop (index + 1) apps → Gives code (supervisor_in name a) →
    ((x : Term) → FirstBadInit code name (drop index apps) x → FirstBadInit code name apps x) →
    (x : Term) → FirstBadInit code name (drop (index + 1) apps) x → FirstBadInit code name apps x
bad_later code name apps index a next gives before x bad =
    before x (subst (λ (xs : List Application). FirstBadInit code name xs x) (sym next) (inr (gives, bad)))

-- The application at an index, and those behind it.
pub next_index : (now apps : List Application) (index : ℕ) → length now ≡ length apps → index < length apps → drop index now ≡ drop index apps →
    (a : Application) × (slice_get now index ≡ Some a) × (drop index apps ≡ a ∷ drop (index + 1) apps) × (drop (index + 1) now ≡ drop (index + 1) apps)
next_index now apps index long within same =
    let (a, at, next) = split now index (omega (arith, long, within)) in
    let (b, there, also) = split apps index within in
    let both : a ∷ drop (index + 1) now ≡ b ∷ drop (index + 1) apps = sym next ∙ same ∙ also in
    let first : b ≡ a = sym (head_same a b (drop (index + 1) now) (drop (index + 1) apps) both) in
    (a, at, also ∙ ap (λ (x : Application). x ∷ drop (index + 1) apps) first, tail_same a b (drop (index + 1) now) (drop (index + 1) apps) both)
  where
    split : (xs : List Application) (n : ℕ) → n < length xs → (x : Application) × (slice_get xs n ≡ Some x) × (drop n xs ≡ x ∷ drop (n + 1) xs)
    split [] n below = absurd (omega (arith, below))
    split (x ∷ xs) zero below = (x, refl, refl)
    split (x ∷ xs) (suc n) below =
        let (y, at, is) = split xs n (omega (arith, below)) in
        let next : n + 1 ≡ suc n = omega arith in
        let also : suc n + 1 ≡ suc (suc n) = omega arith in
        (y, at, is ∙ ap (λ k. y ∷ drop k xs) next ∙ ap (λ k. y ∷ drop k (x ∷ xs)) (sym also))

    head_same : (x y : Application) (xs ys : List Application) → x ∷ xs ≡ y ∷ ys → x ≡ y
    head_same x y xs ys same = ap (λ (zs : List Application). first_or x zs) same
      where
        first_or : Application → List Application → Application
        first_or z [] = z
        first_or z (w ∷ ws) = w

    tail_same : (x y : Application) (xs ys : List Application) → x ∷ xs ≡ y ∷ ys → xs ≡ ys
    tail_same x y xs ys same = ap (λ (zs : List Application). drop 1 zs) same

-- One application, whose children are specified anew, or stay.

constant : {A : Type 0} (f : A → A) (xs : List A) (index : ℕ) (x : A) → slice_get xs index ≡ Some x → changed_at f xs index ≡ changed_at (λ it. f x) xs index
constant f [] index x at = refl
constant f (y ∷ xs) zero x at = ap (λ z. f z ∷ xs) (same_Some y x at)
constant f (y ∷ xs) (suc index) x at = ap (λ zs. y ∷ zs) (constant f xs index x at)

stays : {A : Type 0} (xs : List A) (index : ℕ) (x : A) → slice_get xs index ≡ Some x → xs ≡ changed_at (λ it. x) xs index
stays [] index x at = refl
stays (y ∷ xs) zero x at = ap (λ z. z ∷ xs) (same_Some y x at)
stays (y ∷ xs) (suc index) x at = ap (λ zs. y ∷ zs) (stays xs index x at)

pub not_renewed : (code : List Instance) (name : List ℕ) (index : ℕ) (apps : List Application) (t : Table) (e : Evaluated) (a : Application) →
    slice_get apps index ≡ Some a → supervisor_in name a ≡ None → AreEvaluated t e → RenewsOne code name index apps apps t e e a
not_renewed code name index apps t e a at none it = record {
  now = a;
  said = [];
  apps = stays apps index a at;
  renews = subst (λ o. RenewsIf code o a a (processes_after code e t) (processes_after code e t) []) (sym none) (refl, refl, refl);
  tells = sym (append-nil (told_after code e t));
  evaluated = it;
  changes = refl;
}

pub is_renewed : (code : List Instance) (name : List ℕ) (index : ℕ) (apps after : List Application) (t : Table) (e f : Evaluated) →
    (a : Application) (s : StartModule) (specs : List ChildSpec) (acts : List Act) → slice_get apps index ≡ Some a →
    supervisor_in name a ≡ Some s → GivesSupervision code s specs acts → after ≡ children_renewed index specs apps → f ≡ asked acts e →
    AreEvaluated t e → AreEvaluated t f → RenewsOne code name index apps after t e f a
is_renewed code name index apps after t e f a s specs acts at is given renewed asks it then =
    let both = asked_after code t acts e it in
    record {
      now = with_renewed specs a;
      said = begun_told None code acts (processes_after code e t);
      apps = renewed ∙ constant (with_renewed specs) apps index a at;
      renews = subst (λ o. RenewsIf code o a (with_renewed specs a) (processes_after code e t) (processes_after code f t) (begun_told None code acts (processes_after code e t))) (sym is)
          (record {
            specs = specs;
            acts = acts;
            gives = given;
            renewed = refl;
            done = ap (λ (x : Evaluated). processes_after code x t) asks ∙ both.0;
            tells = refl;
          });
      tells = ap (λ (x : Evaluated). told_after code x t) asks ∙ both.1;
      evaluated = then;
      changes = ap (λ (x : Evaluated). x.changes) asks;
    }

-- what `init` asks for is messages and replies

messages_in : (acts : List Act) → AllByRecursion IsMessage (map act_of acts) → AllByRecursion (λ (a : Act). IsMessage (act_of a)) acts
messages_in [] all = tt
messages_in (a ∷ acts) all = (all.0, messages_in acts all.1)

pub messages_given : (code : List Instance) (s : StartModule) (specs : List ChildSpec) (acts : List Act) → GivesSupervision code s specs acts →
    AreMessages acts
messages_given code s specs acts given =
    let o = given.outcome in
    subst AreMessages (sym given.asks)
    (All-from_recursion (λ (a : Act). IsMessage (act_of a)) o.acts
    (messages_in o.acts (recursion_from_All IsMessage (map act_of o.acts) ((evaluates_keeps _ _ _ _ _ given.gives).messages refl))))

-- what stands at an index
pub stands : (apps : List Application) (index : ℕ) → index < length apps → (a : Application) × (slice_get apps index ≡ Some a)
stands [] index within = absurd (omega (arith, within))
stands (a ∷ apps) zero within = (a, refl)
stands (a ∷ apps) (suc index) within = stands apps index (omega (arith, within))

-- the first that gives no supervision
pub bad_here : (x : Failure Term) (code : List Instance) (name : List ℕ) (now apps : List Application) (index : ℕ) (a : Application) →
    slice_get now index ≡ Some a → drop index apps ≡ a ∷ drop (index + 1) apps →
    ((y : Term) → FirstBadInit code name (drop index apps) y → FirstBadInit code name apps y) →
    Fails (λ (y : Term). IfSome (slice_get now index) (λ (b : Application). GivesNone code (supervisor_in name b) y)) (Unit {0}) x →
    Fails (FirstBadInit code name apps) (Unit {0}) x
bad_here (Refused y) code name now apps index a at next before fails =
    let none : GivesNone code (supervisor_in name a) y = subst (λ o. IfSome o (λ (b : Application). GivesNone code (supervisor_in name b) y)) at fails in
    before y (subst (λ (xs : List Application). FirstBadInit code name xs y) (sym next) (inl none))
bad_here Memory code name now apps index a at next before fails = tt
