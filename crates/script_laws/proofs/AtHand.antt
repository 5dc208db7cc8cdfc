-- The source of a name is one, where sources differ in name.
use Rattle.std.proofs.Common.{◌≡◌, ◌∙◌, ◌⊎◌, ◌++◌, ℕ, Bool, true, false, cond, if◌then◌else◌, All, List, [], ◌∷◌, Option, None, Some, is_some, refl, sym, ap, subst, inl, inr}
use Rattle.std.proofs.lemmas.Bool.{true≢false}
use Rattle.std.proofs.lemmas.List.Elements.{All-head, All-tail}
use Rattle.std.proofs.lemmas.Option.{none-some, same_Some}
use Rattle.std.proofs.lemmas.Slice.Eq.{bytes_eq-Decides}
use Rattle.std.specs.List.{find, flat_map}
use Rattle.std.specs.Str.{bytes_eq}
use Rattle.erl_ir.specs.Module.{Forms}
use Rattle.release_table.specs.declared.table.AppFiles.{AppFiles}
use Rattle.release_table.specs.declared.table.Release.{Release}
use Rattle.script_state.specs.ObjectCode.{files_of, is_files_of, is_there, source_in, source_of, sources}
use Rattle.script_laws.specs.AtHand.{DifferInName, LoadsTakeWhatWasRead}

-- an item is among others
abbrev IsAmong : {A : Type 0} → A → List A → Type 0
IsAmong x [] = ⊥
IsAmong x (y ∷ ys) = (x ≡ y) ⊎ IsAmong x ys

in_front : {A : Type 0} (x : A) (xs ys : List A) → IsAmong x xs → IsAmong x (xs ++ ys)
in_front x [] ys among = absurd among
in_front x (y ∷ xs) ys (inl is) = inl is
in_front x (y ∷ xs) ys (inr among) = inr (in_front x xs ys among)

behind : {A : Type 0} (x : A) (xs ys : List A) → IsAmong x ys → IsAmong x (xs ++ ys)
behind x [] ys among = among
behind x (y ∷ xs) ys among = inr (behind x xs ys among)

of_all : {A : Type 0} (P : A → Type 0) (x : A) (xs : List A) → All P xs → IsAmong x xs → P x
of_all P x [] all among = absurd among
of_all P x (y ∷ ys) all (inl is) = subst P (sym is) (All-head P y ys all)
of_all P x (y ∷ ys) all (inr among) = of_all P x ys (All-tail P y ys all) among

-- what is found is among them, and passes
found : {A : Type 0} (test : A → Bool) (xs : List A) (x : A) → find test xs ≡ Some x → IsAmong x xs × (test x ≡ true)
found test [] x is = absurd (none-some x is)
found test (y ∷ ys) x is =
    elim (test y) as (λ b. test y ≡ b → cond b (Some y) (find test ys) ≡ Some x → IsAmong x (y ∷ ys) × (test x ≡ true)) [
      | true ↦ λ passes here. (inl (sym (same_Some y x here)), ap test (sym (same_Some y x here)) ∙ passes)
      | false ↦ λ fails there. (let it = found test ys x there in (inr it.0, it.1))
    ] refl is

-- a source of the files of an application is one of the release
of_release : (f : AppFiles) (apps : List AppFiles) (s : Forms) → IsAmong f apps → IsAmong s f.modules → IsAmong s (flat_map (λ (g : AppFiles). g.modules) apps)
of_release f [] s among there = absurd among
of_release f (g ∷ gs) s (inl is) there =
    in_front s g.modules (flat_map (λ (h : AppFiles). h.modules) gs) (subst (λ (h : AppFiles). IsAmong s h.modules) is there)
of_release f (g ∷ gs) s (inr among) there =
    behind s g.modules (flat_map (λ (h : AppFiles). h.modules) gs) (of_release f gs s among there)

-- the source of a name is found
first_of_name : (m : List ℕ) (ss : List Forms) (s : Forms) → DifferInName ss → IsAmong s ss → bytes_eq s.name m ≡ true → source_in m ss ≡ Some s
first_of_name m [] s differ among named = absurd among
first_of_name m (t ∷ ss) s differ among named =
    elim (bytes_eq t.name m) as (λ b. bytes_eq t.name m ≡ b → cond b (Some t) (source_in m ss) ≡ Some s) [
      | true ↦ λ also. (elim among [
        | inl is ↦ ap Some (sym is)
        | inr later ↦
            let one : t.name ≡ s.name = (bytes_eq-Decides t.name m).0 also ∙ sym ((bytes_eq-Decides s.name m).0 named) in
            absurd (true≢false (sym ((bytes_eq-Decides t.name s.name).1 one) ∙ of_all (λ (other : Forms). bytes_eq t.name other.name ≡ false) s ss differ.0 later))
      ])
      | false ↦ λ not. (elim among [
        | inl is ↦ absurd (true≢false (sym named ∙ ap (λ (x : Forms). bytes_eq x.name m) is ∙ not))
        | inr later ↦ first_of_name m ss s differ.1 later named
      ])
    ] refl

at_hand : (m : List ℕ) (r : Release) (o : Option AppFiles) → ((f : AppFiles) → o ≡ Some f → IsAmong f r.apps) → DifferInName (sources r) →
    is_there m o ≡ true → source_in m (sources r) ≡ source_of m o
at_hand m r None of differ there = absurd (true≢false (sym there))
at_hand m r (Some f) of differ there =
    elim (source_in m f.modules) as (λ s. source_in m f.modules ≡ s → is_some s ≡ true → source_in m (sources r) ≡ s) [
      | None ↦ λ is some. absurd (true≢false (sym some))
      | Some s ↦ λ is some.
          (let it = found (λ (x : Forms). bytes_eq x.name m) f.modules s is in
          first_of_name m (sources r) s differ (of_release f r.apps s (of f refl) it.0) it.1)
    ] refl there

pub loads_take_what_was_read : LoadsTakeWhatWasRead
loads_take_what_was_read = record {
  takes = λ app vsn m versions r differ there noted.
      ap (λ (b : Bool). if b then source_in m (sources r) else None) noted ∙
      at_hand m r (files_of app vsn r) (λ f is. (found (is_files_of app vsn) r.apps f is).0) differ there;
}
