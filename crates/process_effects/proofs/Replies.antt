-- Which of the replies that may be told is told next.
use Rattle.std.proofs.Common.{◌≡◌, ℕ, ◌+◌, ◌-◌, ◌<◌, All, drop, get_or, replicate, take, true, false, cond, nat_eq, List, [], ◌∷◌, ◌++◌, length, map, slice_get, Option, None, Some, refl, sym, ap, subst, ◌∙◌, arith}
use Rattle.std.proofs.lemmas.Bool.Decides.{nat_tests}
use Rattle.std.proofs.lemmas.Grind.{common_steps}
use Rattle.std.proofs.lemmas.List.{append_assoc, length-drop, replicate-append-replicate, take_all, take_more}
use Rattle.std.proofs.lemmas.List.Elements.{All-map}
use Rattle.std.proofs.Math.Seq.{drop-append_seam}
use Rattle.erl_term.specs.declared.term.Term.{Term}
use Rattle.process_effects.proofs.Leaving.{last_is}
use Rattle.process_effects.specs.Acts.{closed_at, reply_of}
use Rattle.process_effects.specs.Parted.{answers_told}
use Rattle.process_effects.specs.declared.answers.Answer.{Answer}
use Rattle.process_effects.specs.Told.{down}
use Rattle.process_effects.specs.declared.told.Reply.{Reply}
use Rattle.process_effects.specs.declared.told.ReplyBody.TheVariants as told
use Rattle.process_index.specs.declared.calls.Call.{Call}
use Rattle.process_store.specs.Changes.{owner_of}
use Rattle.process_store.specs.Table.{Table}
use Rattle.process_effects.proofs.Owners.{owner_number}
use Rattle.process_effects.specs.Telling.{IsDown, client_at, client_of}

behind : (xs : List Reply) (ys : List Reply) → slice_get (xs ++ ys) (length xs) ≡ slice_get ys 0
behind [] ys = refl
behind (x ∷ xs) ys = behind xs ys

no_reply : (number : ℕ) (calls : List Call) (reason : Term) → client_of number (slice_get (map (down reason) calls) 0) ≡ None
no_reply number [] reason = refl
no_reply number (c ∷ cs) reason = refl

other_number : (next number client : ℕ) → (next ≡ number → ⊥) → cond (nat_eq next number) (Some client) None ≡ None
other_number next number client apart =
    elim (nat_eq next number) as (λ b. nat_eq next number ≡ b → cond b (Some client) None ≡ None) [
      | true ↦ λ e. absurd (apart (grind (arith, nat_tests, e)))
      | false ↦ λ e. refl
    ] refl

same_number : (next number client : ℕ) → next ≡ number → cond (nat_eq next number) (Some client) None ≡ Some client
same_number next number client same =
    elim (nat_eq next number) as (λ b. nat_eq next number ≡ b → cond b (Some client) None ≡ Some client) [
      | true ↦ λ e. refl
      | false ↦ λ e. absurd (grind (arith, nat_tests, e, same))
    ] refl

-- a reply that finds no open call is not what is told next
unanswered : (number : ℕ) (answers : List Answer) (t : Table) (calls : List Call) (reason : Term) → owner_of number t ≡ None → client_of number (slice_get (answers_told answers t ++ map (down reason) calls) 0) ≡ None
unanswered number [] t calls reason none = no_reply number calls reason
unanswered number (b ∷ others) t calls reason none =
    elim (owner_of b.number t) as (λ o. owner_of b.number t ≡ o → client_of number (slice_get ((reply_of b.reply o ++ answers_told others (closed_at o t)) ++ map (down reason) calls) 0) ≡ None) [
      | None ↦ λ e. unanswered number others t calls reason none
      | Some it ↦ λ e. other_number it.1.number number it.1.client (λ same.
          let here : None ≡ Some it = sym none ∙ ap (λ n. owner_of n t) (sym same ∙ owner_number b.number t it e) ∙ e in
          grind (arith, common_steps, here))
    ] refl

-- what is told next, after these, by an answer and others
abbrev pub Next : List Reply → Answer → List Answer → List Reply → List Reply → Option ℕ → Type 0
Next replies a others downs all None = (after : Table) × (all ≡ replies ++ (answers_told others after ++ downs))
Next replies a others downs all (Some client) =
    (after : Table) × (all ≡ (replies ++ record { client = client; number = a.number; body = told.Reply a.reply } ∷ []) ++ (answers_told others after ++ downs))

one_more : (xs : List Reply) (y : Reply) (ys zs : List Reply) → xs ++ (((y ∷ []) ++ ys) ++ zs) ≡ (xs ++ y ∷ []) ++ (ys ++ zs)
one_more [] y ys zs = refl
one_more (x ∷ xs) y ys zs = ap (λ r. x ∷ r) (one_more xs y ys zs)

pub told_next : (replies : List Reply) (a : Answer) (others : List Answer) (t : Table) (calls : List Call) (reason : Term) (all : List Reply) → all ≡ replies ++ (answers_told (a ∷ others) t ++ map (down reason) calls) → (o : Option ℕ) → o ≡ client_at a.number (length replies) all → Next replies a others (map (down reason) calls) all o
told_next replies a others t calls reason all is o at =
    let downs = map (down reason) calls in
    elim (owner_of a.number t) as (λ w. owner_of a.number t ≡ w → all ≡ replies ++ ((reply_of a.reply w ++ answers_told others (closed_at w t)) ++ downs) → Next replies a others downs all o) [
      | None ↦ λ e same.
          let none : o ≡ None = at ∙ ap (λ rs. client_of a.number (slice_get rs (length replies))) same ∙ ap (client_of a.number) (behind replies (answers_told others t ++ downs)) ∙ unanswered a.number others t calls reason e in
          subst (Next replies a others downs all) (sym none) (t, same)
      | Some it ↦ λ e same.
          let r : Reply = record { client = it.1.client; number = it.1.number; body = told.Reply a.reply } in
          let number = owner_number a.number t it e in
          let rest = answers_told others (closed_at (Some it) t) in
          let some : o ≡ Some it.1.client = at ∙ ap (λ rs. client_of a.number (slice_get rs (length replies))) same ∙ ap (client_of a.number) (behind replies (((r ∷ []) ++ rest) ++ downs)) ∙ same_number it.1.number a.number it.1.client number in
          let moved : all ≡ (replies ++ record { client = it.1.client; number = a.number; body = told.Reply a.reply } ∷ []) ++ (rest ++ downs) =
          same ∙ one_more replies r rest downs ∙ ap (λ n. (replies ++ record { client = it.1.client; number = n; body = told.Reply a.reply } ∷ []) ++ (rest ++ downs)) number in
          subst (Next replies a others downs all) (sym some) (closed_at (Some it) t, moved)
    ] refl is

-- Calls that are told to be down.
pub are_down : (reason : Term) (calls : List Call) → All (IsDown reason) (map (down reason) calls)
are_down reason calls = All-map (IsDown reason) (down reason) calls (λ i d within. refl)

-- What is left of what was told, when the replies are told once more.
pub rest_down : (replies told : List Reply) (n : ℕ) (reason : Term) (calls : List Call) → n ≡ length replies → told ≡ replies ++ map (down reason) calls → take (length told - n) (drop n told) ≡ map (down reason) calls
rest_down replies told n reason calls long is =
    take_all (length told - n) (drop n told) (let left = length-drop n told in omega (arith, left)) ∙ ap (λ m. drop m told) long ∙ ap (drop (length replies)) is ∙ drop-append_seam replies (map (down reason) calls)

-- One more list is told.
pub echo_next : (told : List Reply) (before now all : List (List Reply)) (k m : ℕ) → now ≡ before ++ told ∷ [] → before ++ replicate k told ≡ all → k ≡ 1 + m → now ++ replicate m told ≡ all
echo_next told before now all k m pushed is one =
    ap (λ ls. ls ++ replicate m told) pushed ∙ append_assoc before (told ∷ []) (replicate m told) ∙ ap (λ ls. before ++ ls) (replicate-append-replicate 1 m told) ∙ ap (λ n. before ++ replicate n told) (sym one) ∙ is

-- One more call is told to be down.

pub down_next : (reasons rest : List Term) (before now start downs : List Reply) (i : ℕ) (d e : Reply) (x reason : Term) → i < length downs → e ≡ get_or downs i d → reasons ≡ rest ++ x ∷ [] → All (λ r. r ≡ reason) reasons → All (IsDown reason) downs → now ≡ before ++ record { client = e.client; number = e.number; body = told.Down x } ∷ [] → before ≡ start ++ take i downs → now ≡ start ++ take (i + 1) downs
down_next reasons rest before now start downs i d e x reason within here popped all down pushed is =
    let body : told.Down x ≡ e.body = ap told.Down (last_is rest reasons x reason popped all) ∙ sym (down i d within) ∙ ap (λ (r : Reply). r.body) (sym here) in
    let same : ◌≡◌ {A = Reply} (record { client = e.client; number = e.number; body = told.Down x }) e = λ j. record { client = e.client; number = e.number; body = body j } in
    pushed ∙ ap (λ r. before ++ r ∷ []) same ∙ ap (λ b. b ++ e ∷ []) is ∙ append_assoc start (take i downs) (e ∷ []) ∙ ap (λ r. start ++ (take i downs ++ r ∷ [])) here ∙ ap (λ t. start ++ t) (sym (take_more downs i d within))
