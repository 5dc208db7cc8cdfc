-- The messages of a process to itself, in the commit that ends it, are lost with its mailbox.
use Rattle.std.proofs.Common.{◌≡◌, ℕ, Bool, true, false, cond, nat_eq, List, [], ◌∷◌, ◌++◌, Option, None, Some, refl, sym, ap, ◌∙◌}
use Rattle.std.proofs.lemmas.Bool.{eq-eqb, eqb-true, true≢false}
use Rattle.erl_term.specs.declared.term.Term.{Term}
use Rattle.erl_semantics.specs.declared.acts.Act.{Act}
use Rattle.erl_semantics.specs.declared.acts.Act.TheVariants as act
use Rattle.process_effects.proofs.Commuting.{changes_apart, read_kept, vacated_changed}
use Rattle.process_effects.proofs.Parting.{all_answered_later, parted, parted_told, receiver_kept, told_the_same}
use Rattle.process_effects.specs.Acts.{acts_done, acts_told, receiver_of, sent}
use Rattle.process_effects.specs.Parted.{act_sent, acts_sent, all_answered, answers_of, answers_told, other_than}
use Rattle.process_effects.specs.declared.answers.Answer.{Answer}
use Rattle.process_index.specs.declared.calls.Call.{Call}
use Rattle.process_store.specs.Living.{arrived}
use Rattle.process_store.specs.Table.{Table, changed, living}
use Rattle.process_store.specs.Vacating.{vacated}
use Rattle.process_store.specs.declared.living.ProcessEntry.{ProcessEntry}

-- the messages that acts send to one process, and they alone sent

abbrev own_of : ℕ → Term → Option ℕ → List Term
own_of pid message None = []
own_of pid message (Some q) = cond (nat_eq q pid) (message ∷ []) []

abbrev act_own : ℕ → Act → Table → List Term
act_own pid (act.Send to message) t = own_of pid message (receiver_of to t)
act_own pid (act.Reply number reply) t = []
act_own pid (act.Start place) t = []
act_own pid (act.Name name by_register) t = []

abbrev acts_own : ℕ → List Act → Table → List Term
acts_own pid [] t = []
acts_own pid (a ∷ others) t = act_own pid a t ++ acts_own pid others (act_sent None a t)

abbrev own_sent : ℕ → List Term → Table → Table
own_sent pid [] t = t
own_sent pid (m ∷ ms) t = own_sent pid ms (changed (arrived m None) pid t)

-- what comes for a process goes behind what is sent to the others
module _ (pid : ℕ) (f : ProcessEntry → ProcessEntry) (same_name : (l : ProcessEntry) → (f l).process.name ≡ l.process.name) where
  spared_later : (message : Term) (r : Option ℕ) (t : Table) → sent message (other_than (Some pid) r) (changed f pid t) ≡ changed f pid (sent message (other_than (Some pid) r) t)
  spared_later message None t = refl
  spared_later message (Some q) t =
      elim (nat_eq q pid) as (λ b. nat_eq q pid ≡ b → sent message (cond b None (Some q)) (changed f pid t) ≡ changed f pid (sent message (cond b None (Some q)) t)) [
        | true ↦ λ e. refl
        | false ↦ λ e. changes_apart (arrived message None) f t q pid (λ same. true≢false (sym (eq-eqb q pid same) ∙ e))
      ] refl

  pub others_later : (acts : List Act) (t : Table) → acts_sent (Some pid) acts (changed f pid t) ≡ changed f pid (acts_sent (Some pid) acts t)
  others_later [] t = refl
  others_later (act.Send to message ∷ others) t =
      let r = receiver_of to t in
      ap (λ o. acts_sent (Some pid) others (sent message (other_than (Some pid) o) (changed f pid t))) (receiver_kept f same_name to t pid) ∙ ap (acts_sent (Some pid) others) (spared_later message r t) ∙ others_later others (sent message (other_than (Some pid) r) t)
  others_later (act.Reply n reply ∷ others) t = others_later others t
  others_later (act.Start place ∷ others) t = others_later others t
  others_later (act.Name name by_register ∷ others) t = others_later others t

-- to send all messages is to send those to the others, and then the own ones

own_last_at : (pid q : ℕ) (message : Term) (others : List Act) (t : Table) (b : Bool) → nat_eq q pid ≡ b → ((u : Table) → acts_sent None others u ≡ own_sent pid (acts_own pid others u) (acts_sent (Some pid) others u)) → acts_sent None others (sent message (Some q) t) ≡ own_sent pid (cond b (message ∷ []) [] ++ acts_own pid others (sent message (Some q) t)) (acts_sent (Some pid) others (sent message (cond b None (Some q)) t))
own_last_at pid q message others t true e rest =
    let u = sent message (Some q) t in
    let own : u ≡ changed (arrived message None) pid t = ap (λ k. changed (arrived message None) k t) (eqb-true q pid e) in
    rest u ∙ ap (own_sent pid (acts_own pid others u)) (ap (acts_sent (Some pid) others) own ∙ others_later pid (arrived message None) (λ l. refl) others t)
own_last_at pid q message others t false e rest = rest (sent message (Some q) t)

own_last_to : (pid : ℕ) (message : Term) (others : List Act) (r : Option ℕ) (t : Table) → ((u : Table) → acts_sent None others u ≡ own_sent pid (acts_own pid others u) (acts_sent (Some pid) others u)) → acts_sent None others (sent message r t) ≡ own_sent pid (own_of pid message r ++ acts_own pid others (sent message r t)) (acts_sent (Some pid) others (sent message (other_than (Some pid) r) t))
own_last_to pid message others None t rest = rest t
own_last_to pid message others (Some q) t rest = own_last_at pid q message others t (nat_eq q pid) refl rest

own_last : (pid : ℕ) (acts : List Act) (t : Table) → acts_sent None acts t ≡ own_sent pid (acts_own pid acts t) (acts_sent (Some pid) acts t)
own_last pid [] t = refl
own_last pid (act.Send to message ∷ others) t = own_last_to pid message others (receiver_of to t) t (own_last pid others)
own_last pid (act.Reply n reply ∷ others) t = own_last pid others t
own_last pid (act.Start place ∷ others) t = own_last pid others t
own_last pid (act.Name name by_register ∷ others) t = own_last pid others t

-- own messages change nothing of the answers, and nothing of what is left where the process goes

own_answered : (pid : ℕ) (others : List Answer) (ms : List Term) (t : Table) → all_answered others (own_sent pid ms t) ≡ own_sent pid ms (all_answered others t)
own_answered pid others [] t = refl
own_answered pid others (m ∷ ms) t =
    own_answered pid others ms (changed (arrived m None) pid t) ∙ ap (own_sent pid ms) (all_answered_later (arrived m None) (λ l. refl) (λ c l. refl) others t pid)

own_told : (pid : ℕ) (others : List Answer) (ms : List Term) (t : Table) → answers_told others (own_sent pid ms t) ≡ answers_told others t
own_told pid others [] t = refl
own_told pid others (m ∷ ms) t =
    own_told pid others ms (changed (arrived m None) pid t) ∙ told_the_same (arrived m None) (λ l. refl) (λ c l. refl) others t pid

own_gone : (pid : ℕ) (ms : List Term) (t : Table) → vacated pid (own_sent pid ms t) ≡ vacated pid t
own_gone pid [] t = refl
own_gone pid (m ∷ ms) t = own_gone pid ms (changed (arrived m None) pid t) ∙ vacated_changed (arrived m None) t pid

-- the open calls of a process
abbrev pub calls_at : Option ProcessEntry → Option (List Call)
calls_at None = None
calls_at (Some l) = Some l.calls

own_calls : (pid : ℕ) (ms : List Term) (t : Table) → calls_at (living pid (own_sent pid ms t)) ≡ calls_at (living pid t)
own_calls pid [] t = refl
own_calls pid (m ∷ ms) t =
    own_calls pid ms (changed (arrived m None) pid t) ∙ read_kept calls_at (arrived m None) (λ l. refl) t.slots pid pid

-- So a process that ends need not send to itself.
module _ (pid : ℕ) (acts : List Act) (t : Table) where
  all_is : acts_done acts t ≡ own_sent pid (acts_own pid acts t) (all_answered (answers_of acts) (acts_sent (Some pid) acts t))
  all_is =
      parted acts t ∙ ap (all_answered (answers_of acts)) (own_last pid acts t) ∙ own_answered pid (answers_of acts) (acts_own pid acts t) (acts_sent (Some pid) acts t)

  pub ended_the_same : vacated pid (all_answered (answers_of acts) (acts_sent (Some pid) acts t)) ≡ vacated pid (acts_done acts t)
  ended_the_same =
      sym (ap (vacated pid) all_is ∙ own_gone pid (acts_own pid acts t) (all_answered (answers_of acts) (acts_sent (Some pid) acts t)))

  pub ended_told : answers_told (answers_of acts) (acts_sent (Some pid) acts t) ≡ acts_told acts t
  ended_told =
      sym (parted_told acts t ∙ ap (answers_told (answers_of acts)) (own_last pid acts t) ∙ own_told pid (answers_of acts) (acts_own pid acts t) (acts_sent (Some pid) acts t))

  pub ended_calls : calls_at (living pid (all_answered (answers_of acts) (acts_sent (Some pid) acts t))) ≡ calls_at (living pid (acts_done acts t))
  ended_calls =
      sym (ap (λ x. calls_at (living pid x)) all_is ∙ own_calls pid (acts_own pid acts t) (all_answered (answers_of acts) (acts_sent (Some pid) acts t)))
