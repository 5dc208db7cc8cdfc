-- To do acts in order is to send the messages among them, and then to answer the calls.
use Rattle.std.proofs.Common.{◌≡◌, ℕ, List, [], ◌∷◌, ◌++◌, Option, None, Some, refl, sym, ap, ◌∙◌}
use Rattle.erl_term.specs.declared.term.Term.{Term}
use Rattle.erl_semantics.specs.declared.acts.Act.{Act}
use Rattle.erl_semantics.specs.declared.acts.Act.TheVariants as act
use Rattle.erl_semantics.specs.declared.acts.Receiver.{Receiver}
use Rattle.erl_semantics.specs.declared.acts.Receiver.TheVariants.{Named, Process}
use Rattle.process_effects.proofs.Commuting.{changes_commute, names_kept, owners_kept}
use Rattle.process_effects.specs.Acts.{acts_done, acts_told, answered, closed_at, receiver_of, reply_of, sent}
use Rattle.process_effects.specs.Parted.{acts_sent, all_answered, answers_of, answers_told, other_than}
use Rattle.process_effects.specs.declared.answers.Answer.{Answer}
use Rattle.process_index.specs.declared.calls.Call.{Call}
use Rattle.process_store.specs.Changes.{closed_living, owner_of}
use Rattle.process_store.specs.Living.{arrived}
use Rattle.process_store.specs.Table.{Table, changed, pid_of}
use Rattle.process_store.specs.declared.living.ProcessEntry.{ProcessEntry}

-- A change that touches no calls goes before an answer, or behind it.
module _ (f : ProcessEntry → ProcessEntry) (same_calls : (l : ProcessEntry) → (f l).calls ≡ l.calls) (same : (c : Call) (l : ProcessEntry) → closed_living c (f l) ≡ f (closed_living c l)) where
  closed_later : (o : Option (ℕ × Call)) (t : Table) (p : ℕ) → closed_at o (changed f p t) ≡ changed f p (closed_at o t)
  closed_later None t p = refl
  closed_later (Some it) t p = changes_commute (closed_living it.1) f (same it.1) t it.0 p

  pub answered_later : (number : ℕ) (t : Table) (p : ℕ) → answered number (changed f p t) ≡ changed f p (answered number t)
  answered_later number t p =
      ap (λ o. closed_at o (changed f p t)) (owners_kept f same_calls number t p) ∙ closed_later (owner_of number t) t p

  pub all_answered_later : (others : List Answer) (t : Table) (p : ℕ) → all_answered others (changed f p t) ≡ changed f p (all_answered others t)
  all_answered_later [] t p = refl
  all_answered_later (a ∷ others) t p =
      ap (all_answered others) (answered_later a.number t p) ∙ all_answered_later others (answered a.number t) p

  pub told_the_same : (others : List Answer) (t : Table) (p : ℕ) → answers_told others (changed f p t) ≡ answers_told others t
  told_the_same [] t p = refl
  told_the_same (a ∷ others) t p =
      ap (λ o. reply_of a.reply o ++ answers_told others (answered a.number (changed f p t))) (owners_kept f same_calls a.number t p) ∙ ap (λ r. reply_of a.reply (owner_of a.number t) ++ r) (ap (answers_told others) (answered_later a.number t p) ∙ told_the_same others (answered a.number t) p)

-- A message goes before an answer, or behind it.

pub sent_answered : (number : ℕ) (message : Term) (r : Option ℕ) (t : Table) → answered number (sent message r t) ≡ sent message r (answered number t)
sent_answered number message None t = refl
sent_answered number message (Some q) t = answered_later (arrived message None) (λ l. refl) (λ c l. refl) number t q

closed_names : (name : List ℕ) (o : Option (ℕ × Call)) (t : Table) → pid_of name (closed_at o t) ≡ pid_of name t
closed_names name None t = refl
closed_names name (Some it) t = names_kept (closed_living it.1) (λ l. refl) name t it.0

pub receiver_answered : (to : Receiver) (number : ℕ) (t : Table) → receiver_of to (answered number t) ≡ receiver_of to t
receiver_answered (Named name) number t = closed_names name (owner_of number t) t
receiver_answered (Process pid) number t = refl

pub receiver_kept : (f : ProcessEntry → ProcessEntry) → ((l : ProcessEntry) → (f l).process.name ≡ l.process.name) → (to : Receiver) (t : Table) (p : ℕ) → receiver_of to (changed f p t) ≡ receiver_of to t
receiver_kept f same (Named name) t p = names_kept f same name t p
receiver_kept f same (Process pid) t p = refl

pub acts_sent_answered : (spared : Option ℕ) (acts : List Act) (number : ℕ) (t : Table) → acts_sent spared acts (answered number t) ≡ answered number (acts_sent spared acts t)
acts_sent_answered spared [] number t = refl
acts_sent_answered spared (act.Send to message ∷ others) number t =
    let r = other_than spared (receiver_of to t) in
    ap (λ o. acts_sent spared others (sent message (other_than spared o) (answered number t))) (receiver_answered to number t) ∙ ap (acts_sent spared others) (sym (sent_answered number message r t)) ∙ acts_sent_answered spared others number (sent message r t)
acts_sent_answered spared (act.Reply n reply ∷ others) number t = acts_sent_answered spared others number t
acts_sent_answered spared (act.Start place ∷ others) number t = acts_sent_answered spared others number t
acts_sent_answered spared (act.Name name by_register ∷ others) number t = acts_sent_answered spared others number t

pub sent_owners : (number : ℕ) (message : Term) (r : Option ℕ) (t : Table) → owner_of number (sent message r t) ≡ owner_of number t
sent_owners number message None t = refl
sent_owners number message (Some q) t = owners_kept (arrived message None) (λ l. refl) number t q

owners_sent : (spared : Option ℕ) (acts : List Act) (number : ℕ) (t : Table) → owner_of number (acts_sent spared acts t) ≡ owner_of number t
owners_sent spared [] number t = refl
owners_sent spared (act.Send to message ∷ others) number t =
    let r = other_than spared (receiver_of to t) in
    owners_sent spared others number (sent message r t) ∙ sent_owners number message r t
owners_sent spared (act.Reply n reply ∷ others) number t = owners_sent spared others number t
owners_sent spared (act.Start place ∷ others) number t = owners_sent spared others number t
owners_sent spared (act.Name name by_register ∷ others) number t = owners_sent spared others number t

-- The acts, parted.

pub parted : (acts : List Act) (t : Table) → acts_done acts t ≡ all_answered (answers_of acts) (acts_sent None acts t)
parted [] t = refl
parted (act.Send to message ∷ others) t = parted others (sent message (receiver_of to t) t)
parted (act.Reply number reply ∷ others) t =
    parted others (answered number t) ∙ ap (all_answered (answers_of others)) (acts_sent_answered None others number t)
parted (act.Start place ∷ others) t = parted others t
parted (act.Name name by_register ∷ others) t = parted others t

pub parted_told : (acts : List Act) (t : Table) → acts_told acts t ≡ answers_told (answers_of acts) (acts_sent None acts t)
parted_told [] t = refl
parted_told (act.Send to message ∷ others) t = parted_told others (sent message (receiver_of to t) t)
parted_told (act.Reply number reply ∷ others) t =
    ap (λ r. reply_of reply (owner_of number t) ++ r) (parted_told others (answered number t) ∙ ap (answers_told (answers_of others)) (acts_sent_answered None others number t)) ∙ ap (λ o. reply_of reply o ++ answers_told (answers_of others) (answered number (acts_sent None others t))) (sym (owners_sent None others number t))
parted_told (act.Start place ∷ others) t = parted_told others t
parted_told (act.Name name by_register ∷ others) t = parted_told others t

-- A change that touches neither names, calls nor mailboxes goes before all acts, or behind them.
module _ (f : ProcessEntry → ProcessEntry) (same_name : (l : ProcessEntry) → (f l).process.name ≡ l.process.name) (same_calls : (l : ProcessEntry) → (f l).calls ≡ l.calls) (closes : (c : Call) (l : ProcessEntry) → closed_living c (f l) ≡ f (closed_living c l)) (arrives : (m : Term) (l : ProcessEntry) → arrived m None (f l) ≡ f (arrived m None l)) where
  sent_later : (message : Term) (r : Option ℕ) (t : Table) (p : ℕ) → sent message r (changed f p t) ≡ changed f p (sent message r t)
  sent_later message None t p = refl
  sent_later message (Some q) t p = changes_commute (arrived message None) f (arrives message) t q p

  acts_sent_later : (spared : Option ℕ) (acts : List Act) (t : Table) (p : ℕ) → acts_sent spared acts (changed f p t) ≡ changed f p (acts_sent spared acts t)
  acts_sent_later spared [] t p = refl
  acts_sent_later spared (act.Send to message ∷ others) t p =
      let r = other_than spared (receiver_of to t) in
      ap (λ o. acts_sent spared others (sent message (other_than spared o) (changed f p t))) (receiver_kept f same_name to t p) ∙ ap (acts_sent spared others) (sent_later message r t p) ∙ acts_sent_later spared others (sent message r t) p
  acts_sent_later spared (act.Reply n reply ∷ others) t p = acts_sent_later spared others t p
  acts_sent_later spared (act.Start place ∷ others) t p = acts_sent_later spared others t p
  acts_sent_later spared (act.Name name by_register ∷ others) t p = acts_sent_later spared others t p

  pub done_later : (acts : List Act) (t : Table) (p : ℕ) → all_answered (answers_of acts) (acts_sent None acts (changed f p t)) ≡ changed f p (acts_done acts t)
  done_later acts t p =
      ap (all_answered (answers_of acts)) (acts_sent_later None acts t p) ∙ all_answered_later f same_calls closes (answers_of acts) (acts_sent None acts t) p ∙ ap (changed f p) (sym (parted acts t))

  pub told_later : (acts : List Act) (t : Table) (p : ℕ) → answers_told (answers_of acts) (acts_sent None acts (changed f p t)) ≡ acts_told acts t
  told_later acts t p =
      ap (answers_told (answers_of acts)) (acts_sent_later None acts t p) ∙ told_the_same f same_calls closes (answers_of acts) (acts_sent None acts t) p ∙ sym (parted_told acts t)
