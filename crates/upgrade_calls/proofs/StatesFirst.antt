-- A new state goes before messages and replies, or behind them: it touches no name, no mailbox and no open call.
use Rattle.std.proofs.Common.{◌≡◌, ℕ, List, [], ◌∷◌, ◌++◌, Option, None, Some, refl, sym, ap, ◌∙◌}
use Rattle.std.proofs.lemmas.List.{append_assoc}
use Rattle.std.specs.List.{AllByRecursion}
use Rattle.erl_semantics.specs.Acts.{act_of}
use Rattle.erl_semantics.specs.OutcomeLaws.{IsMessage}
use Rattle.erl_semantics.specs.declared.acts.Act.{Act}
use Rattle.erl_semantics.specs.declared.acts.Act.TheVariants as act
use Rattle.erl_semantics.specs.declared.instance.Instance.{Instance}
use Rattle.erl_term.specs.declared.term.Term.{Term}
use Rattle.process_effects.proofs.Commuting.{changes_commute, owners_kept, read_kept}
use Rattle.process_effects.proofs.Parting.{answered_later, receiver_kept}
use Rattle.process_effects.specs.Acts.{act_told, closed_at, receiver_of, reply_of, sent}
use Rattle.process_effects.specs.Begins.{act_begun, acts_begun, begun_told}
use Rattle.process_index.specs.declared.calls.Call.{Call}
use Rattle.process_store.specs.Changes.{closed_living, owner_of, restate_living}
use Rattle.process_store.specs.Living.{arrived}
use Rattle.process_store.specs.Table.{Table, changed, living}
use Rattle.process_store.specs.declared.living.ProcessEntry.{ProcessEntry}

abbrev pub MessagesOnly : List Act → Type 0
MessagesOnly acts = AllByRecursion (λ a. IsMessage (act_of a)) acts

-- acts behind acts

module _ (code : List Instance) where
  pub acts_begun-append : (acts others : List Act) (t : Table) → MessagesOnly acts → acts_begun None code (acts ++ others) t ≡ acts_begun None code others (acts_begun None code acts t)
  acts_begun-append [] others t only = refl
  acts_begun-append (act.Send to message ∷ acts) others t only = acts_begun-append acts others (act_begun None code (act.Send to message) t) only.1
  acts_begun-append (act.Reply number reply ∷ acts) others t only = acts_begun-append acts others (act_begun None code (act.Reply number reply) t) only.1
  acts_begun-append (act.Start place ∷ acts) others t only = absurd only.0
  acts_begun-append (act.Name n by_register ∷ acts) others t only = absurd only.0

  pub begun_told-append : (acts others : List Act) (t : Table) → MessagesOnly acts → begun_told None code (acts ++ others) t ≡ begun_told None code acts t ++ begun_told None code others (acts_begun None code acts t)
  begun_told-append [] others t only = refl
  begun_told-append (act.Send to message ∷ acts) others t only = begun_told-append acts others (act_begun None code (act.Send to message) t) only.1
  begun_told-append (act.Reply number reply ∷ acts) others t only =
      let now = act_begun None code (act.Reply number reply) t in
      let said = act_told (act.Reply number reply) t in
      ap (λ r. said ++ r) (begun_told-append acts others now only.1)
      ∙ sym (append_assoc said (begun_told None code acts now) (begun_told None code others (acts_begun None code acts now)))
  begun_told-append (act.Start place ∷ acts) others t only = absurd only.0
  begun_told-append (act.Name n by_register ∷ acts) others t only = absurd only.0

pub messages_append : (acts others : List Act) → MessagesOnly acts → MessagesOnly others → MessagesOnly (acts ++ others)
messages_append [] others only more = more
messages_append (a ∷ acts) others only more = (only.0, messages_append acts others only.1 more)

-- A change that touches neither names, calls nor mailboxes.
module _ (code : List Instance) (f : ProcessEntry → ProcessEntry) (same_name : (l : ProcessEntry) → (f l).process.name ≡ l.process.name) (same_calls : (l : ProcessEntry) → (f l).calls ≡ l.calls) (closes : (c : Call) (l : ProcessEntry) → closed_living c (f l) ≡ f (closed_living c l)) (arrives : (m : Term) (l : ProcessEntry) → arrived m None (f l) ≡ f (arrived m None l)) where
  sent_later : (message : Term) (r : Option ℕ) (t : Table) (p : ℕ) → sent message r (changed f p t) ≡ changed f p (sent message r t)
  sent_later message None t p = refl
  sent_later message (Some q) t p = changes_commute (arrived message None) f (arrives message) t q p

  act_later : (a : Act) (t : Table) (p : ℕ) → IsMessage (act_of a) → act_begun None code a (changed f p t) ≡ changed f p (act_begun None code a t)
  act_later (act.Send to message) t p is =
      ap (λ r. sent message r (changed f p t)) (receiver_kept f same_name to t p) ∙ sent_later message (receiver_of to t) t p
  act_later (act.Reply number reply) t p is = answered_later f same_calls closes number t p
  act_later (act.Start place) t p is = absurd is
  act_later (act.Name n by_register) t p is = absurd is

  told_later : (a : Act) (t : Table) (p : ℕ) → IsMessage (act_of a) → act_told a (changed f p t) ≡ act_told a t
  told_later (act.Send to message) t p is = refl
  told_later (act.Reply number reply) t p is = ap (reply_of reply) (owners_kept f same_calls number t p)
  told_later (act.Start place) t p is = absurd is
  told_later (act.Name n by_register) t p is = absurd is

  pub acts_later : (acts : List Act) (t : Table) (p : ℕ) → MessagesOnly acts → acts_begun None code acts (changed f p t) ≡ changed f p (acts_begun None code acts t)
  acts_later [] t p only = refl
  acts_later (act.Send to message ∷ acts) t p only =
      ap (acts_begun None code acts) (act_later (act.Send to message) t p only.0) ∙ acts_later acts (act_begun None code (act.Send to message) t) p only.1
  acts_later (act.Reply number reply ∷ acts) t p only =
      ap (acts_begun None code acts) (act_later (act.Reply number reply) t p only.0) ∙ acts_later acts (act_begun None code (act.Reply number reply) t) p only.1
  acts_later (act.Start place ∷ acts) t p only = absurd only.0
  acts_later (act.Name n by_register ∷ acts) t p only = absurd only.0

  pub all_told_later : (acts : List Act) (t : Table) (p : ℕ) → MessagesOnly acts → begun_told None code acts (changed f p t) ≡ begun_told None code acts t
  all_told_later [] t p only = refl
  all_told_later (act.Send to message ∷ acts) t p only =
      let now = act_begun None code (act.Send to message) t in
      ap (begun_told None code acts) (act_later (act.Send to message) t p only.0) ∙ all_told_later acts now p only.1
  all_told_later (act.Reply number reply ∷ acts) t p only =
      let a = act.Reply number reply in
      let now = act_begun None code a t in
      (λ i. told_later a t p only.0 i ++ begun_told None code acts (act_later a t p only.0 i))
      ∙ ap (λ r. act_told a t ++ r) (all_told_later acts now p only.1)
  all_told_later (act.Start place ∷ acts) t p only = absurd only.0
  all_told_later (act.Name n by_register ∷ acts) t p only = absurd only.0

-- a new state is one
module _ (code : List Instance) (state : Term) (turns : ℕ) where
  pub state_first : (acts : List Act) (t : Table) (p : ℕ) → MessagesOnly acts → acts_begun None code acts (changed (restate_living state turns) p t) ≡ changed (restate_living state turns) p (acts_begun None code acts t)
  state_first = acts_later code (restate_living state turns) (λ l. refl) (λ l. refl) (λ c l. refl) (λ m l. refl)

  pub told_first : (acts : List Act) (t : Table) (p : ℕ) → MessagesOnly acts → begun_told None code acts (changed (restate_living state turns) p t) ≡ begun_told None code acts t
  told_first = all_told_later code (restate_living state turns) (λ l. refl) (λ l. refl) (λ c l. refl) (λ m l. refl)

-- Messages and replies leave what a process is alone that neither its mailbox nor its calls tell.
module _ {B : Type 0} (read : Option ProcessEntry → B) (arrives : (m : Term) (l : ProcessEntry) → read (Some (arrived m None l)) ≡ read (Some l)) (closes : (c : Call) (l : ProcessEntry) → read (Some (closed_living c l)) ≡ read (Some l)) (code : List Instance) (p : ℕ) where
  read_sent : (message : Term) (r : Option ℕ) (t : Table) → read (living p (sent message r t)) ≡ read (living p t)
  read_sent message None t = refl
  read_sent message (Some q) t = read_kept read (arrived message None) (arrives message) t.slots q p

  read_closed : (o : Option (ℕ × Call)) (t : Table) → read (living p (closed_at o t)) ≡ read (living p t)
  read_closed None t = refl
  read_closed (Some it) t = read_kept read (closed_living it.1) (closes it.1) t.slots it.0 p

  pub read_begun : (acts : List Act) (t : Table) → MessagesOnly acts → read (living p (acts_begun None code acts t)) ≡ read (living p t)
  read_begun [] t only = refl
  read_begun (act.Send to message ∷ acts) t only =
      read_begun acts (act_begun None code (act.Send to message) t) only.1 ∙ read_sent message (receiver_of to t) t
  read_begun (act.Reply number reply ∷ acts) t only =
      read_begun acts (act_begun None code (act.Reply number reply) t) only.1 ∙ read_closed (owner_of number t) t
  read_begun (act.Start place ∷ acts) t only = absurd only.0
  read_begun (act.Name n by_register ∷ acts) t only = absurd only.0
