-- To do acts in order is to do them without their replies, and then to give the replies.
use Rattle.std.proofs.Common.{◌≡◌, ℕ, List, [], ◌∷◌, ◌++◌, Option, refl, sym, ap, ◌∙◌}
use Rattle.std.proofs.lemmas.List.{append_assoc, append-nil}
use Rattle.erl_term.specs.declared.term.Term.{Term}
use Rattle.erl_semantics.specs.declared.acts.Act.{Act}
use Rattle.erl_semantics.specs.declared.acts.Act.TheVariants as act
use Rattle.erl_semantics.specs.declared.acts.Receiver.{Receiver}
use Rattle.erl_semantics.specs.declared.instance.Instance.{Instance}
use Rattle.process_effects.proofs.Parting.{receiver_answered, sent_answered, sent_owners}
use Rattle.process_effects.specs.Acts.{act_told, answered, receiver_of, reply_of, sent}
use Rattle.process_effects.specs.Commits.{rests_in}
use Rattle.process_effects.specs.Parted.{act_answers, all_answered, answers_of, answers_told}
use Rattle.process_effects.specs.declared.answers.Answer.{Answer}
use Rattle.process_effects.specs.declared.told.Reply.{Reply}
use Rattle.process_store.specs.Changes.{owner_of}
use Rattle.process_store.specs.Table.{Table}
use Rattle.process_effects.proofs.Joining.{all_answered_added, told_added}
use Rattle.process_effects.specs.Batches.{AllFit, all_undone}
use Rattle.process_effects.specs.Begins.{IsUnderWay, act_begun, act_made, acts_begun, acts_made, begun_told, name_left}
use Rattle.process_effects.specs.declared.change.Addition.{Addition}

-- One more answer.

answered_last : (others : List Answer) (a : Answer) (t : Table) → all_answered (others ++ a ∷ []) t ≡ answered a.number (all_answered others t)
answered_last [] a t = refl
answered_last (b ∷ others) a t = answered_last others a (answered b.number t)

told_last : (others : List Answer) (a : Answer) (t : Table) → answers_told (others ++ a ∷ []) t ≡ answers_told others t ++ reply_of a.reply (owner_of a.number (all_answered others t))
told_last [] a t = append-nil (reply_of a.reply (owner_of a.number t))
told_last (b ∷ others) a t =
    let first = reply_of b.reply (owner_of b.number t) in
    let next = answered b.number t in
    ap (λ r. first ++ r) (told_last others a next) ∙ sym (append_assoc first (answers_told others next) (reply_of a.reply (owner_of a.number (all_answered others next))))

-- A message goes before answers, or behind them.

sent_behind : (others : List Answer) (to : Receiver) (message : Term) (t : Table) → sent message (receiver_of to (all_answered others t)) (all_answered others t) ≡ all_answered others (sent message (receiver_of to t) t)
sent_behind [] to message t = refl
sent_behind (a ∷ others) to message t =
    sent_behind others to message (answered a.number t) ∙ ap (all_answered others) (ap (λ r. sent message r (answered a.number t)) (receiver_answered to a.number t) ∙ sym (sent_answered a.number message (receiver_of to t) t))

told_behind : (others : List Answer) (message : Term) (r : Option ℕ) (t : Table) → answers_told others (sent message r t) ≡ answers_told others t
told_behind [] message r t = refl
told_behind (a ∷ others) message r t =
    ap (λ o. reply_of a.reply o ++ answers_told others (answered a.number (sent message r t))) (sent_owners a.number message r t) ∙ ap (λ x. reply_of a.reply (owner_of a.number t) ++ x) (ap (answers_told others) (sent_answered a.number message r t) ∙ told_behind others message r (answered a.number t))

-- One act, with answers that are left to give.

module _ (name : Option (List ℕ)) (code : List Instance) where
  begun_one : (others : List Answer) (a : Act) (t : Table) → act_begun name code a (all_answered others t) ≡ all_answered (others ++ act_answers a) (act_made name code a t)
  begun_one others (act.Send to message) t =
      sent_behind others to message t ∙ ap (λ xs. all_answered xs (sent message (receiver_of to t) t)) (sym (append-nil others))
  begun_one others (act.Reply number reply) t = sym (answered_last others (record { number = number; reply = reply }) t)
  begun_one others (act.Start place) t =
      sym (all_answered_added name place (rests_in place code) others t) ∙ ap (λ xs. all_answered xs (act_made name code (act.Start place) t)) (sym (append-nil others))
  begun_one others (act.Name n by_register) t = ap (λ xs. all_answered xs t) (sym (append-nil others))

  told_one : (others : List Answer) (a : Act) (t : Table) → answers_told (others ++ act_answers a) (act_made name code a t) ≡ answers_told others t ++ act_told a (all_answered others t)
  told_one others (act.Send to message) t =
      ap (λ xs. answers_told xs (sent message (receiver_of to t) t)) (append-nil others) ∙ told_behind others message (receiver_of to t) t ∙ sym (append-nil (answers_told others t))
  told_one others (act.Reply number reply) t =
      told_last others (record { number = number; reply = reply }) t
  told_one others (act.Start place) t =
      ap (λ xs. answers_told xs (act_made name code (act.Start place) t)) (append-nil others) ∙ told_added name place (rests_in place code) others t ∙ sym (append-nil (answers_told others t))
  told_one others (act.Name n by_register) t =
      ap (λ xs. answers_told xs t) (append-nil others) ∙ sym (append-nil (answers_told others t))

-- All acts.

pub begun_parted : (name : Option (List ℕ)) (code : List Instance) (acts : List Act) (others : List Answer) (t : Table) → acts_begun name code acts (all_answered others t) ≡ all_answered (others ++ answers_of acts) (acts_made name code acts t)
begun_parted name code [] others t = ap (λ xs. all_answered xs t) (sym (append-nil others))
begun_parted name code (a ∷ acts) others t =
    ap (acts_begun (name_left name a) code acts) (begun_one name code others a t) ∙ begun_parted (name_left name a) code acts (others ++ act_answers a) (act_made name code a t) ∙ ap (λ xs. all_answered xs (acts_made name code (a ∷ acts) t)) (append_assoc others (act_answers a) (answers_of acts))

pub told_parted : (name : Option (List ℕ)) (code : List Instance) (acts : List Act) (others : List Answer) (t : Table) → answers_told (others ++ answers_of acts) (acts_made name code acts t) ≡ answers_told others t ++ begun_told name code acts (all_answered others t)
told_parted name code [] others t =
    ap (λ xs. answers_told xs t) (append-nil others) ∙ sym (append-nil (answers_told others t))
told_parted name code (a ∷ acts) others t =
    let left = name_left name a in
    let made = act_made name code a t in
    let here = all_answered others t in
    ap (λ xs. answers_told xs (acts_made left code acts made)) (sym (append_assoc others (act_answers a) (answers_of acts))) ∙ told_parted left code acts (others ++ act_answers a) made ∙ (λ i. told_one name code others a t i ++ begun_told left code acts (sym (begun_one name code others a t) i)) ∙ append_assoc (answers_told others t) (act_told a here) (begun_told left code acts (act_begun name code a here))

-- what is under way, and acts on top of it
pub more_under_way : (name : Option (List ℕ)) (code : List Instance) (acts : List Act) (changes more : List Addition) (answers given : List Answer) (before now after t : Table) (told : List Reply) → IsUnderWay changes answers before now t told → after ≡ acts_made name code acts now → given ≡ answers ++ answers_of acts → all_undone more after ≡ all_undone changes now → (AllFit changes now → AllFit more after) → IsUnderWay more given before after (acts_begun name code acts t) (told ++ begun_told name code acts t)
more_under_way name code acts changes more answers given before now after t told way is noted back fits = record {
  back = (fits way.back.0, back ∙ way.back.1);
  makes = ap (acts_begun name code acts) way.makes ∙ begun_parted name code acts answers now ∙ (λ i. all_answered (sym noted i) (sym is i));
  tells = (λ i. way.tells i ++ begun_told name code acts (way.makes i)) ∙ sym (told_parted name code acts answers now) ∙ (λ i. answers_told (sym noted i) (sym is i));
}
