-- Each value that a callback returns means one thing.
use Rattle.std.specs.Prelude.{◌≡◌, ◌≢◌, ℕ, Bool, true, false, if◌then◌else◌, List, codes, None, Some, refl}
use Rattle.std.specs.Str.{bytes_eq}
use Rattle.std.proofs.Common.{sym, ap, ◌∙◌}
use Rattle.std.proofs.lemmas.Bool.{false≢true}
use Rattle.std.proofs.lemmas.Slice.Eq.{bytes_eq-Decides}
use Rattle.erl_term.specs.Tree.{Tree, atom, tuple, none, more}
use Rattle.erl_semantics.specs.State.{server, rest, exit}
use Rattle.erl_semantics.specs.Jobs.{Answer, Callback, answer_of, bad_return_value, call_answer, plain_answer, handle_call, handle_cast, handle_info}
use Rattle.erl_semantics.specs.CallbackReturns.{IsCall, IsNoReturn, Means, goes_on, is_bad, replies, replies_and_stops, reply_and_state, stop_and_reply, stops}

-- a word is the one that it's compared with, or it's not
word-is : (cs ds : List ℕ) → bytes_eq cs ds ≡ true → cs ≡ ds
word-is cs ds e = (bytes_eq-Decides cs ds).0 e

word-not : (cs ds : List ℕ) → bytes_eq cs ds ≡ false → cs ≡ ds → ⊥
word-not cs ds e is = false≢true (sym e ∙ (bytes_eq-Decides cs ds).1 is)

-- a value is none of the forms by which a call alone may reply
record HasNoReply (c : Callback) (v : Tree) : Type 0 where
  reply : (reply state : Tree) → IsCall c → v ≢ reply_and_state reply state
  stop : (reason reply state : Tree) → IsCall c → v ≢ stop_and_reply reason reply state

two : (m : List ℕ) (c : Callback) (cs : List ℕ) (x : Tree) (b : Bool) → bytes_eq cs (codes "noreply") ≡ b → HasNoReply c (tuple (more (atom cs) (more x none))) → Means m c (tuple (more (atom cs) (more x none))) (if b then (record { answered = None; ended = rest (server m x) }) else bad_return_value (tuple (more (atom cs) (more x none))))
two m c cs x true e none_of = goes_on x (ap (λ (w : List ℕ). tuple (more (atom w) (more x none))) (word-is cs (codes "noreply") e)) refl
two m c cs x false e none_of = is_bad (record {
  no_reply_state = none_of.reply;
  no_state = λ state is. word-not cs (codes "noreply") e (cc);
  no_stop_reply = none_of.stop;
  no_stop = λ reason state is. (cc);
}) refl

three : (m : List ℕ) (c : Callback) (cs : List ℕ) (x y : Tree) (b : Bool) → bytes_eq cs (codes "stop") ≡ b → HasNoReply c (tuple (more (atom cs) (more x (more y none)))) → Means m c (tuple (more (atom cs) (more x (more y none)))) (if b then (record { answered = None; ended = exit x }) else bad_return_value (tuple (more (atom cs) (more x (more y none)))))
three m c cs x y true e none_of = stops x y (ap (λ (w : List ℕ). tuple (more (atom w) (more x (more y none)))) (word-is cs (codes "stop") e)) refl
three m c cs x y false e none_of = is_bad (record {
  no_reply_state = none_of.reply;
  no_state = λ state is. (cc);
  no_stop_reply = none_of.stop;
  no_stop = λ reason state is. word-not cs (codes "stop") e (cc);
}) refl

plain : (m : List ℕ) (c : Callback) (v : Tree) → HasNoReply c v → Means m c v (plain_answer m v)
plain m c (tuple (more (atom cs) (more x none))) none_of = two m c cs x (bytes_eq cs (codes "noreply")) refl none_of
plain m c (tuple (more (atom cs) (more x (more y none)))) none_of = three m c cs x y (bytes_eq cs (codes "stop")) refl none_of
plain m c v none_of = is_bad (record {
  no_reply_state = none_of.reply;
  no_state = λ state is. (cc);
  no_stop_reply = none_of.stop;
  no_stop = λ reason state is. (cc);
}) refl

-- a callback that is no call
silent : (c : Callback) (v : Tree) → (IsCall c → ⊥) → HasNoReply c v
silent c v none_of = record { reply = λ reply state is. absurd (none_of is); stop = λ reason reply state is. absurd (none_of is) }

call_three : (m : List ℕ) (c : Callback) (cs : List ℕ) (x y : Tree) (b : Bool) → bytes_eq cs (codes "reply") ≡ b → IsCall c → Means m c (tuple (more (atom cs) (more x (more y none)))) (if b then (record { answered = Some x; ended = rest (server m y) }) else plain_answer m (tuple (more (atom cs) (more x (more y none)))))
call_three m c cs x y true e is = replies x y is (ap (λ (w : List ℕ). tuple (more (atom w) (more x (more y none)))) (word-is cs (codes "reply") e)) refl
call_three m c cs x y false e is = plain m c (tuple (more (atom cs) (more x (more y none)))) (record {
  reply = λ reply state is it. word-not cs (codes "reply") e (cc);
  stop = λ reason reply state is it. (cc);
})

call_four : (m : List ℕ) (c : Callback) (cs : List ℕ) (x y z : Tree) (b : Bool) → bytes_eq cs (codes "stop") ≡ b → IsCall c → Means m c (tuple (more (atom cs) (more x (more y (more z none))))) (if b then (record { answered = Some y; ended = exit x }) else bad_return_value (tuple (more (atom cs) (more x (more y (more z none))))))
call_four m c cs x y z true e is = replies_and_stops x y z is (ap (λ (w : List ℕ). tuple (more (atom w) (more x (more y (more z none))))) (word-is cs (codes "stop") e)) refl
call_four m c cs x y z false e is = is_bad (record {
  no_reply_state = λ reply state is it. (cc);
  no_state = λ state it. (cc);
  no_stop_reply = λ reason reply state is it. word-not cs (codes "stop") e (cc);
  no_stop = λ reason state it. (cc);
}) refl

call : (m : List ℕ) (c : Callback) (v : Tree) → IsCall c → Means m c v (call_answer m v)
call m c (tuple (more (atom cs) (more x (more y none)))) is = call_three m c cs x y (bytes_eq cs (codes "reply")) refl is
call m c (tuple (more (atom cs) (more x (more y (more z none))))) is = call_four m c cs x y z (bytes_eq cs (codes "stop")) refl is
call m c v is = plain m c v (record { reply = λ reply state is it. (cc); stop = λ reason reply state is it. (cc) })

pub meant : (m : List ℕ) (callback : Callback) (v : Tree) → Means m callback v (answer_of m callback v)
meant m (handle_call from t) v = call m (handle_call from t) v tt
meant m (handle_cast t) v = plain m (handle_cast t) v (silent (handle_cast t) v (λ is. is))
meant m (handle_info t) v = plain m (handle_info t) v (silent (handle_info t) v (λ is. is))

-- what has none of the forms is a bad return value
bad : (m : List ℕ) (c : Callback) (v : Tree) (a : Answer) → IsNoReturn c v → Means m c v a → a ≡ bad_return_value v
bad m c v a none_of (replies reply state is e means) = absurd (none_of.no_reply_state reply state is e)
bad m c v a none_of (goes_on state e means) = absurd (none_of.no_state state e)
bad m c v a none_of (replies_and_stops reason reply state is e means) = absurd (none_of.no_stop_reply reason reply state is e)
bad m c v a none_of (stops reason state e means) = absurd (none_of.no_stop reason state e)
bad m c v a none_of (is_bad not means) = means

pub alone : (m : List ℕ) (callback : Callback) (v : Tree) (a : Answer) → Means m callback v a → a ≡ answer_of m callback v
alone m (handle_call from t) v a (replies reply state is e means) = means ∙ sym (ap (λ v. call_answer m v) e)
alone m (handle_cast t) v a (replies reply state is e means) = absurd is
alone m (handle_info t) v a (replies reply state is e means) = absurd is
alone m (handle_call from t) v a (goes_on state e means) = means ∙ sym (ap (λ v. call_answer m v) e)
alone m (handle_cast t) v a (goes_on state e means) = means ∙ sym (ap (λ v. plain_answer m v) e)
alone m (handle_info t) v a (goes_on state e means) = means ∙ sym (ap (λ v. plain_answer m v) e)
alone m (handle_call from t) v a (replies_and_stops reason reply state is e means) = means ∙ sym (ap (λ v. call_answer m v) e)
alone m (handle_cast t) v a (replies_and_stops reason reply state is e means) = absurd is
alone m (handle_info t) v a (replies_and_stops reason reply state is e means) = absurd is
alone m (handle_call from t) v a (stops reason state e means) = means ∙ sym (ap (λ v. call_answer m v) e)
alone m (handle_cast t) v a (stops reason state e means) = means ∙ sym (ap (λ v. plain_answer m v) e)
alone m (handle_info t) v a (stops reason state e means) = means ∙ sym (ap (λ v. plain_answer m v) e)
alone m c v a (is_bad none_of means) = means ∙ sym (bad m c v (answer_of m c v) none_of (meant m c v))
