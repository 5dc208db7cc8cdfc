-- Messages and values by their tags.
use Rattle.std.specs.Prelude.{◌≡◌, ℕ, if◌then◌else◌, List, codes, refl, None, Some}
use Rattle.std.specs.Str.{bytes_eq}
use Rattle.std.proofs.Common.{subst}
use Rattle.erl_term.specs.Accessors.{one_of, two_of, three_of}
use Rattle.erl_term.specs.Tree.{Tree, Trees, int, atom, pid, tuple, list, none, more}
use Rattle.erl_semantics.specs.State.{rest, server, exit}
use Rattle.erl_semantics.specs.Jobs.{handle_call, handle_cast, handle_info, callback_of, bad_return_value}
use Rattle.erl_semantics.specs.Jobs.{plain_answer, call_answer}
use Rattle.erl_semantics.proofs.Options.{some_none}
use Rattle.erl_steps.specs.Tags.{tag_of}
use Rattle.erl_steps.proofs.Tagged.{tagged, one_is, two_is, three_is}

-- messages

pub callback_call : (t : Tree) (cs : List ℕ) (ts : Trees) (x y : Tree) → tag_of t ≡ Some (cs, ts) → two_of ts ≡ Some (x, y) →
    callback_of t ≡ (if bytes_eq cs (codes "$gen_call") then handle_call x y else handle_info t)
callback_call t cs ts x y e two =
    tagged (λ u. callback_of u ≡ (if bytes_eq cs (codes "$gen_call") then handle_call x y else handle_info u)) t cs ts e
    (subst (λ us. callback_of (tuple (more (atom cs) us)) ≡
    (if bytes_eq cs (codes "$gen_call") then handle_call x y else handle_info (tuple (more (atom cs) us)))) (two_is ts x y two) refl)

pub callback_cast : (t : Tree) (cs : List ℕ) (ts : Trees) (x : Tree) → tag_of t ≡ Some (cs, ts) → one_of ts ≡ Some x →
    callback_of t ≡ (if bytes_eq cs (codes "$gen_cast") then handle_cast x else handle_info t)
callback_cast t cs ts x e one =
    tagged (λ u. callback_of u ≡ (if bytes_eq cs (codes "$gen_cast") then handle_cast x else handle_info u)) t cs ts e
    (subst (λ us. callback_of (tuple (more (atom cs) us)) ≡
    (if bytes_eq cs (codes "$gen_cast") then handle_cast x else handle_info (tuple (more (atom cs) us)))) (one_is ts x one) refl)

other_callback : (cs : List ℕ) (ts : Trees) → two_of ts ≡ None → one_of ts ≡ None →
    callback_of (tuple (more (atom cs) ts)) ≡ handle_info (tuple (more (atom cs) ts))
other_callback cs none no_two no_one = refl
other_callback cs (more t none) no_two no_one = absurd (some_none no_one)
other_callback cs (more t (more u none)) no_two no_one = absurd (some_none no_two)
other_callback cs (more t (more u (more v ts))) no_two no_one = refl

pub callback_else : (t : Tree) (cs : List ℕ) (ts : Trees) → tag_of t ≡ Some (cs, ts) → two_of ts ≡ None → one_of ts ≡ None →
    callback_of t ≡ handle_info t
callback_else t cs ts e no_two no_one =
    tagged (λ u. callback_of u ≡ handle_info u) t cs ts e (other_callback cs ts no_two no_one)

pub callback_untagged : (t : Tree) → tag_of t ≡ None → callback_of t ≡ handle_info t
callback_untagged (int n) e = refl
callback_untagged (atom n) e = refl
callback_untagged (pid n) e = refl
callback_untagged (list n) e = refl
callback_untagged (tuple none) e = refl
callback_untagged (tuple (more (int n) us)) e = refl
callback_untagged (tuple (more (pid n) us)) e = refl
callback_untagged (tuple (more (tuple n) us)) e = refl
callback_untagged (tuple (more (list n) us)) e = refl
callback_untagged (tuple (more (atom n) us)) e = absurd (some_none e)

-- values that every callback may give

pub plain_one : (m : List ℕ) (t : Tree) (cs : List ℕ) (ts : Trees) (x : Tree) → tag_of t ≡ Some (cs, ts) → one_of ts ≡ Some x →
    plain_answer m t ≡ (if bytes_eq cs (codes "noreply") then (record { answered = None; ended = rest (server m x) }) else bad_return_value t)
plain_one m t cs ts x e one =
    tagged (λ u. plain_answer m u ≡ (if bytes_eq cs (codes "noreply") then (record { answered = None; ended = rest (server m x) }) else bad_return_value u)) t cs ts e
    (subst (λ us. plain_answer m (tuple (more (atom cs) us)) ≡ (if bytes_eq cs (codes "noreply") then (record { answered = None; ended = rest (server m x) }) else bad_return_value (tuple (more (atom cs) us)))) (one_is ts x one) refl)

pub plain_two : (m : List ℕ) (t : Tree) (cs : List ℕ) (ts : Trees) (x y : Tree) → tag_of t ≡ Some (cs, ts) → two_of ts ≡ Some (x, y) →
    plain_answer m t ≡ (if bytes_eq cs (codes "stop") then (record { answered = None; ended = exit x }) else bad_return_value t)
plain_two m t cs ts x y e two =
    tagged (λ u. plain_answer m u ≡ (if bytes_eq cs (codes "stop") then (record { answered = None; ended = exit x }) else bad_return_value u)) t cs ts e
    (subst (λ us. plain_answer m (tuple (more (atom cs) us)) ≡ (if bytes_eq cs (codes "stop") then (record { answered = None; ended = exit x }) else bad_return_value (tuple (more (atom cs) us)))) (two_is ts x y two) refl)

other_plain : (m cs : List ℕ) (ts : Trees) → two_of ts ≡ None → one_of ts ≡ None →
    plain_answer m (tuple (more (atom cs) ts)) ≡ bad_return_value (tuple (more (atom cs) ts))
other_plain m cs none no_two no_one = refl
other_plain m cs (more t none) no_two no_one = absurd (some_none no_one)
other_plain m cs (more t (more u none)) no_two no_one = absurd (some_none no_two)
other_plain m cs (more t (more u (more v ts))) no_two no_one = refl

pub plain_else : (m : List ℕ) (t : Tree) (cs : List ℕ) (ts : Trees) → tag_of t ≡ Some (cs, ts) → two_of ts ≡ None → one_of ts ≡ None →
    plain_answer m t ≡ bad_return_value t
plain_else m t cs ts e no_two no_one = tagged (λ u. plain_answer m u ≡ bad_return_value u) t cs ts e (other_plain m cs ts no_two no_one)

pub plain_untagged : (m : List ℕ) (t : Tree) → tag_of t ≡ None → plain_answer m t ≡ bad_return_value t
plain_untagged m (int n) e = refl
plain_untagged m (atom n) e = refl
plain_untagged m (pid n) e = refl
plain_untagged m (list n) e = refl
plain_untagged m (tuple none) e = refl
plain_untagged m (tuple (more (int n) us)) e = refl
plain_untagged m (tuple (more (pid n) us)) e = refl
plain_untagged m (tuple (more (tuple n) us)) e = refl
plain_untagged m (tuple (more (list n) us)) e = refl
plain_untagged m (tuple (more (atom n) us)) e = absurd (some_none e)

-- values of `handle_call`

pub call_two : (m : List ℕ) (t : Tree) (cs : List ℕ) (ts : Trees) (x y : Tree) → tag_of t ≡ Some (cs, ts) → two_of ts ≡ Some (x, y) →
    call_answer m t ≡ (if bytes_eq cs (codes "reply") then (record { answered = Some x; ended = rest (server m y) }) else plain_answer m t)
call_two m t cs ts x y e two =
    tagged (λ u. call_answer m u ≡ (if bytes_eq cs (codes "reply") then (record { answered = Some x; ended = rest (server m y) }) else plain_answer m u)) t cs ts e
    (subst (λ us. call_answer m (tuple (more (atom cs) us)) ≡ (if bytes_eq cs (codes "reply") then (record { answered = Some x; ended = rest (server m y) }) else plain_answer m (tuple (more (atom cs) us)))) (two_is ts x y two) refl)

pub call_three : (m : List ℕ) (t : Tree) (cs : List ℕ) (ts : Trees) (x y z : Tree) → tag_of t ≡ Some (cs, ts) → three_of ts ≡ Some (x, y, z) →
    call_answer m t ≡ (if bytes_eq cs (codes "stop") then (record { answered = Some y; ended = exit x }) else bad_return_value t)
call_three m t cs ts x y z e three =
    tagged (λ u. call_answer m u ≡ (if bytes_eq cs (codes "stop") then (record { answered = Some y; ended = exit x }) else bad_return_value u)) t cs ts e
    (subst (λ us. call_answer m (tuple (more (atom cs) us)) ≡ (if bytes_eq cs (codes "stop") then (record { answered = Some y; ended = exit x }) else bad_return_value (tuple (more (atom cs) us)))) (three_is ts x y z three) refl)

other_call : (m cs : List ℕ) (ts : Trees) → three_of ts ≡ None → two_of ts ≡ None →
    call_answer m (tuple (more (atom cs) ts)) ≡ plain_answer m (tuple (more (atom cs) ts))
other_call m cs none no_three no_two = refl
other_call m cs (more t none) no_three no_two = refl
other_call m cs (more t (more u none)) no_three no_two = absurd (some_none no_two)
other_call m cs (more t (more u (more v none))) no_three no_two = absurd (some_none no_three)
other_call m cs (more t (more u (more v (more v' ts)))) no_three no_two = refl

pub call_else : (m : List ℕ) (t : Tree) (cs : List ℕ) (ts : Trees) → tag_of t ≡ Some (cs, ts) → three_of ts ≡ None → two_of ts ≡ None →
    call_answer m t ≡ plain_answer m t
call_else m t cs ts e no_three no_two = tagged (λ u. call_answer m u ≡ plain_answer m u) t cs ts e (other_call m cs ts no_three no_two)

pub call_untagged : (m : List ℕ) (t : Tree) → tag_of t ≡ None → call_answer m t ≡ plain_answer m t
call_untagged m (int n) e = refl
call_untagged m (atom n) e = refl
call_untagged m (pid n) e = refl
call_untagged m (list n) e = refl
call_untagged m (tuple none) e = refl
call_untagged m (tuple (more (int n) us)) e = refl
call_untagged m (tuple (more (pid n) us)) e = refl
call_untagged m (tuple (more (tuple n) us)) e = refl
call_untagged m (tuple (more (list n) us)) e = refl
call_untagged m (tuple (more (atom n) us)) e = absurd (some_none e)
