-- What the value of a start function comes to.
use Rattle.std.proofs.Common.{◌≡◌, ℕ, Bool, true, false, List, Option, Some, None, refl, ap, sym, ◌∙◌, inl, inr}
use Rattle.std.specs.Prelude.{◌≢◌, ◌&&◌, ◌==◌, codes, if◌then◌else◌}
use Rattle.std.proofs.lemmas.Bool.{and_parts, eq-eqb, eqb-true, false_from_ne_true, or_cases, or_left}
use Rattle.std.proofs.lemmas.Slice.Eq.{bytes_eq-Decides}
use Rattle.erl_term.specs.Term.{tree, term_of, term_of-tree}
use Rattle.erl_term.specs.Tree.{Tree, Trees, int, atom, pid, tuple, list, none, more}
use Rattle.erl_term.specs.declared.term.Term.{Term}
use Rattle.erl_term.specs.declared.term.Term.TheVariants.{Int, Atom, Pid, Tuple, List as ListOf}
use Rattle.erl_semantics.specs.declared.outcome.End.{End}
use Rattle.erl_semantics.specs.declared.outcome.End.TheVariants.{Rest, Value, Exit}
use Rattle.sys_protocol.specs.Laws.{IsStarted, StartTable, error, ignore}
use Rattle.sys_protocol.specs.Laws.IsStarted.{alone, with_info}
use Rattle.sys_protocol.specs.StartResults.{end_fault, is_ok, is_pid, is_word, reason_of}

-- Words and pids

word_is : (word : List ℕ) (t : Tree) → is_word word t ≡ true → t ≡ atom word
word_is word (int n) e = absurd (let no : ⊥ = cc in no)
word_is word (atom cs) e = ap atom ((bytes_eq-Decides cs word).0 e)
word_is word (pid n) e = absurd (let no : ⊥ = cc in no)
word_is word (tuple ts) e = absurd (let no : ⊥ = cc in no)
word_is word (list ts) e = absurd (let no : ⊥ = cc in no)

pid_is : (p : ℕ) (t : Tree) → is_pid p t ≡ true → t ≡ pid p
pid_is p (int n) e = absurd (let no : ⊥ = cc in no)
pid_is p (atom cs) e = absurd (let no : ⊥ = cc in no)
pid_is p (pid n) e = ap pid (eqb-true n p e)
pid_is p (tuple ts) e = absurd (let no : ⊥ = cc in no)
pid_is p (list ts) e = absurd (let no : ⊥ = cc in no)

tree_back : (t : Tree) → tree (term_of t) ≡ t
tree_back (int n) = refl
tree_back (atom cs) = refl
tree_back (pid n) = refl
tree_back (tuple ts) = refl
tree_back (list ts) = refl

-- A child that has started

-- a row that begins with `ok` and the pid
head_is : (p : ℕ) (a b : Tree) (others : Trees) → (is_word (codes "ok") a && is_pid p b) ≡ true → Tuple (more a (more b others)) ≡ Tuple (more (atom (codes "ok")) (more (pid p) others))
head_is p a b others e =
    let both = and_parts (is_word (codes "ok") a) (is_pid p b) e in
    ap (λ t. Tuple (more t (more b others))) (word_is (codes "ok") a both.0) ∙ ap (λ t. Tuple (more (atom (codes "ok")) (more t others))) (pid_is p b both.1)

row_is : (p : ℕ) (ts : Trees) → is_ok p (tuple ts) ≡ true → IsStarted p (Tuple ts)
row_is p none e = absurd (let no : ⊥ = cc in no)
row_is p (more a none) e = absurd (let no : ⊥ = cc in no)
row_is p (more a (more b none)) e =
    elim (or_cases (is_word (codes "ok") a && is_pid p b) false e) [
      | inl is ↦ alone (head_is p a b none is)
      | inr wrong ↦ absurd (let no : ⊥ = cc in no)
    ]
row_is p (more a (more b (more c none))) e = with_info c (head_is p a b (more c none) e)
row_is p (more a (more b (more c (more d ts)))) e = absurd (let no : ⊥ = cc in no)

ok_is : (p : ℕ) (value : Term) → is_ok p (tree value) ≡ true → IsStarted p value
ok_is p (Int n) e = absurd (let no : ⊥ = cc in no)
ok_is p (Atom cs) e = absurd (let no : ⊥ = cc in no)
ok_is p (Pid n) e = absurd (let no : ⊥ = cc in no)
ok_is p (Tuple ts) e = row_is p ts e
ok_is p (ListOf ts) e = absurd (let no : ⊥ = cc in no)

ok_back : (p : ℕ) (value : Term) → IsStarted p value → is_ok p (tree value) ≡ true
ok_back p value (alone e) = ap (λ v. is_ok p (tree v)) e ∙ or_left (p == p) false (eq-eqb p p refl)
ok_back p value (with_info info e) = ap (λ v. is_ok p (tree v)) e ∙ eq-eqb p p refl

-- what is told where a child has started or hasn't
abbrev told : Bool → Term → Option Term
told ok reason = if ok then None else Some reason

told_none : (ok : Bool) (reason : Term) → told ok reason ≡ None → ok ≡ true
told_none true reason e = refl
told_none false reason e = absurd (let no : ⊥ = cc in no)

sound : (p : ℕ) (started : Bool) (end : End) → end_fault p started end ≡ None → (started ≡ true) × ((value : Term) × (end ≡ Value value) × IsStarted p value)
sound p started (Rest place) e = absurd (let no : ⊥ = cc in no)
sound p started (Value value) e =
    let both = and_parts started (is_ok p (tree value)) (told_none (started && is_ok p (tree value)) _ e) in
    (both.0, (value, refl, ok_is p value both.1))
sound p started (Exit reason) e = absurd (let no : ⊥ = cc in no)

complete : (p : ℕ) (value : Term) → IsStarted p value → end_fault p true (Value value) ≡ None
complete p value is = ap (λ ok. told ok (term_of (reason_of (tree value)))) (ok_back p value is)

-- A child that hasn't

failed : (p : ℕ) (started : Bool) (reason : Term) → end_fault p started (Value (error reason)) ≡ Some reason
failed p true reason = ap Some (term_of-tree reason)
failed p false reason = ap Some (term_of-tree reason)

ignored : (p : ℕ) (started : Bool) → end_fault p started (Value ignore) ≡ Some ignore
ignored p true = refl
ignored p false = refl

-- a value that is not `{error,Reason}` is its own reason

error_is : (a b : Tree) → is_word (codes "error") a ≡ true → Tuple (more a (more b none)) ≡ error (term_of b)
error_is a b e =
    ap (λ t. Tuple (more t (more b none))) (word_is (codes "error") a e) ∙ ap (λ t. Tuple (more (atom (codes "error")) (more t none))) (sym (tree_back b))

row_reason : (ts : Trees) → ((reason : Term) → Tuple ts ≢ error reason) → term_of (reason_of (tuple ts)) ≡ Tuple ts
row_reason none no_error = refl
row_reason (more a none) no_error = refl
row_reason (more a (more b none)) no_error =
    ap (λ is. term_of (if is then b else tuple (more a (more b none)))) (false_from_ne_true (is_word (codes "error") a) (λ is. no_error (term_of b) (error_is a b is)))
row_reason (more a (more b (more c ts))) no_error = refl

own_reason : (value : Term) → ((reason : Term) → value ≢ error reason) → term_of (reason_of (tree value)) ≡ value
own_reason (Int n) no_error = refl
own_reason (Atom cs) no_error = refl
own_reason (Pid n) no_error = refl
own_reason (Tuple ts) no_error = row_reason ts no_error
own_reason (ListOf ts) no_error = refl

other : (p : ℕ) (started : Bool) (value : Term) → (started ≡ true → ¬ (IsStarted p value)) → ((reason : Term) → value ≢ error reason) → end_fault p started (Value value) ≡ Some value
other p started value not_started no_error =
    let not_ok : (started && is_ok p (tree value)) ≡ false = false_from_ne_true _ (λ e. let both = and_parts started (is_ok p (tree value)) e in not_started both.0 (ok_is p value both.1)) in
    ap (λ ok. told ok (term_of (reason_of (tree value)))) not_ok ∙ ap Some (own_reason value no_error)

pub table : StartTable
table = record {
  sound = sound;
  complete = complete;
  failed = failed;
  exited = λ p started reason. refl;
  ignored = ignored;
  other = other;
}
