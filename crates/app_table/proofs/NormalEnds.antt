-- An end counts as no failure exactly where its reason is `normal`, `shutdown` or `{shutdown,Term}`.
use Rattle.std.proofs.Common.{◌≡◌, ℕ, true, List, [], ◌∷◌, refl, ap, inl, inr}
use Rattle.std.specs.Prelude.{◌||◌, ◌↔◌, codes}
use Rattle.std.proofs.lemmas.Bool.{false_from_ne_true, not-true, not_from_false, or_cases}
use Rattle.std.proofs.lemmas.Slice.Eq.{bytes_eq-Decides}
use Rattle.erl_term.specs.Accessors.{tuple_of, two_of}
use Rattle.erl_term.specs.Conversions.{given, row}
use Rattle.erl_term.specs.Term.{tree}
use Rattle.erl_term.specs.Tree.{Tree, Trees, int, atom, pid, tuple, list, none, more}
use Rattle.erl_term.specs.declared.term.Term.{Term}
use Rattle.child_specs.specs.declared.child.Restart.TheVariants.{Transient}
use Rattle.app_table.specs.Children.{is_clean, is_due_after, is_shutdown_pair, is_word}
use Rattle.app_table.specs.Laws.{IsNormalEnd, RestartTable}
use Rattle.app_table.specs.Laws.IsNormalEnd.{normal, shutdown, shutdown_with}

word_is : (word : List ℕ) (t : Tree) → is_word word t ≡ true → t ≡ atom word
word_is word (int n) e = absurd (let no : ⊥ = cc in no)
word_is word (atom cs) e = ap atom ((bytes_eq-Decides cs word).0 e)
word_is word (pid n) e = absurd (let no : ⊥ = cc in no)
word_is word (tuple ts) e = absurd (let no : ⊥ = cc in no)
word_is word (list ts) e = absurd (let no : ⊥ = cc in no)

-- `{shutdown,Term}`
abbrev shutdown_tree : Tree → Tree
shutdown_tree term = tuple (row (atom (codes "shutdown") ∷ term ∷ []))

pair_is : (ts : Trees) → is_shutdown_pair (two_of ts) ≡ true → (term : Tree) × (tuple ts ≡ shutdown_tree term)
pair_is none e = absurd (let no : ⊥ = cc in no)
pair_is (more a none) e = absurd (let no : ⊥ = cc in no)
pair_is (more a (more b none)) e = (b, ap (λ t. tuple (more t (more b none))) (word_is (codes "shutdown") a e))
pair_is (more a (more b (more c ts))) e = absurd (let no : ⊥ = cc in no)

shutdown_is : (t : Tree) → is_shutdown_pair (given (tuple_of t) two_of) ≡ true → (term : Tree) × (t ≡ shutdown_tree term)
shutdown_is (int n) e = absurd (let no : ⊥ = cc in no)
shutdown_is (atom cs) e = absurd (let no : ⊥ = cc in no)
shutdown_is (pid n) e = absurd (let no : ⊥ = cc in no)
shutdown_is (tuple ts) e = pair_is ts e
shutdown_is (list ts) e = absurd (let no : ⊥ = cc in no)

sound : (reason : Tree) → is_clean reason ≡ true → IsNormalEnd reason
sound reason e =
    elim (or_cases (is_word (codes "normal") reason || is_word (codes "shutdown") reason) _ e) [
      | inl words ↦ elim (or_cases (is_word (codes "normal") reason) _ words) [
        | inl is ↦ normal (word_is (codes "normal") reason is)
        | inr is ↦ shutdown (word_is (codes "shutdown") reason is)
      ]
      | inr pair ↦ let found = shutdown_is reason pair in shutdown_with found.0 found.1
    ]

complete : (reason : Tree) → IsNormalEnd reason → is_clean reason ≡ true
complete reason (normal e) = ap is_clean e
complete reason (shutdown e) = ap is_clean e
complete reason (shutdown_with term e) = ap is_clean e

transient : (reason : Term) → (is_due_after reason Transient ≡ true) ↔ ¬ (IsNormalEnd (tree reason))
transient reason = (
  λ due is. let clean = complete (tree reason) is in let failed = not-true (is_clean (tree reason)) due in cc,
  λ no. not_from_false (is_clean (tree reason)) (false_from_ne_true (is_clean (tree reason)) (λ clean. no (sound (tree reason) clean))),
)

pub table : RestartTable
table = record {
  sound = sound;
  complete = complete;
  permanent = λ reason. refl;
  transient = transient;
  temporary = λ reason. refl;
}
