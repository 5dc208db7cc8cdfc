-- Instances, one by one.
use Rattle.std.specs.Prelude.{◌≡◌, ◌↔◌, ℕ, ◌+◌, ◌<◌, Bool, true, false, if◌then◌else◌, List, [], ◌∷◌, length, take, drop, get_or, map, refl, Some, IsTrue}
use Rattle.std.specs.Str.{bytes_eq}
use Rattle.std.proofs.Common.{arith, ap, sym, ◌∙◌}
use Rattle.erl_term.specs.declared.term.Term.{Term}
use Rattle.std.specs.List.{take-map}
use Rattle.erl_term.specs.Term.{tree, trees}
use Rattle.erl_term.specs.Tree.{count}
use Rattle.std.proofs.lemmas.Slice.Eq.{bytes_eq-Decides}
use Rattle.erl_semantics.specs.State.{current}
use Rattle.erl_semantics.proofs.Tests.{from_here}
use Rattle.erl_semantics.specs.declared.instance.Instance.{Instance}
use Rattle.erl_semantics.specs.Views.{instance}

is_false : (b : Bool) → (b ≡ true → ⊥) → b ≡ false
is_false true other = absurd (other refl)
is_false false other = refl

named : (b : Bool) (x y : List ℕ) → (IsTrue b ↔ (x ≡ y)) → bytes_eq x y ≡ b
named true x y same = (bytes_eq-Decides x y).1 (same.0 refl)
named false x y same = is_false (bytes_eq x y) (λ e. let h : false ≡ true = same.1 ((bytes_eq-Decides x y).0 e) in cc)

pub current_next : (name : List ℕ) (items : List Instance) (i : ℕ) (x : Instance) (b : Bool) → i < length items →
    x ≡ get_or items i x → (IsTrue b ↔ (x.name ≡ name)) →
    current name (map instance (drop i items)) ≡
    (if b then Some (instance x) else current name (map instance (drop (i + 1) items)))
current_next name items i x b within is same =
    ap (λ xs. current name (map instance xs)) (from_here items i x within is) ∙
    ap (λ c. if c then Some (instance x) else current name (map instance (drop (i + 1) items))) (named b x.name name same)

pub bindings_cut : (n : ℕ) (ts : List Term) → map tree (take n ts) ≡ take n (map tree ts)
bindings_cut n ts = sym (take-map tree n ts)
