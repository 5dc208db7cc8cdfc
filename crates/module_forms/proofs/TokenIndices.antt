-- The token from which on so many are left.
use Rattle.std.proofs.Common.{◌≡◌, ℕ, suc, ◌-◌, ◌≤◌, List, ◌∷◌, ◌++◌, length, take, drop, get_or, ap, sym, ◌∙◌, arith, length-drop}
use Rattle.std.proofs.Math.Seq.{split_at}
use Rattle.erl_scan.specs.declared.token.Spot.{Spot}
use Rattle.module_forms.specs.FirstFault.{StandsAt}

abbrev pub index : List Spot → ℕ → ℕ
index ts left = length ts - left

pub split_there : (ts : List Spot) (left : ℕ) (s : Spot) → ¬ (left ≡ 0) → left ≤ length ts → s ≡ get_or ts (index ts left) s →
    ts ≡ take (index ts left) ts ++ s ∷ drop (suc (index ts left)) ts
split_there ts left s some most is =
    split_at ts (index ts left) s (omega (arith, some, most)) ∙
    ap (λ t. take (index ts left) ts ++ t ∷ drop (suc (index ts left)) ts) (sym is)

pub left_there : (ts : List Spot) (left : ℕ) (s : Spot) → ¬ (left ≡ 0) → left ≤ length ts →
    length (s ∷ drop (suc (index ts left)) ts) ≡ left
left_there ts left s some most = omega (arith, length-drop (suc (index ts left)) ts, some, most)

pub stands_there : (ts : List Spot) (left : ℕ) (s : Spot) → ¬ (left ≡ 0) → left ≤ length ts → s ≡ get_or ts (index ts left) s → StandsAt ts left s
stands_there ts left s some most is = record {
  before = take (index ts left) ts;
  after = drop (suc (index ts left)) ts;
  split = split_there ts left s some most is;
  count = left_there ts left s some most;
}
