-- Rows of terms that are seen from an index on.
use Rattle.std.specs.Prelude.{◌≡◌, ℕ, zero, suc, ◌-◌, ◌^◌, ◌<◌, ◌≤◌, min, List, [], ◌∷◌, length, drop}
use Rattle.std.proofs.Common.{arith}
use Rattle.erl_term.specs.declared.term.Term.{Term}
use Rattle.erl_term.specs.Tree.{Trees, none, more, greatest_depth, total_size}
use Rattle.erl_term.specs.Term.{trees}

-- the row behind its first term (the BIF `tl/1`); none behind none
abbrev pub behind : Trees → Trees
behind none = none
behind (more t ts) = ts

-- What is told of all terms of a row: their greatest depth, which one of those has that stand from the index `last` on,
-- and the sum of their sizes, up to 2^64 - 1.
pub record HasExtent (items : List Term) (depth last size : ℕ) : Type 0 where
  pub depth_is : depth ≡ min (greatest_depth (trees items)) (2 ^ 64 - 1)
  pub last_has_it : depth ≡ min (greatest_depth (trees (drop last items))) (2 ^ 64 - 1)
  pub last_within : last ≤ length items
  pub size_is : size ≡ min (total_size (trees items)) (2 ^ 64 - 1)

-- What holds of a row that is seen from the index `from` on. It hides no term that is deeper than all that it shows, so
-- that its depth is the greatest of them all; `hidden` is the sum of the sizes of those that it hides.
pub record IsPart (items : List Term) (depth last size from hidden : ℕ) : Type 0 where
  pub depth_is : depth ≡ greatest_depth (trees items)
  pub last_has_it : depth ≡ greatest_depth (trees (drop last items))
  pub depth_below : depth < 2 ^ 64 - 1
  pub last_within : last ≤ length items
  pub from_before : from ≤ last
  pub hidden_within : hidden ≤ size
  pub size_seen : size - hidden ≡ min (total_size (trees (drop from items))) (2 ^ 64 - 1)

-- a part of a row has no deeper terms than the row
drop_depth : (ts : List Term) (n : ℕ) → greatest_depth (trees (drop n ts)) ≤ greatest_depth (trees ts)
drop_depth [] zero = omega arith
drop_depth [] (suc n) = omega arith
drop_depth (t ∷ ts) zero = omega arith
drop_depth (t ∷ ts) (suc n) = omega (arith, drop_depth ts n)

-- of two parts of a row, the one that begins later
pub drop_depth-later : (ts : List Term) (m n : ℕ) → m ≤ n →
    greatest_depth (trees (drop n ts)) ≤ greatest_depth (trees (drop m ts))
drop_depth-later ts zero n before = drop_depth ts n
drop_depth-later [] (suc m) zero before = omega arith
drop_depth-later [] (suc m) (suc n) before = omega arith
drop_depth-later (t ∷ ts) (suc m) zero before = omega (arith, before)
drop_depth-later (t ∷ ts) (suc m) (suc n) before = drop_depth-later ts m n (omega arith)

-- what a row shows is as deep as all of it
pub hidden_depth : (items : List Term) (depth last size from hidden : ℕ) → IsPart items depth last size from hidden →
    greatest_depth (trees items) ≤ greatest_depth (trees (drop from items))
hidden_depth items depth last size from hidden part =
    omega (arith, part.depth_is, part.last_has_it, drop_depth-later items from last part.from_before)
