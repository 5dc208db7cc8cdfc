-- A ghost value as bytes: one writing for each, and no writing is the front of another's, so that what is written one after
-- the other is read back. The first byte tells what follows: 0 nothing, which is the ghost value of no parts; 1 a pair; 2 to
-- 126 a number up to 124, and 127 any other number, in eight digits; 128 and above a pair whose front is a number up to 127.
use Rattle.std.specs.Prelude.{ℕ, ◌+◌, ◌/◌, ◌%◌, ◌^◌, List, [], ◌∷◌, ◌++◌, cond, ltb}
use base.Stored.{Gv, gnil, gnum, gcons}

-- A number's digits in base 256, the lowest first, before others. There are eight, and the last is all that is left, which
-- is less than 256 where the number is below 2^64.
abbrev pub digits : ℕ → List ℕ → List ℕ
digits n r =
    (n % 256) ∷ (n / 2 ^ 8 % 256) ∷ (n / 2 ^ 16 % 256) ∷ (n / 2 ^ 24 % 256) ∷
    (n / 2 ^ 32 % 256) ∷ (n / 2 ^ 40 % 256) ∷ (n / 2 ^ 48 % 256) ∷ (n / 2 ^ 56) ∷ r

-- a number's bytes before others
abbrev pub number : ℕ → List ℕ → List ℕ
number n r = cond (ltb n 125) ((n + 2) ∷ r) (127 ∷ digits n r)

-- A pair's bytes before others: by its front, where this is small, and the bytes of what is behind; else the bytes of both.
abbrev pub pair : Gv → List ℕ → List ℕ → List ℕ
pair gnil back both = 1 ∷ both
pair (gnum n) back both = cond (ltb n 128) ((n + 128) ∷ back) (1 ∷ both)
pair (gcons a b) back both = 1 ∷ both

-- a ghost value's bytes before others
abbrev pub flat : Gv → List ℕ → List ℕ
flat gnil r = 0 ∷ r
flat (gnum n) r = number n r
flat (gcons a b) r = pair a (flat b r) (flat a (flat b r))

-- a ghost value's bytes behind others
unfoldable pub written : Gv → List ℕ → List ℕ
written g out = out ++ flat g []
