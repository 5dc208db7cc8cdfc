-- One thing comes next in a text, and its tokens are read in one way.
use Rattle.std.proofs.Common.{◌≡◌, ℕ, Bool, true, false, List, [], ◌∷◌, length, refl, sym, ap, ◌∙◌}
use Rattle.std.specs.Prelude.{nat_eq}
use Rattle.erl_chars.specs.Gaps.{after_gap}
use Rattle.erl_chars.specs.Quotes.{Quoted, IsQuoted}
use Rattle.erl_chars.proofs.Characters.{some-reading}
use Rattle.erl_scan.specs.declared.token.Spot.{Spot}
use Rattle.erl_scan.specs.declared.token.Token.{Token}
use Rattle.erl_scan.specs.Tokens.{Next, ends, token, atom_next, double_quoted, plain_next, NextBy, Comes, ComesOne, ReadsOne}

-- what stands between quotes is read in one way
abbrev pub QuotedOne : Type 0
QuotedOne = (quote : ℕ) (cs : List ℕ) (one other : Quoted) → IsQuoted quote cs one → IsQuoted quote cs other → one ≡ other

next_one : QuotedOne → (single double : Bool) (c : ℕ) (cs : List ℕ) (one other : Next) → NextBy single double c cs one → NextBy single double c cs other → one ≡ other
next_one quoted true double c cs one other p q =
    p.2 ∙ ap (atom_next (c ∷ cs)) (quoted 39 cs p.0 q.0 p.1 q.1) ∙ sym q.2
next_one quoted false true c cs one other p q =
    p.2 ∙ ap (double_quoted (c ∷ cs) cs) (quoted 34 cs p.0 q.0 p.1 q.1) ∙ sym q.2
next_one quoted false false c cs one other p q = p ∙ sym q

pub comes_one : QuotedOne → ComesOne
comes_one quoted [] one other p q = p ∙ sym q
comes_one quoted (c ∷ cs) one other p q = next_one quoted (nat_eq c 39) (nat_eq c 34) c cs one other p q

next_some : (single double : Bool) (c : ℕ) (cs : List ℕ) → (next : Next) × NextBy single double c cs next
next_some true double c cs = let q = some-reading 39 cs in (atom_next (c ∷ cs) q.0, (q.0, q.1, refl))
next_some false true c cs = let q = some-reading 34 cs in (double_quoted (c ∷ cs) cs q.0, (q.0, q.1, refl))
next_some false false c cs = (plain_next c cs, refl)

-- whatever the characters, something comes next
pub comes_some : (cs : List ℕ) → (next : Next) × Comes cs next
comes_some [] = (ends, refl)
comes_some (c ∷ cs) = next_some (nat_eq c 39) (nat_eq c 34) c cs

abbrev pub spot : Token → ℕ → Spot
spot what at = record { what = what; at = at }

pub reads_one : QuotedOne → ReadsOne
reads_one quoted total cs [] [] rest left p q same = (refl, sym p ∙ q)
reads_one quoted total cs [] (t ∷ ts) rest left p q same = cc
reads_one quoted total cs (s ∷ ss) [] rest left p q same = cc
reads_one quoted total cs (s ∷ ss) (t ∷ ts) rest left p q same =
    let next : token s.what p.0 ≡ token t.what q.0 = comes_one quoted (after_gap cs) (token s.what p.0) (token t.what q.0) p.1 q.1 in
    let what : s.what ≡ t.what = cc in
    let more : p.0 ≡ q.0 = cc in
    let at : s.at ≡ t.at = p.2 ∙ sym q.2 in
    let first : s ≡ t = ap (λ w. spot w s.at) what ∙ ap (λ a. spot t.what a) at in
    let lengths : length ss ≡ length ts = cc in
    let tail = reads_one quoted total p.0 ss ts rest left p.3 (rw (← more) at q.3) lengths in
    (rw (first, tail.0) refl, tail.1)
