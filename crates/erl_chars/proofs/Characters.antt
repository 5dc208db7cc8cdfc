-- Lemmas on characters between quotes, and on escapes.
use Rattle.std.proofs.Common.{◌≡◌, ℕ, zero, suc, ◌<◌, ◌≤◌, Bool, true, false, ◌&&◌, ◌==◌, cond, List, [], ◌∷◌, ◌++◌, length, length-drop, ap, sym, ◌∙◌, refl, arith}
use Rattle.std.specs.Str.Parse.{digits_value}
use Rattle.std.proofs.lemmas.Bool.{cond_both}
use lib.Utf8.{scalar}
use Rattle.erl_chars.specs.Chars.{is_digit, front, after_front}
use Rattle.erl_chars.specs.Quotes.{Step, stands, closing, cut, wrong, named, octal, braced, two_digits, hexadecimal, control, escape, character, Written, Quoted, closed, unclosed, bad_escape, IsQuoted}

-- Quotes

-- that a step is no character
abbrev IsEnd : Step → Type 0
IsEnd (stands v more) = ⊥
IsEnd (closing rest) = Unit {0}
IsEnd cut = Unit {0}
IsEnd wrong = Unit {0}

abbrev SameEnd : List ℕ → List ℕ → List ℕ → List ℕ → Type 0
SameEnd vs ws here there = (vs ≡ ws) × (here ≡ there)

not-end : (s : Step) (v : ℕ) (more : List ℕ) → IsEnd s → s ≡ stands v more → ⊥
not-end (stands w rest) v more end is = end
not-end (closing rest) v more end is = cc
not-end cut v more end is = cc
not-end wrong v more end is = cc

-- characters up to an end are read in one way only
one-end : (quote : ℕ) (cs vs ws here there : List ℕ) → Written quote cs vs here → Written quote cs ws there → IsEnd (character quote here) → IsEnd (character quote there) → SameEnd vs ws here there
one-end quote cs [] [] here there one other end1 end2 = (refl, sym one ∙ other)
one-end quote cs [] (w ∷ ws) here there one other end1 end2 = absurd (not-end (character quote here) w other.0 end1 (ap (character quote) (sym one) ∙ other.1))
one-end quote cs (v ∷ vs) [] here there one other end1 end2 = absurd (not-end (character quote there) v one.0 end2 (ap (character quote) (sym other) ∙ one.1))
one-end quote cs (v ∷ vs) (w ∷ ws) here there one other end1 end2 =
    let same : stands v one.0 ≡ stands w other.0 = sym one.1 ∙ other.1 in
    let head : v ≡ w = cc in
    let tail : one.0 ≡ other.0 = cc in
    let rest = one-end quote one.0 vs ws here there one.2 (rw tail other.2) end1 end2 in
    (cc, rest.1)

end-closing : (s : Step) (rest : List ℕ) → s ≡ closing rest → IsEnd s
end-closing s rest is = rw is tt

end-cut : (s : Step) → s ≡ cut → IsEnd s
end-cut s is = rw is tt

end-wrong : (s : Step) → s ≡ wrong → IsEnd s
end-wrong s is = rw is tt

pub one-reading : (quote : ℕ) (cs : List ℕ) (one other : Quoted) → IsQuoted quote cs one → IsQuoted quote cs other → one ≡ other
one-reading quote cs (closed vs rest) (closed ws last) h k =
    let same = one-end quote cs vs ws h.0 k.0 h.1 k.1 (end-closing (character quote h.0) rest h.2) (end-closing (character quote k.0) last k.2) in
    let step : closing rest ≡ closing last = sym h.2 ∙ (ap (character quote) same.1 ∙ k.2) in
    let values = same.0 in
    cc
one-reading quote cs (closed vs rest) unclosed h k =
    let same = one-end quote cs vs k.0 h.0 k.1 h.1 k.2 (end-closing (character quote h.0) rest h.2) (end-cut (character quote k.1) k.3) in
    let step : closing rest ≡ cut = sym h.2 ∙ (ap (character quote) same.1 ∙ k.3) in
    cc
one-reading quote cs (closed vs rest) (bad_escape there) h k =
    let same = one-end quote cs vs k.0 h.0 there h.1 k.1 (end-closing (character quote h.0) rest h.2) (end-wrong (character quote there) k.2) in
    let step : closing rest ≡ wrong = sym h.2 ∙ (ap (character quote) same.1 ∙ k.2) in
    cc
one-reading quote cs unclosed (closed ws last) h k =
    let same = one-end quote cs h.0 ws h.1 k.0 h.2 k.1 (end-cut (character quote h.1) h.3) (end-closing (character quote k.0) last k.2) in
    let step : cut ≡ closing last = sym h.3 ∙ (ap (character quote) same.1 ∙ k.2) in
    cc
one-reading quote cs unclosed unclosed h k = refl
one-reading quote cs unclosed (bad_escape there) h k =
    let same = one-end quote cs h.0 k.0 h.1 there h.2 k.1 (end-cut (character quote h.1) h.3) (end-wrong (character quote there) k.2) in
    let step : cut ≡ wrong = sym h.3 ∙ (ap (character quote) same.1 ∙ k.2) in
    cc
one-reading quote cs (bad_escape here) (closed ws last) h k =
    let same = one-end quote cs h.0 ws here k.0 h.1 k.1 (end-wrong (character quote here) h.2) (end-closing (character quote k.0) last k.2) in
    let step : wrong ≡ closing last = sym h.2 ∙ (ap (character quote) same.1 ∙ k.2) in
    cc
one-reading quote cs (bad_escape here) unclosed h k =
    let same = one-end quote cs h.0 k.0 here k.1 h.1 k.2 (end-wrong (character quote here) h.2) (end-cut (character quote k.1) k.3) in
    let step : wrong ≡ cut = sym h.2 ∙ (ap (character quote) same.1 ∙ k.3) in
    cc
one-reading quote cs (bad_escape here) (bad_escape there) h k =
    ap bad_escape (one-end quote cs h.0 k.0 here there h.1 k.1 (end-wrong (character quote here) h.2) (end-wrong (character quote there) k.2)).1

-- one character more
pub Written-more : (quote : ℕ) (cs vs here more : List ℕ) (v : ℕ) → Written quote cs vs here → character quote here ≡ stands v more → Written quote cs (vs ++ v ∷ []) more
Written-more quote cs [] here more v written is = (more, ap (character quote) written ∙ is, refl)
Written-more quote cs (w ∷ ws) here more v written is = (written.0, written.1, Written-more quote written.0 ws here more v written.2 is)

-- What is left

-- that what is left behind a character has at most so many
abbrev NoLonger : ℕ → Step → Type 0
NoLonger n (stands v more) = length more ≤ n
NoLonger n (closing rest) = Unit {0}
NoLonger n cut = Unit {0}
NoLonger n wrong = Unit {0}

no-longer-either : (n : ℕ) (b : Bool) (s t : Step) → NoLonger n s → NoLonger n t → NoLonger n (cond b s t)
no-longer-either n true s t left right = left
no-longer-either n false s t left right = right

no-longer-more : (n m : ℕ) (s : Step) → n ≤ m → NoLonger n s → NoLonger m s
no-longer-more n m (stands v more) le h = omega arith
no-longer-more n m (closing rest) le h = tt
no-longer-more n m cut le h = tt
no-longer-more n m wrong le h = tt

after_front-length : (p : ℕ → Bool) (cs : List ℕ) → length (after_front p cs) ≤ length cs
after_front-length p [] = omega arith
after_front-length p (c ∷ cs) =
    let less = after_front-length p cs in
    cond_both (p c) (after_front p cs) (c ∷ cs) (λ rest. length rest ≤ suc (length cs)) (λ e. omega arith) (λ e. omega arith)

octal-length : (c : ℕ) (cs : List ℕ) → NoLonger (length cs) (octal c cs)
octal-length c cs = simp length-drop (omega arith)

two_digits-length : (c : ℕ) (cs : List ℕ) → NoLonger (length cs) (two_digits c cs)
two_digits-length c [] = tt
two_digits-length c (d ∷ cs) =
    no-longer-either (suc (length cs)) (is_digit 16 d) (stands (digits_value 16 (c ∷ d ∷ [])) cs) wrong (omega arith) tt

braced-length : (ds cs : List ℕ) → NoLonger (length cs) (braced ds cs)
braced-length ds [] = tt
braced-length [] (c ∷ cs) = tt
braced-length (d ∷ ds) (c ∷ cs) =
    no-longer-either (suc (length cs)) ((c == 125) && scalar (digits_value 16 (d ∷ ds))) (stands (digits_value 16 (d ∷ ds)) cs) wrong (omega arith) tt

hexadecimal-length : (cs : List ℕ) → NoLonger (length cs) (hexadecimal cs)
hexadecimal-length [] = tt
hexadecimal-length (c ∷ cs) =
    let n = suc (length cs) in
    let p = is_digit 16 in
    let rest = after_front p cs in
    let shorter = after_front-length p cs in
    let inside = no-longer-more (length rest) n (braced (front p cs) rest) (omega arith) (braced-length (front p cs) rest) in
    let two = no-longer-more (length cs) n (two_digits c cs) (omega arith) (two_digits-length c cs) in
    no-longer-either n (c == 123) (braced (front p cs) rest) (cond (p c) (two_digits c cs) wrong) inside (no-longer-either n (p c) (two_digits c cs) wrong two tt)

control-length : (cs : List ℕ) → NoLonger (length cs) (control cs)
control-length [] = tt
control-length (c ∷ cs) = omega arith

escape-length : (cs : List ℕ) → NoLonger (length cs) (escape cs)
escape-length [] = tt
escape-length (c ∷ cs) =
    let step = cond (c == 120) (hexadecimal cs) (cond (c == 94) (control cs) (stands (named c) cs)) in
    let kinds = no-longer-either (length cs) (c == 120) (hexadecimal cs) (cond (c == 94) (control cs) (stands (named c) cs)) (hexadecimal-length cs) (no-longer-either (length cs) (c == 94) (control cs) (stands (named c) cs) (control-length cs) (omega arith)) in
    no-longer-more (length cs) (suc (length cs)) (cond (is_digit 8 c) (octal c cs) step) (omega arith) (no-longer-either (length cs) (is_digit 8 c) (octal c cs) step (octal-length c cs) kinds)

character-length : (quote c : ℕ) (cs : List ℕ) → NoLonger (length cs) (character quote (c ∷ cs))
character-length quote c cs =
    let step = cond (c == 92) (escape cs) (stands c cs) in
    no-longer-either (length cs) (c == quote) (closing cs) step tt (no-longer-either (length cs) (c == 92) (escape cs) (stands c cs) (escape-length cs) (omega arith))

-- a character takes one character of the text or more
pub character-shorter : (quote v : ℕ) (cs more : List ℕ) → character quote cs ≡ stands v more → length more < length cs
character-shorter quote v [] more is = cc
character-shorter quote v (c ∷ cs) more is =
    let le : length more ≤ length cs = rw is at (character-length quote c cs) in
    omega arith

-- Quotes have a reading

-- a character before a reading makes one
reading-more : (quote v : ℕ) (cs more : List ℕ) (q : Quoted) → character quote cs ≡ stands v more → IsQuoted quote more q → (p : Quoted) × IsQuoted quote cs p
reading-more quote v cs more (closed vs rest) is h = (closed (v ∷ vs) rest, (h.0, (more, is, h.1), h.2))
reading-more quote v cs more unclosed is h = (unclosed, (v ∷ h.0, h.1, (more, is, h.2), h.3))
reading-more quote v cs more (bad_escape here) is h = (bad_escape here, (v ∷ h.0, (more, is, h.1), h.2))

-- by what the characters begin with, where whatever is left behind a character has a reading
reading-by : (quote : ℕ) (cs : List ℕ) (s : Step) → character quote cs ≡ s → ((more : List ℕ) → length more < length cs → (q : Quoted) × IsQuoted quote more q) → (q : Quoted) × IsQuoted quote cs q
reading-by quote cs (stands v more) is behind =
    let q = behind more (character-shorter quote v cs more is) in
    reading-more quote v cs more q.0 is q.1
reading-by quote cs (closing rest) is behind = (closed [] rest, (cs, refl, is))
reading-by quote cs cut is behind = (unclosed, ([], cs, refl, is))
reading-by quote cs wrong is behind = (bad_escape cs, ([], refl, is))

reading-within : (n quote : ℕ) (cs : List ℕ) → length cs < n → (q : Quoted) × IsQuoted quote cs q
reading-within zero quote cs less = absurd (omega (arith, less))
reading-within (suc n) quote cs less =
    reading-by quote cs (character quote cs) refl (λ more shorter. reading-within n quote more (omega (arith, less, shorter)))

-- whatever the characters, quotes close, or the text ends first, or an escape is none
pub some-reading : (quote : ℕ) (cs : List ℕ) → (q : Quoted) × IsQuoted quote cs q
some-reading quote cs = reading-within (suc (length cs)) quote cs (omega arith)
