-- All bytes are a text of some terms, or refused for some fault.
use Rattle.std.proofs.Common.{◌≡◌, ℕ, zero, suc, ◌<◌, ◌≤◌, Bool, true, false, List, [], ◌∷◌, length, take, refl, sym, subst, ◌∙◌, arith, true≢false, ◌⊎◌, inl, inr}
use Rattle.std.specs.Str.{chars, IsUtf8, IsValidUpTo, is_utf8}
use Rattle.std.proofs.Math.Seq.{take_all}
use Rattle.std.proofs.lemmas.Bool.{cases_lt}
use Rattle.std.proofs.lemmas.Str.{IsUtf8-nil, IsUtf8-from_is_utf8, is_utf8-from_IsUtf8}
use Rattle.erl_scan.specs.declared.error.Fault.{Fault}
use Rattle.erl_scan.specs.declared.error.Fault.TheVariants.{NotUtf8}
use Rattle.erl_chars.specs.Cursor.{byte_count, offset}
use Rattle.erl_chars.specs.Gaps.{after_gap}
use Rattle.erl_scan.specs.declared.token.Token.{Token}
use Rattle.erl_scan.specs.declared.token.Spot.{Spot}
use Rattle.erl_scan.specs.Tokens.{Next, ends, token, fault, Comes}
use Rattle.erl_scan.proofs.OneWay.{comes_some}
use Rattle.erl_consult.specs.Faults.{spot_part, not_utf8, faults, FaultsFirst, IsJudged, is_text, is_refused}
use Rattle.erl_consult.specs.Steps.{Seen, nothing_seen, Outcome, goes, fails, take_part, Ending, done, cut_short, end_of}
use Rattle.erl_consult.proofs.Joining.{SoFar, so_far-none, so_far-more, sound, fault-from_taking, fault-from_end, text-from_so_far}
use Rattle.erl_scan.proofs.Shorter.{token-less}

-- Characters

-- a token that is faulty by itself
fault-by_itself : (cs left : List ℕ) (held : Seen) (k : Fault) (at : List ℕ) → (so : SoFar cs left held) → Comes (after_gap left) (fault k at) → FaultsFirst cs k (offset (byte_count cs) at)
fault-by_itself cs left held k at so comes = record {
  before = so.before;
  here = after_gap left;
  next = fault k at;
  reached = record { left = left; read = so.read; gap = refl; comes = comes };
  faults = (refl, refl);
  first = sound so.before so.here;
}

judged-by_end : (bytes left : List ℕ) (held : Seen) (end : Ending) → IsUtf8 bytes → SoFar (chars bytes) left held → Comes (after_gap left) ends → end_of held (byte_count (chars bytes)) ≡ end → IsJudged bytes
judged-by_end bytes left held (done ts) utf8 so comes is = is_text ts (text-from_so_far bytes left held ts utf8 so comes is)
judged-by_end bytes left held (cut_short k told) utf8 so comes is =
    is_refused k told (faults utf8 (fault-from_end (chars bytes) left held k told so comes is))

-- that bytes are judged where less than this is left of them
abbrev JudgedBehind : List ℕ → List ℕ → Type 0
JudgedBehind bytes left =
    (rest : List ℕ) (new : Seen) → length rest < length left → SoFar (chars bytes) rest new → IsJudged bytes

judged-by_token : (bytes left : List ℕ) (held : Seen) (s : Spot) (rest : List ℕ) (outcome : Outcome) → IsUtf8 bytes → SoFar (chars bytes) left held → JudgedBehind bytes left → Comes (after_gap left) (token s.what rest) → s.at ≡ offset (byte_count (chars bytes)) (after_gap left) → take_part held (spot_part s) s.at ≡ outcome → IsJudged bytes
judged-by_token bytes left held s rest (goes new) utf8 so behind comes at took =
    behind rest new (token-less left s.what rest comes) (so_far-more (chars bytes) left rest held new s so comes at took)
judged-by_token bytes left held s rest (fails k told) utf8 so behind comes at took =
    is_refused k told (faults utf8 (fault-from_taking (chars bytes) left rest held s k told so comes at took))

abbrev spot_at : Token → ℕ → Spot
spot_at t at = record { what = t; at = at }

judged-by_next : (bytes left : List ℕ) (held : Seen) (next : Next) → IsUtf8 bytes → SoFar (chars bytes) left held → JudgedBehind bytes left → Comes (after_gap left) next → IsJudged bytes
judged-by_next bytes left held ends utf8 so behind comes =
    judged-by_end bytes left held (end_of held (byte_count (chars bytes))) utf8 so comes refl
judged-by_next bytes left held (token t rest) utf8 so behind comes =
    let s = spot_at t (offset (byte_count (chars bytes)) (after_gap left)) in
    judged-by_token bytes left held s rest (take_part held (spot_part s) s.at) utf8 so behind comes refl refl
judged-by_next bytes left held (fault k at) utf8 so behind comes =
    is_refused k (offset (byte_count (chars bytes)) at) (faults utf8 (fault-by_itself (chars bytes) left held k at so comes))

judged-within : (n : ℕ) (bytes left : List ℕ) (held : Seen) → length left < n → IsUtf8 bytes → SoFar (chars bytes) left held → IsJudged bytes
judged-within zero bytes left held less utf8 so = absurd (omega (arith, less))
judged-within (suc n) bytes left held less utf8 so =
    let next = comes_some (after_gap left) in
    judged-by_next bytes left held next.0 utf8 so (λ rest new shorter. judged-within n bytes rest new (omega (arith, less, shorter)) utf8) next.1

judged-utf8 : (bytes : List ℕ) → IsUtf8 bytes → IsJudged bytes
judged-utf8 bytes utf8 =
    judged-within (suc (length (chars bytes))) bytes (chars bytes) nothing_seen (omega arith) utf8 (so_far-none (chars bytes))

-- Bytes

-- that no front of bytes is UTF-8 that is longer than so many of them
abbrev NoneLonger : List ℕ → ℕ → Type 0
NoneLonger bytes n = (m : ℕ) → n < m → IsUtf8 (take m bytes) → ⊥

none_longer-by : (bytes : List ℕ) (n : ℕ) → is_utf8 (take (suc n) bytes) ≡ false → NoneLonger bytes (suc n) → (m : ℕ) → IsUtf8 (take m bytes) → (suc n < m) ⊎ (m ≤ suc n) → n < m → ⊥
none_longer-by bytes n bad none m utf8 (inl above) more = none m above utf8
none_longer-by bytes n bad none m utf8 (inr below) more =
    let same : m ≡ suc n = omega (arith, below, more) in
    true≢false (sym (is_utf8-from_IsUtf8 (take (suc n) bytes) (subst (λ k. IsUtf8 (take k bytes)) same utf8)) ∙ bad)

record ValidUpTo (bytes : List ℕ) : Type 0 where
  told : ℕ
  valid : IsValidUpTo bytes told

-- the longest front that is UTF-8, of those up to so many bytes
front-by : (bytes : List ℕ) (n : ℕ) (b : Bool) → is_utf8 (take (suc n) bytes) ≡ b → suc n < length bytes → NoneLonger bytes (suc n) → (NoneLonger bytes n → ValidUpTo bytes) → ValidUpTo bytes
front-by bytes n true good short none shorter = record {
  told = suc n;
  valid = record { short = short; front = IsUtf8-from_is_utf8 (take (suc n) bytes) good; longest = none };
}
front-by bytes n false bad short none shorter =
    shorter (λ m more utf8. none_longer-by bytes n bad none m utf8 (cases_lt (suc n) m) more)

longest-front : (bytes : List ℕ) (n : ℕ) → n < length bytes → NoneLonger bytes n → ValidUpTo bytes
longest-front bytes zero short none = record { told = 0; valid = record { short = short; front = IsUtf8-nil; longest = none } }
longest-front bytes (suc n) short none =
    front-by bytes n (is_utf8 (take (suc n) bytes)) refl short none (longest-front bytes n (omega (arith, short)))

valid-up_to : (bytes : List ℕ) → (IsUtf8 bytes → ⊥) → ValidUpTo bytes
valid-up_to [] bad = absurd (bad IsUtf8-nil)
valid-up_to (b ∷ bs) bad =
    longest-front (b ∷ bs) (length bs) (omega arith) (λ m more utf8. bad (subst IsUtf8 (take_all m (b ∷ bs) (omega (arith, more))) utf8))

judged-by : (bytes : List ℕ) (b : Bool) → is_utf8 bytes ≡ b → IsJudged bytes
judged-by bytes true good = judged-utf8 bytes (IsUtf8-from_is_utf8 bytes good)
judged-by bytes false is =
    let bad : IsUtf8 bytes → ⊥ = λ utf8. true≢false (sym (is_utf8-from_IsUtf8 bytes utf8) ∙ is) in
    let up_to = valid-up_to bytes bad in
    is_refused NotUtf8 up_to.told (not_utf8 bad refl up_to.valid)

pub judged : (bytes : List ℕ) → IsJudged bytes
judged bytes = judged-by bytes (is_utf8 bytes) refl
