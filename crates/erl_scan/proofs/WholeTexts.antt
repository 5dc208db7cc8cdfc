-- A whole text as its tokens: those that were scanned so far, and that there is one list of them and one stop.
use Rattle.std.proofs.Common.{◌≡◌, ℕ, zero, suc, ◌<◌, List, [], ◌∷◌, ◌++◌, length, Some, None, refl, sym, ap, subst, ◌∙◌, arith}
use Rattle.std.specs.Prelude.{Option}
use Rattle.std.specs.Str.{chars, IsUtf8}
use Rattle.std.proofs.lemmas.Str.{encodes-chars}
use Rattle.erl_scan.specs.declared.error.Fault.{Fault}
use Rattle.erl_scan.specs.declared.error.Fault.TheVariants.{Memory}
use Rattle.erl_scan.specs.declared.error.ReadError.{ReadError}
use Rattle.erl_chars.specs.Cursor.{byte_count, offset}
use Rattle.erl_chars.specs.Gaps.{after_gap}
use Rattle.erl_scan.specs.declared.token.Spot.{Spot}
use Rattle.erl_scan.specs.declared.token.Token.{Token}
use Rattle.erl_scan.specs.Tokens.{Next, ends, token, fault, Comes, Reads}
use Rattle.erl_scan.specs.Scan.{IsStop, IsScanOf, HasOneScan}
use Rattle.erl_scan.specs.Scanner.{IsFault, memory, faulty}
use Rattle.erl_scan.proofs.OneWay.{QuotedOne, spot, comes_one, comes_some}
use Rattle.erl_scan.proofs.Shorter.{token-less}

-- The tokens so far

-- one token more
pub reads-more : (total : ℕ) (cs left rest : List ℕ) (before : List Spot) (s : Spot) → Reads total cs before left → Comes (after_gap left) (token s.what rest) → s.at ≡ offset total (after_gap left) → Reads total cs (before ++ s ∷ []) rest
reads-more total cs left rest [] s read comes at =
    (rest, subst (λ l. Comes (after_gap l) (token s.what rest)) (sym read) comes, at ∙ ap (λ l. offset total (after_gap l)) (sym read), refl)
reads-more total cs left rest (b ∷ bs) s (more, first, b_at, later) comes at =
    (more, first, b_at, reads-more total more left rest bs s later comes at)

-- These tokens come first in a text of bytes, of which so much is left behind them.
pub record SoFar (text left : List ℕ) (total : ℕ) (tokens : List Spot) : Type 0 where
  pub read : Reads (byte_count (chars text)) (chars text) tokens left
  pub total_is : total ≡ byte_count (chars text)

-- the bytes of a text are those of its characters
pub byte_count-chars : (text : List ℕ) → IsUtf8 text → length text ≡ byte_count (chars text)
unfolding byte_count
byte_count-chars text utf8 = sym (ap length (encodes-chars text utf8))

pub so_far-none : (text left : List ℕ) (total : ℕ) (tokens : List Spot) → IsUtf8 text → left ≡ chars text → total ≡ length text → tokens ≡ [] → SoFar text left total tokens
so_far-none text left total tokens utf8 left_is total_is none = record {
  read = rw none (sym left_is);
  total_is = total_is ∙ byte_count-chars text utf8;
}

pub so_far-more : (text left rest : List ℕ) (total after : ℕ) (old new : List Spot) (s : Spot) → SoFar text left total old → Comes (after_gap left) (token s.what rest) × (s.at ≡ offset total (after_gap left)) → new ≡ old ++ s ∷ [] → after ≡ total → SoFar text rest after new
so_far-more text left rest total after old new s so scanned pushed after_is = record {
  read = rw pushed (reads-more (byte_count (chars text)) (chars text) left rest old s so.read scanned.0 (scanned.1 ∙ ap (λ n. offset n (after_gap left)) so.total_is));
  total_is = after_is ∙ so.total_is;
}

-- Where the tokens stop

faulty-stops : (whole total : ℕ) (here : List ℕ) (e : ReadError) → whole ≡ total → IsFault whole here e → (e.kind ≡ Memory → ⊥) → IsStop total here (Some e)
faulty-stops whole total here e same (memory is) other = absurd (other is)
faulty-stops whole total here e same (faulty at comes told) other =
    (at, comes, told ∙ ap (λ n. offset n at) same)

pub scan-faulty : (text left : List ℕ) (total : ℕ) (tokens : List Spot) (e : ReadError) → SoFar text left total tokens → IsFault total (after_gap left) e → (e.kind ≡ Memory → ⊥) → IsScanOf (chars text) tokens (Some e)
scan-faulty text left total tokens e so is other = record {
  left = left;
  read = so.read;
  stops = faulty-stops total (byte_count (chars text)) (after_gap left) e so.total_is is other;
}

-- Some scan

-- The tokens of what is left of a text of so many bytes, and what stops them.
record Scan (total : ℕ) (cs : List ℕ) : Type 0 where
  tokens : List Spot
  stop : Option ReadError
  left : List ℕ
  read : Reads total cs tokens left
  stops : IsStop total (after_gap left) stop

abbrev error : Fault → ℕ → ReadError
error kind at = record { kind = kind; at = at }

-- by what comes next, where whatever is left behind a token has a scan
scan-by : (total : ℕ) (cs : List ℕ) (next : Next) → Comes (after_gap cs) next → ((more : List ℕ) → length more < length cs → Scan total more) → Scan total cs
scan-by total cs ends comes behind = record { tokens = []; stop = None; left = cs; read = refl; stops = comes }
scan-by total cs (token t rest) comes behind =
    let later : Scan total rest = behind rest (token-less cs t rest comes) in
    record {
      tokens = spot t (offset total (after_gap cs)) ∷ later.tokens;
      stop = later.stop;
      left = later.left;
      read = (rest, comes, refl, later.read);
      stops = later.stops;
    }
scan-by total cs (fault kind at) comes behind = record {
  tokens = [];
  stop = Some (error kind (offset total at));
  left = cs;
  read = refl;
  stops = (at, comes, refl);
}

scan-within : (n total : ℕ) (cs : List ℕ) → length cs < n → Scan total cs
scan-within zero total cs less = absurd (omega (arith, less))
scan-within (suc n) total cs less =
    let next = comes_some (after_gap cs) in
    scan-by total cs next.0 next.1 (λ more shorter. scan-within n total more (omega (arith, less, shorter)))

-- One scan

stop_one : QuotedOne → (total : ℕ) (here : List ℕ) (one other : Option ReadError) → IsStop total here one → IsStop total here other → one ≡ other
stop_one quoted total here None None p q = refl
stop_one quoted total here None (Some f) p q =
    let next : ends ≡ fault f.kind q.0 = comes_one quoted here ends (fault f.kind q.0) p q.1 in
    cc
stop_one quoted total here (Some e) None p q =
    let next : fault e.kind p.0 ≡ ends = comes_one quoted here (fault e.kind p.0) ends p.1 q in
    cc
stop_one quoted total here (Some e) (Some f) p q =
    let next : fault e.kind p.0 ≡ fault f.kind q.0 = comes_one quoted here (fault e.kind p.0) (fault f.kind q.0) p.1 q.1 in
    let kind : e.kind ≡ f.kind = cc in
    let told : p.0 ≡ q.0 = cc in
    let at : e.at ≡ f.at = p.2 ∙ (ap (offset total) told ∙ sym q.2) in
    let same : e ≡ f = ap (λ k. error k e.at) kind ∙ ap (λ a. error f.kind a) at in
    ap (λ x. Some x) same

-- where the tokens stop comes no token
no_token : QuotedOne → (total : ℕ) (here : List ℕ) (stop : Option ReadError) (t : Token) (rest : List ℕ) → IsStop total here stop → Comes here (token t rest) → ⊥
no_token quoted total here None t rest p q =
    let next : ends ≡ token t rest = comes_one quoted here ends (token t rest) p q in
    cc
no_token quoted total here (Some e) t rest p q =
    let next : fault e.kind p.0 ≡ token t rest = comes_one quoted here (fault e.kind p.0) (token t rest) p.1 q in
    cc

scans_one : QuotedOne → (total : ℕ) (cs : List ℕ) (one other : List Spot) (left rest : List ℕ) (stop halt : Option ReadError) → Reads total cs one left → IsStop total (after_gap left) stop → Reads total cs other rest → IsStop total (after_gap rest) halt → (one ≡ other) × (stop ≡ halt)
scans_one quoted total cs [] [] left rest stop halt p stops q halts =
    (refl, stop_one quoted total (after_gap cs) stop halt (subst (λ l. IsStop total (after_gap l) stop) (sym p) stops) (subst (λ l. IsStop total (after_gap l) halt) (sym q) halts))
scans_one quoted total cs [] (t ∷ ts) left rest stop halt p stops q halts = absurd (no_token quoted total (after_gap cs) stop t.what q.0 (subst (λ l. IsStop total (after_gap l) stop) (sym p) stops) q.1)
scans_one quoted total cs (s ∷ ss) [] left rest stop halt p stops q halts = absurd (no_token quoted total (after_gap cs) halt s.what p.0 (subst (λ l. IsStop total (after_gap l) halt) (sym q) halts) p.1)
scans_one quoted total cs (s ∷ ss) (t ∷ ts) left rest stop halt p stops q halts =
    let next : token s.what p.0 ≡ token t.what q.0 = comes_one quoted (after_gap cs) (token s.what p.0) (token t.what q.0) p.1 q.1 in
    let what : s.what ≡ t.what = cc in
    let more : p.0 ≡ q.0 = cc in
    let at : s.at ≡ t.at = p.2 ∙ sym q.2 in
    let first : s ≡ t = ap (λ w. spot w s.at) what ∙ ap (λ a. spot t.what a) at in
    let later = scans_one quoted total p.0 ss ts left rest stop halt p.3 stops (rw (← more) at q.3) halts in
    (rw (first, later.0) refl, later.1)

pub one_scan : QuotedOne → (cs : List ℕ) → HasOneScan cs
one_scan quoted cs =
    let some : Scan (byte_count cs) cs = scan-within (suc (length cs)) (byte_count cs) cs (omega arith) in
    record {
      tokens = some.tokens;
      stop = some.stop;
      is = record { left = some.left; read = some.read; stops = some.stops };
      only = λ ts s is. scans_one quoted (byte_count cs) cs ts some.tokens is.left some.left s some.stop is.read is.stops some.read some.stops;
    }
