-- Reading a text: the tokens that were scanned and taken so far, and each way in which it ends.
use Rattle.std.proofs.Common.{◌≡◌, ℕ, Bool, true, false, cond, List, [], ◌∷◌, ◌++◌, length, Some, None, Ok, Err, refl, ap, sym, subst, ◌∙◌, true≢false, ◌⊎◌, inl, inr, eqb, ◌&&◌}
use Rattle.std.specs.Prelude.{Option, nat_lt, Result, MatchResult}
use Rattle.std.specs.Str.{chars, IsUtf8}
use Rattle.erl_scan.specs.declared.error.Fault.{Fault}
use Rattle.erl_scan.specs.declared.error.Fault.TheVariants.{Unsupported, AtomTooLong, Memory}
use Rattle.erl_scan.specs.declared.error.ReadError.{ReadError}
use Rattle.erl_chars.specs.Cursor.{byte_count, offset}
use Rattle.erl_chars.specs.Gaps.{after_gap}
use Rattle.erl_chars.specs.Quotes.{Step, stands, closing, cut, wrong, Quoted, closed, unclosed, bad_escape}
use Rattle.erl_scan.specs.declared.token.Spot.{Spot}
use Rattle.erl_chars.specs.Quotes.{escape}
use Rattle.erl_chars.specs.Chars.{is_digit, is_small, is_name_char, begins_variable, front, after_front}
use Rattle.erl_scan.specs.declared.word.Word.{Word}
use Rattle.erl_scan.specs.declared.token.Token.TheVariants.{Integer, Atom}
use Rattle.erl_scan.specs.Words.{word_of}
use Rattle.erl_scan.specs.Marks.{Marked, mark_in}
use Rattle.erl_scan.specs.Numbers.{Number, whole, real, no_base, number_in}
use Rattle.erl_scan.specs.Tokens.{Next, ends, token, fault, Comes, NextBy, Reads, atom_next, string_next, number_next, escaped_next, character_next, name_next, mark_next, plain_next, ends_form, begins_two_quotes}
use Rattle.erl_scan.specs.Scanner.{IsFault, memory, faulty}
use Rattle.erl_scan.proofs.WholeTexts.{reads-more, byte_count-chars}
use Rattle.erl_term.specs.Tree.{Trees}
use Rattle.erl_consult.specs.Grammar.{start}
use Rattle.erl_consult.specs.Faults.{spot_part, NoneFaults, IsFaulty, FaultsFirst, IsTextOf}
use Rattle.erl_consult.specs.Steps.{Seen, nothing_seen, goes, fails, take_part, done, cut_short, end_of}
use Rattle.erl_consult.proofs.Judging.{none_last, show}
use Rattle.erl_consult.proofs.Reached.{stands-none, stands-next, same_goes, goes-fails}
use Rattle.erl_consult.proofs.Ends.{Somewhere, Goes, it_goes, it_fails, goes_or_fails, faulty-from_fails, sound-from_taken, cut-from_end, text-from_end}

-- These tokens were scanned, and taken one by one: so much of the text's characters is left, and the parser holds this.
pub record SoFar (cs left : List ℕ) (held : Seen) : Type 0 where
  pub before : List Spot
  pub read : Reads (byte_count cs) cs before left
  pub here : Somewhere before
  pub holds : held ≡ show here.whole here.brackets here.last

pub so_far-none : (cs : List ℕ) → SoFar cs cs nothing_seen
so_far-none cs = record {
  before = [];
  read = refl;
  here = record { whole = start; brackets = []; last = none_last; stands = stands-none };
  holds = refl;
}

-- one token more
goes-next : (before : List Spot) (here : Somewhere before) (s : Spot) (new : Seen) → take_part (show here.whole here.brackets here.last) (spot_part s) s.at ≡ goes new → Goes here.whole here.brackets here.last s → (next : Somewhere (before ++ s ∷ [])) × (new ≡ show next.whole next.brackets next.last)
goes-next before here s new e (it_goes v qs q follows) =
    (record { whole = v; brackets = qs; last = q; stands = stands-next before here.whole v here.brackets qs here.last q s here.stands follows }, same_goes new (show v qs q) (sym e ∙ follows.took))
goes-next before here s new e (it_fails k told fails_it) = absurd (goes-fails new k told (sym e ∙ fails_it))

pub so_far-more : (cs left rest : List ℕ) (held new : Seen) (s : Spot) → SoFar cs left held → Comes (after_gap left) (token s.what rest) → s.at ≡ offset (byte_count cs) (after_gap left) → take_part held (spot_part s) s.at ≡ goes new → SoFar cs rest new
so_far-more cs left rest held new s so comes at took =
    let next = goes-next so.before so.here s new (ap (λ h. take_part h (spot_part s) s.at) (sym so.holds) ∙ took) (goes_or_fails so.before so.here.whole so.here.brackets so.here.last s so.here.stands) in
    record {
      before = so.before ++ s ∷ [];
      read = reads-more (byte_count cs) cs left rest so.before s so.read comes at;
      here = next.0;
      holds = next.1;
    }

pub sound : (before : List Spot) → Somewhere before → NoneFaults before
sound before here = sound-from_taken before (show here.whole here.brackets here.last) here.stands.took

-- a token that is faulty where it stands
pub fault-from_taking : (cs left rest : List ℕ) (held : Seen) (s : Spot) (k : Fault) (told : ℕ) → SoFar cs left held → Comes (after_gap left) (token s.what rest) → s.at ≡ offset (byte_count cs) (after_gap left) → take_part held (spot_part s) s.at ≡ fails k told → FaultsFirst cs k told
fault-from_taking cs left rest held s k told so comes at took = record {
  before = so.before;
  here = after_gap left;
  next = token s.what rest;
  reached = record { left = left; read = so.read; gap = refl; comes = comes };
  faults = subst (λ n. IsFaulty so.before (spot_part s) n k told) at (faulty-from_fails so.before so.here.whole so.here.brackets so.here.last s k told so.here.stands (ap (λ h. take_part h (spot_part s) s.at) (sym so.holds) ∙ took));
  first = sound so.before so.here;
}

-- a token that is faulty by itself, or lack of memory
pub fault-from_scanning : (cs left : List ℕ) (held : Seen) (e : ReadError) → SoFar cs left held → IsFault (byte_count cs) (after_gap left) e → (e.kind ≡ Memory) ⊎ FaultsFirst cs e.kind e.at
fault-from_scanning cs left held e so (memory is) = inl is
fault-from_scanning cs left held e so (faulty at comes e_at) = inr (record {
  before = so.before;
  here = after_gap left;
  next = fault e.kind at;
  reached = record { left = left; read = so.read; gap = refl; comes = comes };
  faults = (refl, e_at);
  first = sound so.before so.here;
})

-- the end, where it is a fault
pub fault-from_end : (cs left : List ℕ) (held : Seen) (k : Fault) (told : ℕ) → SoFar cs left held → Comes (after_gap left) ends → end_of held (byte_count cs) ≡ cut_short k told → FaultsFirst cs k told
fault-from_end cs left held k told so comes e = record {
  before = so.before;
  here = after_gap left;
  next = ends;
  reached = record { left = left; read = so.read; gap = refl; comes = comes };
  faults = cut-from_end so.before so.here.whole so.here.brackets so.here.last (byte_count cs) k told so.here.stands (ap (λ h. end_of h (byte_count cs)) (sym so.holds) ∙ e);
  first = sound so.before so.here;
}

-- Where nothing comes, nothing is left

abbrev is_end : Next → Bool
is_end ends = true
is_end (token t rest) = false
is_end (fault k at) = false

either : (b : Bool) (x y : Next) → is_end x ≡ false → is_end y ≡ false → is_end (cond b x y) ≡ false
either true x y x_is y_is = x_is
either false x y x_is y_is = y_is

atom-comes : (here : List ℕ) (q : Quoted) → is_end (atom_next here q) ≡ false
atom-comes here (closed vs rest) = either (nat_lt 255 (length vs)) (fault AtomTooLong here) (token (Atom vs) rest) refl refl
atom-comes here unclosed = refl
atom-comes here (bad_escape at) = refl

string-comes : (here : List ℕ) (q : Quoted) → is_end (string_next here q) ≡ false
string-comes here (closed vs rest) = refl
string-comes here unclosed = refl
string-comes here (bad_escape at) = refl

number-comes : (here : List ℕ) (n : Number) → is_end (number_next here n) ≡ false
number-comes here (whole n rest) = refl
number-comes here (real rest) = refl
number-comes here no_base = refl

escaped-comes : (here : List ℕ) (s : Step) → is_end (escaped_next here s) ≡ false
escaped-comes here (stands c rest) = refl
escaped-comes here (closing rest) = refl
escaped-comes here cut = refl
escaped-comes here wrong = refl

character-comes : (here cs : List ℕ) → is_end (character_next here cs) ≡ false
character-comes here [] = refl
character-comes here (c ∷ cs) =
    either (eqb c 92) (escaped_next (c ∷ cs) (escape cs)) (token (Integer c) cs) (escaped-comes (c ∷ cs) (escape cs)) refl

name-comes : (here name : List ℕ) (w : Option Word) (rest : List ℕ) → is_end (name_next here name w rest) ≡ false
name-comes here name (Some w) rest = refl
name-comes here name None rest = either (nat_lt 255 (length name)) (fault AtomTooLong here) (token (Atom name) rest) refl refl

mark-comes : (here : List ℕ) (m : Option Marked) → is_end (mark_next here m) ≡ false
mark-comes here None = refl
mark-comes here (Some m) = refl

plain-comes : (c : ℕ) (cs : List ℕ) → is_end (plain_next c cs) ≡ false
plain-comes c cs =
    either (is_digit 10 c) _ _ (number-comes (c ∷ cs) (number_in (c ∷ cs))) (either (eqb c 36) _ _ (character-comes (c ∷ cs) cs) (either (is_small c) _ _ (name-comes (c ∷ cs) (c ∷ front is_name_char cs) (word_of (c ∷ front is_name_char cs)) (after_front is_name_char cs)) (either (begins_variable c) _ _ refl (either (eqb c 46 && ends_form cs) _ _ refl (mark-comes (c ∷ cs) (mark_in (c ∷ cs)))))))

begun-comes : (single double : Bool) (c : ℕ) (cs : List ℕ) (next : Next) → NextBy single double c cs next → is_end next ≡ false
begun-comes true double c cs next by = ap is_end by.2 ∙ atom-comes (c ∷ cs) by.0
begun-comes false true c cs next by =
    ap is_end by.2 ∙ either (begins_two_quotes cs) (fault Unsupported (c ∷ cs)) (string_next (c ∷ cs) by.0) refl (string-comes (c ∷ cs) by.0)
begun-comes false false c cs next by = ap is_end by ∙ plain-comes c cs

pub nothing_left : (cs : List ℕ) → Comes cs ends → cs ≡ []
nothing_left [] comes = refl
nothing_left (c ∷ cs) comes = absurd (true≢false (begun-comes (eqb c 39) (eqb c 34) c cs ends comes))

-- the end of a whole text
pub text-from_so_far : (bytes left : List ℕ) (held : Seen) (ts : Trees) → IsUtf8 bytes → SoFar (chars bytes) left held → Comes (after_gap left) ends → end_of held (byte_count (chars bytes)) ≡ done ts → IsTextOf bytes ts
text-from_so_far bytes left held ts utf8 so comes e = record {
  utf8 = utf8;
  spots = so.before;
  left = left;
  read = so.read;
  ended = nothing_left (after_gap left) comes;
  text = text-from_end so.before so.here.whole so.here.brackets so.here.last (byte_count (chars bytes)) ts so.here.stands (ap (λ h. end_of h (byte_count (chars bytes))) (sym so.holds) ∙ e);
}

-- What the parser's loop keeps

pub record Joined (text left : List ℕ) (total : ℕ) (held : Seen) : Type 0 where
  pub so_far : SoFar (chars text) left held
  pub total_is : total ≡ byte_count (chars text)

pub start-reads : (text left : List ℕ) (total : ℕ) (held : Seen) → IsUtf8 text → left ≡ chars text → total ≡ length text → held ≡ nothing_seen → Joined text left total held
start-reads text left total held utf8 left_is total_is held_is = record {
  so_far = subst (λ l. SoFar (chars text) l held) (sym left_is) (subst (SoFar (chars text) (chars text)) (sym held_is) (so_far-none (chars text)));
  total_is = total_is ∙ byte_count-chars text utf8;
}

-- the next token's own fault
pub scan-fault : (text left : List ℕ) (total : ℕ) (held : Seen) (e : ReadError) → Joined text left total held → IsFault total (after_gap left) e → (e.kind ≡ Memory) ⊎ FaultsFirst (chars text) e.kind e.at
scan-fault text left total held e joined is =
    fault-from_scanning (chars text) left held e joined.so_far (subst (λ n. IsFault n (after_gap left) e) joined.total_is is)

-- one token more
pub take-more : (text left rest : List ℕ) (total after : ℕ) (held new : Seen) (s : Spot) → Joined text left total held → Comes (after_gap left) (token s.what rest) × (s.at ≡ offset total (after_gap left)) → take_part held (spot_part s) s.at ≡ goes new → after ≡ total → Joined text rest after new
take-more text left rest total after held new s joined scanned took after_is = record {
  so_far = so_far-more (chars text) left rest held new s joined.so_far scanned.0 (scanned.1 ∙ ap (λ n. offset n (after_gap left)) joined.total_is) took;
  total_is = after_is ∙ joined.total_is;
}

-- a token that is faulty where it stands
pub take-fault : (text left rest : List ℕ) (total : ℕ) (held : Seen) (s : Spot) (e : ReadError) → Joined text left total held → Comes (after_gap left) (token s.what rest) × (s.at ≡ offset total (after_gap left)) → (e.kind ≡ Memory) ⊎ (take_part held (spot_part s) s.at ≡ fails e.kind e.at) → (e.kind ≡ Memory) ⊎ FaultsFirst (chars text) e.kind e.at
take-fault text left rest total held s e joined scanned (inl is) = inl is
take-fault text left rest total held s e joined scanned (inr failed) =
    inr (fault-from_taking (chars text) left rest held s e.kind e.at joined.so_far scanned.0 (scanned.1 ∙ ap (λ n. offset n (after_gap left)) joined.total_is) failed)

-- the end
pub end-joined : {V : Type 0} (terms : V → Trees) (text left : List ℕ) (total : ℕ) (held : Seen) (r : Result V ReadError) → IsUtf8 text → Joined text left total held → Comes (after_gap left) ends → MatchResult r (λ v. end_of held (length text) ≡ done (terms v)) (λ e. end_of held (length text) ≡ cut_short e.kind e.at) → MatchResult r (λ v. IsTextOf text (terms v)) (λ e. (e.kind ≡ Memory) ⊎ FaultsFirst (chars text) e.kind e.at)
end-joined terms text left total held (Ok v) utf8 joined comes e =
    text-from_so_far text left held (terms v) utf8 joined.so_far comes (ap (end_of held) (sym (byte_count-chars text utf8)) ∙ e)
end-joined terms text left total held (Err error) utf8 joined comes e =
    inr (fault-from_end (chars text) left held error.kind error.at joined.so_far comes (ap (end_of held) (sym (byte_count-chars text utf8)) ∙ e))
