-- Before the point of no return an instruction of a script that was checked reads object code, or applies a function of a module
-- other than `application`. So it leaves applications as they are.
use Rattle.std.proofs.Common.{◌≡◌, ◌+◌, ◌<◌, ℕ, zero, suc, Bool, true, false, not, cond, if◌then◌else◌, List, [], ◌∷◌, codes, get_or, length, take, slice_get, zero-add, Option, None, Some, refl, sym, ap, ◌∙◌, arith}
use Rattle.std.proofs.lemmas.Bool.{not-false, or_parts, true≢false}
use Rattle.std.proofs.lemmas.List.Folds.{list_any_more}
use Rattle.std.proofs.lemmas.List.FromFn.{get_or-range_with_len, length-range_with_len}
use Rattle.std.proofs.lemmas.Option.{none-some, slice_get_within}
use Rattle.std.specs.List.{find, range_with_len}
use Rattle.std.specs.Str.{bytes_eq}
use Rattle.low_instructions.specs.declared.low.Low.{Low}
use Rattle.low_instructions.specs.declared.low.Low.TheVariants.{LoadObjectCode, PointOfNoReturn, Load, Apply}
use Rattle.process_effects.specs.declared.told.Reply.{Reply}
use Rattle.release_table.specs.declared.table.Release.{Release}
use Rattle.script_checks.specs.Checks.{any_faulty, bad_script, has_point, is_faulty, is_faulty_at, is_point, is_read, or_missing}
use Rattle.script_runner.specs.Instructions.{RunsInstruction}
use Rattle.script_runner.specs.Parts.{Parts}

-- No instruction of a script that was checked is faulty.

none_first : {A : Type 0} (b : Bool) (x : A) (o : Option A) → cond b (Some x) o ≡ None → (b ≡ false) × (o ≡ None)
none_first true x o is = absurd (none-some x (sym is))
none_first false x o is = (refl, is)

none_at : {A : Type 0} (test : A → Bool) (xs : List A) → find test xs ≡ None → (k : ℕ) (d : A) → k < length xs →
    test (get_or xs k d) ≡ false
none_at test [] none k d below = absurd (omega (arith, below))
none_at test (x ∷ xs) none zero d below = (none_first (test x) x (find test xs) none).0
none_at test (x ∷ xs) none (suc k) d below =
    none_at test xs (none_first (test x) x (find test xs) none).1 k d (omega (arith, below))

none_missing : (o : Option ℕ) (script : List Low) → or_missing o script ≡ None → o ≡ None
none_missing None script is = refl
none_missing (Some index) script is = absurd (none-some index (sym is))

faultless : (script : List Low) (index : ℕ) (i : Low) → bad_script script ≡ None → slice_get script index ≡ Some i →
    is_faulty (take index script) i ≡ false
faultless script index i checked at =
    let n = length script in
    let within = slice_get_within script index i at in
    let none = none_missing (find (is_faulty_at script) (range_with_len 0 n)) script checked in
    let below : index < length (range_with_len 0 n) = omega (arith, within, length-range_with_len 0 n) in
    let it = get_or-range_with_len 0 n index index within ∙ zero-add index in
    let fine = none_at (is_faulty_at script) (range_with_len 0 n) none index index below in
    sym (ap (any_faulty (take index script)) at) ∙ ap (is_faulty_at script) (sym it) ∙ fine

-- the point stands neither before an instruction nor there, where it isn't among the instructions up to it
no_point : (script : List Low) (index : ℕ) (i : Low) → slice_get script index ≡ Some i →
    has_point (take (index + 1) script) ≡ false → has_point (take index script) ≡ false
no_point script index i at none =
    let more = list_any_more is_point script index i (slice_get_within script index i at) in
    (or_parts (has_point (take index script)) (is_point (get_or script index i)) (sym more ∙ none)).0

-- What it does leaves applications as they are.

behind : (b : Bool) → b ≡ false → not b ≡ false → ⊥
behind b before not_before = true≢false (sym (not-false b not_before) ∙ before)

-- of a module other than `application`
is_other : (b past : Bool) → past ≡ false → (if b then not past else false) ≡ false → b ≡ false
is_other true past before fine = absurd (behind past before fine)
is_other false past before fine = refl

leaves : (before : List Low) (r : Release) (i : Low) (p q : Parts) (told : List Reply) → has_point before ≡ false →
    is_faulty before i ≡ false → RunsInstruction r i p q told → q.apps ≡ p.apps
leaves before r (LoadObjectCode app vsn ms) p q told none fine does = ap (λ (it : Parts). it.apps) does.1
leaves before r PointOfNoReturn p q told none fine does = ap (λ (it : Parts). it.apps) does.0
leaves before r (Load m pre post) p q told none fine does =
    let first = (or_parts (not (has_point before)) (not (is_read m before)) fine).0 in
    absurd (behind (has_point before) none first)
leaves before r (Apply m f args) p q told none fine (s, is, applied) =
    let other = is_other (bytes_eq m (codes "application")) (has_point before) none fine in
    ap (λ (it : Parts). it.apps) is ∙ (rw other at applied).1
leaves before r _ p q told none fine does = absurd (behind (has_point before) none fine)

pub record IsBefore (script : List Low) (index : ℕ) (p q : Parts) : Type 0 where
  pub point : has_point (take index script) ≡ false
  pub apps : q.apps ≡ p.apps

pub before_point : (r : Release) (script : List Low) (index : ℕ) (i : Low) (p q : Parts) (told : List Reply) →
    bad_script script ≡ None → slice_get script index ≡ Some i → has_point (take (index + 1) script) ≡ false →
    RunsInstruction r i p q told → IsBefore script index p q
before_point r script index i p q told checked at none does =
    let before = no_point script index i at none in
    record {
      point = before;
      apps = leaves (take index script) r i p q told before (faultless script index i checked at) does;
    }
