-- The processes that live, in order of pid, and those of them that use an instance.
use Rattle.std.proofs.Common.{◌≡◌, ℕ, suc, ◌+◌, Bool, true, false, cond, List, [], ◌∷◌, length, map, Option, None, Some, refl, sym, ap, ◌∙◌, arith, zero-add}
use Rattle.std.specs.List.{filter, range_with_len}
use Rattle.process_index.specs.Standing.{alive, alive_from}
use Rattle.process_store.specs.declared.living.ProcessEntry.{ProcessEntry}
use Rattle.process_store.specs.Table.{Table, living, living_at}
use Rattle.process_effects.specs.Uses.{users, uses}

-- those of the processes that live whom a test passes
abbrev pub passing : (Option ProcessEntry → Bool) → List (ℕ × ProcessEntry) → List ℕ
passing test es = map (λ e. e.0) (filter (λ e. test (Some e.1)) es)

-- they are the pids whose processes pass

one_less : (test : Option ProcessEntry → Bool) (b : Bool) (pid : ℕ) (l : ProcessEntry) (pids : List ℕ) (es : List (ℕ × ProcessEntry)) → pids ≡ passing test es → cond b (pid ∷ pids) pids ≡ map (λ e. e.0) (cond b ((pid, l) ∷ filter (λ e. test (Some e.1)) es) (filter (λ e. test (Some e.1)) es))
one_less test true pid l pids es is = ap (λ xs. pid ∷ xs) is
one_less test false pid l pids es is = is

passing_from : (test : Option ProcessEntry → Bool) → test None ≡ false → (look : ℕ → Option ProcessEntry) (from : ℕ) (slots : List (Option ProcessEntry)) → ((k : ℕ) → look (from + k) ≡ living_at slots k) → filter (λ pid. test (look pid)) (range_with_len from (length slots)) ≡ passing test (alive_from from slots)
passing_from test none look from [] there = refl
passing_from test none look from (None ∷ slots) there =
    let here : look from ≡ None = ap look (omega arith) ∙ there 0 in
    let next : from + 1 ≡ suc from = omega arith in
    ap (λ b. cond b (from ∷ filter (λ pid. test (look pid)) (range_with_len (from + 1) (length slots))) (filter (λ pid. test (look pid)) (range_with_len (from + 1) (length slots)))) (ap test here ∙ none)
    ∙ ap (λ n. filter (λ pid. test (look pid)) (range_with_len n (length slots))) next
    ∙ passing_from test none look (suc from) slots (λ k. ap look (omega arith) ∙ there (suc k))
passing_from test none look from (Some l ∷ slots) there =
    let here : look from ≡ Some l = ap look (omega arith) ∙ there 0 in
    let next : from + 1 ≡ suc from = omega arith in
    ap (λ b. cond b (from ∷ filter (λ pid. test (look pid)) (range_with_len (from + 1) (length slots))) (filter (λ pid. test (look pid)) (range_with_len (from + 1) (length slots)))) (ap test here)
    ∙ one_less test (test (Some l)) from l _ (alive_from (suc from) slots) (
    ap (λ n. filter (λ pid. test (look pid)) (range_with_len n (length slots))) next
    ∙ passing_from test none look (suc from) slots (λ k. ap look (omega arith) ∙ there (suc k)))

pub users_alive : (serial : ℕ) (t : Table) → passing (uses serial) (alive t.slots) ≡ users serial t
users_alive serial t = sym (passing_from (uses serial) refl (λ pid. living pid t) 0 t.slots (λ k. ap (living_at t.slots) (zero-add k)))
