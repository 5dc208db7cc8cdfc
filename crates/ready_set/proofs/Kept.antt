-- What the marks of a tree say of numbers.
use Rattle.std.proofs.Common.{◌≡◌, ◌<◌, ◌≤◌, ◌+◌, ◌-◌, ◌*◌, ◌/◌, ◌++◌, ◌∷◌, [], ⊎_elim, ℕ, Bool, true, false, List, length, get_or, set, take, drop, arith, sym, ap, ◌∙◌, subst, Some}
use Rattle.std.proofs.lemmas.Bool.{cases_eq, cases_lt, true≢false}
use Rattle.std.proofs.lemmas.List.{ext_get_or, get_or-drop, get_or-set_other, get_or-set_same, get_or-take, get_or_append_left, get_or_at, length-drop, length-set, length_push, length-take-le}
use Rattle.ready_set.specs.Marks.{IsFirstFrom, IsMarkTree, flags_of, is_leaf_marked, is_marked}
use Rattle.ready_set.specs.Flags.{IsNext, is_in}

-- the flag of a number is the mark of its leaf
pub flag_at : (marks : List Bool) (capacity k : ℕ) → k < capacity → get_or (flags_of marks capacity) k false ≡ is_leaf_marked marks k
flag_at marks capacity k within =
    get_or-take capacity (drop (length marks / 2) marks) k false within ∙ get_or-drop (length marks / 2) marks k false

-- there is one for each number
pub length-flags : (marks : List Bool) (capacity : ℕ) → 2 * capacity ≤ length marks → length (flags_of marks capacity) ≡ capacity
length-flags marks capacity room =
    length-take-le capacity (drop (length marks / 2) marks) (omega (arith, length-drop (length marks / 2) marks))

-- so flags are told by the marks of the leaves
pub same_flags : (marks flags : List Bool) (capacity : ℕ) → 2 * capacity ≤ length marks → length flags ≡ capacity →
    ((k : ℕ) → k < capacity → is_leaf_marked marks k ≡ get_or flags k false) → flags_of marks capacity ≡ flags
same_flags marks flags capacity room many same =
    let long = length-flags marks capacity room in
    ext_get_or false (flags_of marks capacity) flags (long ∙ sym many)
    (λ k below. let within : k < capacity = omega arith in flag_at marks capacity k within ∙ same k within)

-- the flags after a write to one leaf
pub put_flags : (old new : List Bool) (capacity number : ℕ) (marked : Bool) → length new ≡ length old → 2 * capacity ≤ length old →
    number < capacity → is_leaf_marked new number ≡ marked →
    ((k : ℕ) → (k ≡ number → ⊥) → is_leaf_marked new k ≡ is_leaf_marked old k) →
    flags_of new capacity ≡ set (flags_of old capacity) number marked
put_flags old new capacity number marked long room within here others =
    let flags = flags_of old capacity in
    let many = length-flags old capacity room in
    same_flags new (set flags number marked) capacity (omega arith) (length-set flags number marked ∙ many) (λ k below.
    ⊎_elim (λ (e : k ≡ number).
    ap (is_leaf_marked new) e ∙ here ∙ sym (get_or-set_same flags number marked false (omega arith)) ∙ ap (λ i. get_or (set flags number marked) i false) (sym e))
    (λ (other : k ≡ number → ⊥). others k other ∙ sym (flag_at old capacity k below) ∙ sym (get_or-set_other flags number k marked false other))
    (cases_eq k number))

-- the flags with one leaf more
pub pushed_flags : (old new : List Bool) (capacity : ℕ) (marked : Bool) → 2 * capacity ≤ length old → 2 * capacity + 2 ≤ length new →
    is_leaf_marked new capacity ≡ marked → ((k : ℕ) → (k ≡ capacity → ⊥) → is_leaf_marked new k ≡ is_leaf_marked old k) →
    flags_of new (capacity + 1) ≡ flags_of old capacity ++ marked ∷ []
pushed_flags old new capacity marked room more here others =
    let flags = flags_of old capacity in
    let many = length-flags old capacity room in
    same_flags new (flags ++ marked ∷ []) (capacity + 1) (omega arith) (omega (arith, length_push flags marked)) (λ k below.
    ⊎_elim (λ (e : k ≡ capacity).
    ap (is_leaf_marked new) e ∙ here ∙ sym (get_or_at flags marked [] false k (many ∙ sym e)))
    (λ (other : k ≡ capacity → ⊥).
    let within : k < capacity = omega arith in
    others k other ∙ sym (flag_at old capacity k within) ∙ sym (get_or_append_left flags (marked ∷ []) false k (omega arith)))
    (cases_eq k capacity))

-- the flags with one leaf less
pub popped_flags : (old new : List Bool) (capacity : ℕ) → length new ≡ length old → 2 * capacity ≤ length old → 0 < capacity →
    ((k : ℕ) → (k ≡ capacity - 1 → ⊥) → is_leaf_marked new k ≡ is_leaf_marked old k) →
    flags_of new (capacity - 1) ≡ take (capacity - 1) (flags_of old capacity)
popped_flags old new capacity long room some others =
    let flags = flags_of old capacity in
    let many = length-flags old capacity room in
    same_flags new (take (capacity - 1) flags) (capacity - 1) (omega arith) (length-take-le (capacity - 1) flags (omega arith)) (λ k below.
    others k (λ e. omega arith) ∙ sym (flag_at old capacity k (omega arith)) ∙ sym (get_or-take (capacity - 1) flags k false below))

-- the number of the first marked leaf is the next one
pub next_found : (marks seen flags : List Bool) (capacity half from leaf : ℕ) → IsMarkTree marks capacity → flags_of marks capacity ≡ flags →
    seen ≡ marks → half ≡ length seen / 2 → IsFirstFrom seen (half + from) leaf → IsNext from flags (Some (leaf - half))
next_found marks seen flags capacity half from leaf kept is same halved there =
    let next = leaf - half in
    let first : IsFirstFrom marks (half + from) leaf = subst (λ ms. IsFirstFrom ms (half + from) leaf) same there in
    let behind = first.from' in
    let half' : half ≡ length marks / 2 = halved ∙ ap (λ (ms : List Bool). length ms / 2) same in
    let here : is_leaf_marked marks next ≡ true = ap (is_marked marks) (omega arith) ∙ first.marked in
    let many : length flags ≡ capacity = sym (ap length is) ∙ length-flags marks capacity kept.room in
    let flag : (k : ℕ) → k < capacity → is_in flags k ≡ is_leaf_marked marks k =
    λ k below. ap (λ fs. get_or fs k false) (sym is) ∙ flag_at marks capacity k below in
    let within : next < capacity =
    ⊎_elim (λ (it : next < capacity). it) (λ (not : capacity ≤ next). absurd (true≢false (sym here ∙ kept.rest next not))) (cases_lt next capacity) in (
      omega arith,
      omega arith,
      flag next within ∙ here,
      λ number least before. flag number (omega arith) ∙ first.before (length marks / 2 + number) (omega arith) (omega arith),
    )
