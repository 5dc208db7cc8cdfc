-- Lemmas on what is found under a key, for indexes of any keys that an order tells apart; and for names and numbers of
-- calls, as the sets `names_laws` and `numbers_laws`.
use Rattle.std.proofs.Common.{◌≡◌, ◌≢◌, ℕ, Bool, true, false, cond, List, [], ◌∷◌, Option, None, Some, refl, sym, ap, ◌∙◌, arith}
use Rattle.std.specs.declared.cmp.Ordering.{Ordering}
use Rattle.std.specs.declared.cmp.Ordering.TheVariants.{Less, Equal, Greater}
use Rattle.std.specs.Ordering.{nat_cmp, eq_by_cmp, is_eq}
use Rattle.std.specs.Prelude.{nat_eq}
use Rattle.std.specs.Cmp.{IsTotalOrder, nat_cmp_total}
use Rattle.std.specs.Cmp.Lexicographic.{slice_cmp, nat_list_cmp_total}
use Rattle.std.specs.FinMap.{FinMap, IsAntisymmetric, nat_cmp-IsAntisymmetric, slice_cmp-IsAntisymmetric, from_entries, find, get, get-empty, get-from_entries, get-insert, get-remove, same_map}
use Rattle.std.specs.Map.{lookup}
use Rattle.std.specs.Str.{IsUtf8, bytes_eq, chars}
use Rattle.std.proofs.lemmas.Bool.{false_from_ne_true}
use Rattle.std.proofs.lemmas.Bool.Decides.{nat_tests}
use Rattle.std.proofs.lemmas.Cmp.{eq_by_cmp_equiv}
use Rattle.std.proofs.lemmas.Map.Text.{is_eq-slice_cmp}
use Rattle.erl_term.proofs.Spelled.{spells-chars}
use Rattle.erl_term.specs.Spelling.{spells}
use Rattle.process_index.specs.declared.numbers.Owner.{Owner}
use Rattle.process_index.specs.Index.{Names, put}
use Rattle.process_index.specs.Numbers.{Owners}

-- An order of keys in which just the keys that a test finds equal tie, and those are one key.
pub record TellsApart {K : Type 0} (R : K → K → Ordering) (test : K → K → Bool) : Type 0 where
  pub total : IsTotalOrder R
  pub apart : IsAntisymmetric R
  pub ties : (x y : K) → eq_by_cmp R x y ≡ test x y

pub names_apart : TellsApart (slice_cmp nat_cmp) bytes_eq
names_apart = record {
  total = nat_list_cmp_total;
  apart = slice_cmp-IsAntisymmetric nat_cmp-IsAntisymmetric;
  ties = is_eq-slice_cmp;
}

pub numbers_apart : TellsApart nat_cmp nat_eq
numbers_apart = record {
  total = nat_cmp_total;
  apart = nat_cmp-IsAntisymmetric;
  ties = λ x y. grind (arith, nat_tests);
}

repeated : {A : Type 0} (b : Bool) (x y z : A) → cond b x (cond b y z) ≡ cond b x z
repeated true x y z = refl
repeated false x y z = refl

agree : {A : Type 0} (b : Bool) (x y : A) → (b ≡ true → x ≡ y) → cond b x y ≡ y
agree true x y same = same refl
agree false x y same = refl

tie : (r : Ordering) → is_eq r ≡ true → r ≡ Equal
tie Less tied = cc
tie Equal tied = refl
tie Greater tied = cc

module _ {K : Type 0} {R : K → K → Ordering} {test : K → K → Bool} (o : TellsApart R test) where
  tied : (x y : K) → test x y ≡ true → R x y ≡ Equal
  tied x y passed = tie (R x y) (o.ties x y ∙ passed)

  tests_itself : (x : K) → test x x ≡ true
  tests_itself x = sym (o.ties x x) ∙ (eq_by_cmp_equiv o.total).refl x

  tests_other : (x y : K) → x ≢ y → test x y ≡ false
  tests_other x y other = false_from_ne_true (test x y) (λ passed. other (o.apart x y (tied x y passed)))

module _ {K X : Type 0} {R : K → K → Ordering} {test : K → K → Bool} (o : TellsApart R test) where
  -- two indexes that have the same under each key are one
  pub same_index : (m n : FinMap R X) → ((k : K) → get m k ≡ get n k) → m ≡ n
  same_index m n same = same_map o.total o.apart m n same

  -- what a change leaves under each key
  pub get-put : (m : FinMap R X) (k : K) (v : Option X) (q : K) → get (put k v m) q ≡ cond (test k q) v (get m q)
  unfolding put
  get-put m k v q =
      let turned : eq_by_cmp R q k ≡ test k q = (eq_by_cmp_equiv o.total).symm q k ∙ o.ties k q in
      elim v as (λ w. get (put k w m) q ≡ cond (test k q) w (get m q)) [
        | None ↦ get-remove o.total m k q ∙ ap (λ b. cond b None (get m q)) turned
        | Some x ↦ get-insert o.total m k x q ∙ ap (λ b. cond b (Some x) (get m q)) turned
      ]

  find-lookup : (q : K) (es : List (K × X)) → find R q es ≡ lookup (test q) es
  find-lookup q [] = refl
  find-lookup q (e ∷ es) =
      ap (λ b. cond b (Some e.1) (find R q es)) (o.ties q e.0) ∙ ap (cond (test q e.0) (Some e.1)) (find-lookup q es)

  -- what the index of a list of entries has under each key
  pub get-lookup : (es : List (K × X)) (q : K) → get (from_entries {R = R} es) q ≡ lookup (test q) es
  get-lookup es q = get-from_entries o.total es q ∙ find-lookup q es

  -- a list of entries that has one key changed
  pub from_entries-put : (es fs : List (K × X)) (k : K) (v : Option X) → ((q : K) → lookup (test q) fs ≡ cond (test k q) v (lookup (test q) es)) → from_entries {R = R} fs ≡ put k v (from_entries es)
  from_entries-put es fs k v updated =
      same_index _ _ (λ q. get-lookup fs q ∙ updated q ∙ ap (cond (test k q) v) (sym (get-lookup es q)) ∙ sym (get-put (from_entries es) k v q))

  -- what is put under a key is there, and every other key has what it had

  pub get-put_here : (m : FinMap R X) (k : K) (v : Option X) → get (put k v m) k ≡ v
  get-put_here m k v = get-put m k v k ∙ ap (λ b. cond b v (get m k)) (tests_itself o k)

  pub get-put_elsewhere : (m : FinMap R X) (k : K) (v : Option X) (q : K) → k ≢ q → get (put k v m) q ≡ get m q
  get-put_elsewhere m k v q other = get-put m k v q ∙ ap (λ b. cond b v (get m q)) (tests_other o k q other)

  -- the later of two changes under one key counts
  pub put-put : (m : FinMap R X) (k : K) (v w : Option X) → put k v (put k w m) ≡ put k v m
  put-put m k v w =
      same_index _ _ (λ q. get-put (put k w m) k v q ∙ ap (cond (test k q) v) (get-put m k w q) ∙ repeated (test k q) v w (get m q) ∙ sym (get-put m k v q))

  -- what is there, put there
  pub put-get : (m : FinMap R X) (k : K) → put k (get m k) m ≡ m
  put-get m k =
      same_index _ _ (λ q. get-put m k (get m k) q ∙ agree (test k q) _ _ (λ passed. ap (get m) (o.apart k q (tied o k q passed))))

  -- so a change is taken back by what was there before
  pub put_back : (m : FinMap R X) (k : K) (v : Option X) → put k (get m k) (put k v m) ≡ m
  put_back m k v = put-put m k (get m k) v ∙ put-get m k

-- Names

-- what the entries have under a text is what they have under the name that its characters are
pub lookup-spelled : {X : Type 0} (text : List ℕ) (es : List (List ℕ × X)) → IsUtf8 text → lookup (spells text) es ≡ lookup (bytes_eq (chars text)) es
lookup-spelled text [] whole = refl
lookup-spelled text (e ∷ es) whole =
    ap (λ b. cond b (Some e.1) (lookup (spells text) es)) (spells-chars text e.0 whole) ∙ ap (cond (bytes_eq (chars text) e.0) (Some e.1)) (lookup-spelled text es whole)

pub names_read : (names : Names) (name : List ℕ) (pid : Option ℕ) (other : List ℕ) → get (put name pid names) other ≡ cond (bytes_eq name other) pid (get names other)
names_read = get-put names_apart

pub names_here : (names : Names) (name : List ℕ) (pid : Option ℕ) → get (put name pid names) name ≡ pid
names_here = get-put_here names_apart

pub names_later : (names : Names) (name : List ℕ) (pid before : Option ℕ) → put name pid (put name before names) ≡ put name pid names
names_later = put-put names_apart

pub names_kept : (names : Names) (name : List ℕ) → put name (get names name) names ≡ names
names_kept = put-get names_apart

pub ruleset names_laws = (names_read, names_here, names_later, names_kept, get-empty)

-- Numbers of calls

pub numbers_read : (owners : Owners) (number : ℕ) (owner : Option Owner) (other : ℕ) → get (put number owner owners) other ≡ cond (nat_eq number other) owner (get owners other)
numbers_read = get-put numbers_apart

pub numbers_here : (owners : Owners) (number : ℕ) (owner : Option Owner) → get (put number owner owners) number ≡ owner
numbers_here = get-put_here numbers_apart

pub numbers_later : (owners : Owners) (number : ℕ) (owner before : Option Owner) → put number owner (put number before owners) ≡ put number owner owners
numbers_later = put-put numbers_apart

pub numbers_kept : (owners : Owners) (number : ℕ) → put number (get owners number) owners ≡ owners
numbers_kept = put-get numbers_apart

pub ruleset numbers_laws = (numbers_read, numbers_here, numbers_later, numbers_kept, get-empty)
