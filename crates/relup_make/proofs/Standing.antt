-- Each instruction's parts stand in a script once.
use Rattle.std.proofs.Common.{◌≡◌, ℕ, ◌+◌, ◌<◌, Bool, true, false, List, [], ◌∷◌, ◌++◌, length, map, filter, Option, None, Some, sym, ap, subst, ◌∙◌, refl, arith, append_assoc, append-nil, length-append}
use Rattle.std.specs.Prelude.{if◌then◌else◌, reverse}
use Rattle.std.specs.List.{cons_option, filter_map, flat_map, range_with_len, slice_get}
use Rattle.std.specs.List.Sorted.{IsPermutation}
use Rattle.std.specs.Option.{option_map_or, option_to_list}
use Rattle.std.proofs.Math.Seq.{get_or-append_seam}
use Rattle.std.proofs.lemmas.List.Concat.{flat_map-append}
use Rattle.std.proofs.lemmas.List.Elements.{filter_map-append}
use Rattle.std.proofs.lemmas.List.Sorted.{IsPermutation-append, IsPermutation-append_left, IsPermutation-map, IsPermutation-refl, IsPermutation-reverse, IsPermutation-sym, IsPermutation-trans}
use Rattle.std.proofs.lemmas.Option.{slice_get-get_or}
use Rattle.std.proofs.lemmas.Simd.{map-map}
use Rattle.low_instructions.specs.declared.low.Low.{Low}
use Rattle.low_instructions.specs.declared.low.Low.TheVariants as lows
use Rattle.low_instructions.specs.declared.modules.Direction.{Direction}
use Rattle.low_instructions.specs.declared.modules.Direction.TheVariants.{Up, Down}
use Rattle.low_instructions.specs.declared.modules.ModuleChange.{ModuleChange}
use Rattle.low_instructions.specs.declared.modules.Suspension.{Suspension}
use Rattle.high_instructions.specs.declared.words.ModuleType.{ModuleType}
use Rattle.high_instructions.specs.declared.words.ModuleType.TheVariants.{Static, Dynamic}
use Rattle.high_instructions.specs.Forms.{Name, Names}
use Rattle.instructions.specs.declared.instruction.Instruction.{Instruction}
use Rattle.dependency_order.specs.declared.group.Group.{Group}
use Rattle.dependency_order.specs.Lists.{upto}
use Rattle.dependency_order.specs.Orders.{AreOrdered, times}
use Rattle.dependency_order.proofs.EachOnce.{groups-once}
use Rattle.dependency_order.proofs.Permuting.{crossed, each-permuted, flat_map-permuted, joined}
use Rattle.relup_make.specs.declared.job.Job.{Job}
use Rattle.relup_make.specs.Alone.{alone, changed_alone, resumed_alone, suspended_alone, told_out}
use Rattle.relup_make.specs.Dependencies.{depends}
use Rattle.relup_make.specs.Laws.{StandsOnce}
use Rattle.relup_make.specs.Parts.{Ordered, change_of, changes, changes_of_kind, code_change, is_kind, parts_of, resume, resume_all, suspend, suspension_of, suspensions, work_of}
use Rattle.relup_make.specs.Scripts.{AreArranged, Arranged, IsArranged, IsScript, at, loaded_in, object_code, own_object_code, placed}
use Rattle.relup_make.specs.Work.{Way}
use Rattle.relup_make.proofs.Picked.{picked_all}
use Rattle.relup_make.proofs.Shape.{object-code-alone, parts-alone}

-- At all indices stand all instructions

behind : (ys is : List Instruction) → filter_map (slice_get (ys ++ is)) (range_with_len (length ys) (length is)) ≡ is
behind ys [] = refl
behind ys (i ∷ is) =
    let long : length (ys ++ i ∷ []) ≡ length ys + 1 = omega (arith, length-append ys (i ∷ [])) in
    let whole : (ys ++ i ∷ []) ++ is ≡ ys ++ i ∷ is = append_assoc ys (i ∷ []) is in
    let within : length ys < length (ys ++ i ∷ is) = omega (arith, length-append ys (i ∷ is)) in
    let here : slice_get (ys ++ i ∷ is) (length ys) ≡ Some i = slice_get-get_or (ys ++ i ∷ is) (length ys) i within ∙ ap (λ j. Some j) (get_or-append_seam ys i is i) in
    let Are : ℕ → List Instruction → Type 0 = λ n all. filter_map (slice_get all) (range_with_len n (length is)) ≡ is in
    let rest = subst (Are (length ys + 1)) whole (subst (λ (n : ℕ). Are n ((ys ++ i ∷ []) ++ is)) long (behind (ys ++ i ∷ []) is)) in
    ap (λ o. cons_option o (filter_map (slice_get (ys ++ i ∷ is)) (range_with_len (length ys + 1) (length is)))) here ∙ ap (λ js. i ∷ js) rest

all-at : (is : List Instruction) → at is (upto (length is)) ≡ is
all-at is = behind [] is

-- in whatever order the indices are
at-permuted : (f : Instruction → List Low) (is : List Instruction) (ps qs : List ℕ) → ((p : ℕ) → times p ps ≡ times p qs) → IsPermutation (flat_map f (at is ps)) (flat_map f (at is qs))
at-permuted f is ps qs same =
    let To : List Low → Type 0 = λ ys. IsPermutation (flat_map (λ p. option_map_or f (slice_get is p) []) ps) ys in
    let From : List Low → Type 0 = λ xs. IsPermutation xs (flat_map f (at is qs)) in
    subst From (picked_all f is ps) (subst To (picked_all f is qs) (flat_map-permuted (λ p. option_map_or f (slice_get is p) []) ps qs same))

-- Parts, told out

abbrev told : List Low → List Low
told parts = flat_map told_out parts

told_suspend : (ss : List Suspension) → told (suspend ss) ≡ map (λ s. lows.Suspend (s ∷ [])) ss
told_suspend [] = refl
told_suspend (s ∷ ss) = append-nil (map (λ (t : Suspension). lows.Suspend (t ∷ [])) (s ∷ ss))

told_resume : (ms : Names) → told (resume ms) ≡ map (λ m. lows.Resume (m ∷ [])) ms
told_resume [] = refl
told_resume (m ∷ ms) = append-nil (map (λ (n : Name). lows.Resume (n ∷ [])) (m ∷ ms))

told_change : (direction : Direction) (cs : List ModuleChange) → told (code_change direction cs) ≡ map (λ c. lows.CodeChange direction (c ∷ [])) cs
told_change direction [] = refl
told_change direction (c ∷ cs) = append-nil (map (λ (d : ModuleChange). lows.CodeChange direction (d ∷ [])) (c ∷ cs))

told_work : (f : Instruction → List Low) (is : List Instruction) → told (flat_map f is) ≡ flat_map (λ i. told (f i)) is
told_work f [] = refl
told_work f (i ∷ is) = flat_map-append told_out (f i) (flat_map f is) ∙ ap (λ xs. told (f i) ++ xs) (told_work f is)

-- what some of the instructions give, by all of them
one_by_all : {A B C : Type 0} (k : A → Option B) (h : B → C) (xs : List A) → map h (filter_map k xs) ≡ flat_map (λ x. map h (option_to_list (k x))) xs
one_by_all k h [] = refl
one_by_all {B = B} {C = C} k h (x ∷ xs) = one (k x) (filter_map k xs) (flat_map (λ y. map h (option_to_list (k y))) xs) (one_by_all k h xs)
  where
    one : (o : Option B) (ys : List B) (zs : List C) → map h ys ≡ zs → map h (cons_option o ys) ≡ map h (option_to_list o) ++ zs
    one None ys zs e = e
    one (Some b) ys zs e = ap (λ us. h b ∷ us) e

chosen_by_all : {A B C : Type 0} (k : A → Option B) (t : B → Bool) (h : B → C) (xs : List A) → map h (filter t (filter_map k xs)) ≡ flat_map (λ x. map h (filter t (option_to_list (k x)))) xs
chosen_by_all k t h [] = refl
chosen_by_all {B = B} {C = C} k t h (x ∷ xs) = one (k x) (filter_map k xs) (flat_map (λ y. map h (filter t (option_to_list (k y)))) xs) (chosen_by_all k t h xs)
  where
    test : (v : Bool) (b : B) (ys : List B) (zs : List C) → map h ys ≡ zs → map h (if v then b ∷ ys else ys) ≡ map h (if v then b ∷ [] else []) ++ zs
    test true b ys zs e = ap (λ us. h b ∷ us) e
    test false b ys zs e = e

    one : (o : Option B) (ys : List B) (zs : List C) → map h (filter t ys) ≡ zs → map h (filter t (cons_option o ys)) ≡ map h (filter t (option_to_list o)) ++ zs
    one None ys zs e = e
    one (Some b) ys zs e = test (t b) b (filter t ys) zs e

suspended-told : (is : List Instruction) → told (suspend (suspensions is)) ≡ flat_map suspended_alone is
suspended-told is = told_suspend (suspensions is) ∙ one_by_all suspension_of (λ s. lows.Suspend (s ∷ [])) is

resumed-told : (is : List Instruction) → IsPermutation (told (resume_all (suspensions is))) (flat_map resumed_alone is)
resumed-told is =
    let ss = suspensions is in
    let one : Suspension → Low = λ s. lows.Resume (s.name ∷ []) in
    let From : List Low → Type 0 = λ xs. IsPermutation xs (flat_map resumed_alone is) in
    let To : List Low → Type 0 = λ ys. IsPermutation (map one (reverse ss)) ys in
    subst From (sym (told_resume (map (λ s. s.name) (reverse ss)) ∙ map-map (λ m. lows.Resume (m ∷ [])) (λ s. s.name) (reverse ss)))
    (subst To (one_by_all suspension_of one is) (IsPermutation-map one (reverse ss) ss (IsPermutation-sym ss (reverse ss) (IsPermutation-reverse ss))))

changed-told : (direction : Direction) (is : List Instruction) → told (code_change direction (changes is)) ≡ flat_map (changed_alone direction) is
changed-told direction is =
    told_change direction (changes is) ∙ map-map (λ c. lows.CodeChange direction (c ∷ [])) (λ (c : ModuleType × ModuleChange). c.1) (filter_map change_of is) ∙
    one_by_all change_of (λ c. lows.CodeChange direction (c.1 ∷ [])) is

-- of one kind of modules
abbrev kind_alone : ModuleType → Instruction → List Low
kind_alone type i = map (λ c. lows.CodeChange Down (c.1 ∷ [])) (filter (λ c. is_kind c.0 type) (option_to_list (change_of i)))

kind-told : (type : ModuleType) (is : List Instruction) → told (code_change Down (changes_of_kind type is)) ≡ flat_map (kind_alone type) is
kind-told type is =
    told_change Down (changes_of_kind type is) ∙
    map-map (λ c. lows.CodeChange Down (c ∷ [])) (λ (c : ModuleType × ModuleChange). c.1) (filter (λ c. is_kind c.0 type) (filter_map change_of is)) ∙
    chosen_by_all change_of (λ c. is_kind c.0 type) (λ c. lows.CodeChange Down (c.1 ∷ [])) is

both-kinds : (i : Instruction) → kind_alone Dynamic i ++ kind_alone Static i ≡ changed_alone Down i
both-kinds i = both (change_of i)
  where
    of : (type : ModuleType) (c : ModuleChange) → map (λ (d : ModuleType × ModuleChange). lows.CodeChange Down (d.1 ∷ [])) (filter (λ d. is_kind d.0 Dynamic) ((type, c) ∷ [])) ++ map (λ (d : ModuleType × ModuleChange). lows.CodeChange Down (d.1 ∷ [])) (filter (λ d. is_kind d.0 Static) ((type, c) ∷ [])) ≡ lows.CodeChange Down (c ∷ []) ∷ []
    of Static c = refl
    of Dynamic c = refl

    both : (o : Option (ModuleType × ModuleChange)) → map (λ (d : ModuleType × ModuleChange). lows.CodeChange Down (d.1 ∷ [])) (filter (λ d. is_kind d.0 Dynamic) (option_to_list o)) ++ map (λ (d : ModuleType × ModuleChange). lows.CodeChange Down (d.1 ∷ [])) (filter (λ d. is_kind d.0 Static) (option_to_list o)) ≡ map (λ (d : ModuleType × ModuleChange). lows.CodeChange Down (d.1 ∷ [])) (option_to_list o)
    both None = refl
    both (Some c) = of c.0 c.1

-- A group's parts

four-told : (a b c d : List Low) → told (a ++ b ++ c ++ d) ≡ told a ++ told b ++ told c ++ told d
four-told a b c d =
    flat_map-append told_out (a ++ b ++ c) d ∙ ap (λ xs. xs ++ told d) (flat_map-append told_out (a ++ b) c ∙ ap (λ xs. xs ++ told c) (flat_map-append told_out a b))

five-told : (a b c d e : List Low) → told (a ++ b ++ c ++ d ++ e) ≡ told a ++ told b ++ told c ++ told d ++ told e
five-told a b c d e = flat_map-append told_out (a ++ b ++ c ++ d) e ∙ ap (λ xs. xs ++ told e) (four-told a b c d)

module _ (way : Way) (is : List Instruction) (g : List ℕ) (o : Group) (first : (p : ℕ) → times p o.dependencies_first ≡ times p g) (last : (p : ℕ) → times p o.dependants_first ≡ times p g) where
  -- what the instructions give, in either order
  moved : (f : Instruction → List Low) (told_so : List Low) (ps : List ℕ) → ((p : ℕ) → times p ps ≡ times p g) → told_so ≡ flat_map f (at is ps) → IsPermutation told_so (flat_map f (at is g))
  moved f told_so ps same e =
      let From : List Low → Type 0 = λ xs. IsPermutation xs (flat_map f (at is g)) in
      subst From (sym e) (at-permuted f is ps g same)

  resumed : (ps : List ℕ) → ((p : ℕ) → times p ps ≡ times p g) → IsPermutation (told (resume_all (suspensions (at is ps)))) (flat_map resumed_alone (at is g))
  resumed ps same =
      IsPermutation-trans (told (resume_all (suspensions (at is ps)))) (flat_map resumed_alone (at is ps)) (flat_map resumed_alone (at is g))
      (resumed-told (at is ps)) (at-permuted resumed_alone is ps g same)

  abbrev work_alone : Instruction → List Low
  work_alone i = told (work_of way i)

  up-once : IsPermutation (told (parts_of Up way (placed is o))) (flat_map (alone Up way) (at is g))
  up-once =
      let ls = at is o.dependencies_first in
      let ss = at is o.dependants_first in
      let a = suspend (suspensions ss) in
      let b = flat_map (work_of way) ls in
      let c = code_change Up (changes ls) in
      let d = resume_all (suspensions ss) in
      let From : List Low → Type 0 = λ xs. IsPermutation xs (flat_map (alone Up way) (at is g)) in
      let pa = moved suspended_alone (told a) o.dependants_first last (suspended-told ss) in
      let pb = moved work_alone (told b) o.dependencies_first first (told_work (work_of way) ls) in
      let pc = moved (changed_alone Up) (told c) o.dependencies_first first (changed-told Up ls) in
      let pd = resumed o.dependants_first last in
      subst From (sym (four-told a b c d))
      (joined (λ i. suspended_alone i ++ work_alone i ++ changed_alone Up i) resumed_alone (at is g) (told a ++ told b ++ told c) (told d)
      (joined (λ i. suspended_alone i ++ work_alone i) (changed_alone Up) (at is g) (told a ++ told b) (told c)
      (joined suspended_alone work_alone (at is g) (told a) (told b) pa pb) pc) pd)

  abbrev down_alone : Instruction → List Low
  down_alone i = suspended_alone i ++ kind_alone Dynamic i ++ work_alone i ++ kind_alone Static i ++ resumed_alone i

  down-alone : (i : Instruction) → IsPermutation (down_alone i) (alone Down way i)
  down-alone i =
      let s = suspended_alone i in
      let d = kind_alone Dynamic i in
      let w = work_alone i in
      let t = kind_alone Static i in
      let r = resumed_alone i in
      let From : List Low → Type 0 = λ xs. IsPermutation xs (s ++ w ++ changed_alone Down i) in
      let To : List Low → Type 0 = λ ys. IsPermutation ((s ++ d) ++ (w ++ t)) ((s ++ w) ++ ys) in
      IsPermutation-append_left r (s ++ d ++ w ++ t) (s ++ w ++ changed_alone Down i) (subst From (sym (append_assoc (s ++ d) w t)) (subst To (both-kinds i) (crossed s d w t)))

  down-once : IsPermutation (told (parts_of Down way (placed is o))) (flat_map (alone Down way) (at is g))
  down-once =
      let ls = at is o.dependencies_first in
      let ss = at is o.dependants_first in
      let a = suspend (suspensions ls) in
      let b = code_change Down (changes_of_kind Dynamic ss) in
      let c = flat_map (work_of way) ss in
      let d = code_change Down (changes_of_kind Static ss) in
      let e = resume_all (suspensions ls) in
      let From : List Low → Type 0 = λ xs. IsPermutation xs (flat_map (alone Down way) (at is g)) in
      let pa = moved suspended_alone (told a) o.dependencies_first first (suspended-told ls) in
      let pb = moved (kind_alone Dynamic) (told b) o.dependants_first last (kind-told Dynamic ss) in
      let pc = moved work_alone (told c) o.dependants_first last (told_work (work_of way) ss) in
      let pd = moved (kind_alone Static) (told d) o.dependants_first last (kind-told Static ss) in
      let pe = resumed o.dependencies_first first in
      subst From (sym (five-told a b c d e))
      (IsPermutation-trans (told a ++ told b ++ told c ++ told d ++ told e) (flat_map down_alone (at is g)) (flat_map (alone Down way) (at is g))
      (joined (λ i. suspended_alone i ++ kind_alone Dynamic i ++ work_alone i ++ kind_alone Static i) resumed_alone (at is g) (told a ++ told b ++ told c ++ told d) (told e)
      (joined (λ i. suspended_alone i ++ kind_alone Dynamic i ++ work_alone i) (kind_alone Static) (at is g) (told a ++ told b ++ told c) (told d)
      (joined (λ i. suspended_alone i ++ kind_alone Dynamic i) work_alone (at is g) (told a ++ told b) (told c)
      (joined suspended_alone (kind_alone Dynamic) (at is g) (told a) (told b) pa pb) pc) pd) pe)
      (each-permuted down_alone (alone Down way) down-alone (at is g)))

  group-once : (direction : Direction) → IsPermutation (told (parts_of direction way (placed is o))) (flat_map (alone direction way) (at is g))
  group-once Up = up-once
  group-once Down = down-once

-- The parts of an entry, and of all jobs

groups-parts : (direction : Direction) (way : Way) (is : List Instruction) (gs : List (List ℕ)) (os : List Group) → AreOrdered (depends is) gs os →
    IsPermutation (told (flat_map (parts_of direction way) (map (placed is) os))) (flat_map (alone direction way) (at is (flat_map (λ g. g) gs)))
groups-parts direction way is [] [] are = IsPermutation-refl []
groups-parts direction way is [] (o ∷ os) are = absurd are
groups-parts direction way is (g ∷ gs) [] are = absurd are
groups-parts direction way is (g ∷ gs) (o ∷ os) are =
    let rest = flat_map (λ (h : List ℕ). h) gs in
    let From : List Low → Type 0 = λ xs. IsPermutation xs (flat_map (alone direction way) (at is (g ++ rest))) in
    let To : List Low → Type 0 = λ ys. IsPermutation (told (parts_of direction way (placed is o)) ++ told (flat_map (parts_of direction way) (map (placed is) os))) ys in
    let apart : flat_map (alone direction way) (at is (g ++ rest)) ≡ flat_map (alone direction way) (at is g) ++ flat_map (alone direction way) (at is rest) =
    ap (flat_map (alone direction way)) (filter_map-append (slice_get is) g rest) ∙ flat_map-append (alone direction way) (at is g) (at is rest) in
    subst From (sym (flat_map-append told_out (parts_of direction way (placed is o)) (flat_map (parts_of direction way) (map (placed is) os))))
    (subst To (sym apart)
    (IsPermutation-append (told (parts_of direction way (placed is o))) (flat_map (alone direction way) (at is g)) (told (flat_map (parts_of direction way) (map (placed is) os))) (flat_map (alone direction way) (at is rest))
    (group-once way is g o are.0.dependencies.same are.0.dependants.same direction) (groups-parts direction way is gs os are.1)))

entry-once : (direction : Direction) (way : Way) (is : List Instruction) (groups : List (Ordered Instruction)) → IsArranged is groups → IsPermutation (told (flat_map (parts_of direction way) groups)) (flat_map (alone direction way) is)
entry-once direction way is groups arranged =
    let gs = arranged.are_ordered.groups in
    let every = flat_map (λ (g : List ℕ). g) gs in
    let From : List (Ordered Instruction) → Type 0 = λ os. IsPermutation (told (flat_map (parts_of direction way) os)) (flat_map (alone direction way) is) in
    let To : List Instruction → Type 0 = λ js. IsPermutation (flat_map (alone direction way) (at is every)) (flat_map (alone direction way) js) in
    subst From (sym arranged.is_placed)
    (IsPermutation-trans (told (flat_map (parts_of direction way) (map (placed is) arranged.ordered))) (flat_map (alone direction way) (at is every)) (flat_map (alone direction way) is)
    (groups-parts direction way is gs arranged.ordered arranged.are_ordered.are_ordered)
    (subst To (all-at is) (at-permuted (alone direction way) is every (upto (length is)) (groups-once (depends is) (length is) gs arranged.are_ordered.are))))

jobs-once : (direction : Direction) (way : Way) (jobs : List Job) (arranged : List Arranged) → AreArranged jobs arranged →
    IsPermutation (told (flat_map (λ job. flat_map (parts_of direction way) job.groups) arranged)) (flat_map (λ job. flat_map (alone direction way) job.instructions) jobs)
jobs-once direction way [] [] are = IsPermutation-refl []
jobs-once direction way [] (a ∷ others) are = absurd are
jobs-once direction way (j ∷ js) [] are = absurd are
jobs-once direction way (j ∷ js) (a ∷ others) are =
    let here = flat_map (parts_of direction way) a.groups in
    let rest = flat_map (λ (b : Arranged). flat_map (parts_of direction way) b.groups) others in
    let later = flat_map (λ (k : Job). flat_map (alone direction way) k.instructions) js in
    let From : List Low → Type 0 = λ xs. IsPermutation xs (flat_map (alone direction way) j.instructions ++ later) in
    subst From (sym (flat_map-append told_out here rest))
    (IsPermutation-append (told here) (flat_map (alone direction way) j.instructions) (told rest) later
    (entry-once direction way j.instructions a.groups are.0.groups) (jobs-once direction way js others are.1))

-- A script

pub stands-once : (way : Way) (jobs : List Job) (script : List Low) → IsScript way jobs script → StandsOnce way jobs script
stands-once way jobs script fits = record {
  read = object_code way (flat_map (loaded_in way) fits.arranged) ++ flat_map (λ job. flat_map own_object_code job.instructions) jobs;
  parts = flat_map (λ job. flat_map (parts_of way.direction way) job.groups) fits.arranged;
  is = fits.is;
  are_read = object-code-alone way (flat_map (loaded_in way) fits.arranged) jobs;
  are_parts = parts-alone way fits.arranged;
  once = jobs-once way.direction way jobs fits.arranged fits.are;
}
