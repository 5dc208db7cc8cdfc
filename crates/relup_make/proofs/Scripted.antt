-- Jobs in order, and their script.
use Rattle.std.proofs.Common.{◌≡◌, ℕ, ◌+◌, ◌<◌, List, [], ◌∷◌, ◌++◌, map, length, get_or, take, sym, ap, subst, ◌∙◌, append_assoc}
use Rattle.std.specs.List.{flat_map}
use Rattle.std.proofs.lemmas.List.{take_more}
use Rattle.std.proofs.lemmas.List.Folds.{flat_map-map}
use Rattle.low_instructions.specs.declared.low.Low.{Low}
use Rattle.low_instructions.specs.declared.low.Low.TheVariants as lows
use Rattle.low_instructions.specs.declared.modules.Direction.{Direction}
use Rattle.low_instructions.specs.declared.modules.Direction.TheVariants.{Up, Down}
use Rattle.high_instructions.specs.Forms.{Name}
use Rattle.instructions.specs.declared.instruction.Instruction.{Instruction}
use Rattle.dependency_order.specs.declared.group.Group.{Group}
use Rattle.dependency_order.specs.Orders.{AreOrderedGroups}
use Rattle.relup_make.specs.declared.job.Job.{Job}
use Rattle.relup_make.specs.declared.scripting.Arrangement.{Arrangement}
use Rattle.relup_make.specs.Arranging.{AreArrangements, arranged, order_of_loads, parts_in_order}
use Rattle.relup_make.specs.Dependencies.{depends}
use Rattle.relup_make.specs.Parts.{Ordered, loading_order}
use Rattle.relup_make.specs.Scripts.{AreArranged, IsArrangement, IsScript, at, loaded_in, object_code, own_object_code, placed}
use Rattle.relup_make.specs.Work.{Way}

-- What groups load, by their indices

pub groups_load : {B : Type 0} (f : Instruction → List B) (direction : Direction) (is : List Instruction) (groups : List Group) → flat_map (λ g. flat_map f (at is (order_of_loads direction g))) groups ≡ flat_map (λ g. flat_map f (loading_order direction g)) (map (placed is) groups)
groups_load f Up is groups = sym (flat_map-map (λ (g : Ordered Instruction). flat_map f (loading_order Up g)) (placed is) groups)
groups_load f Down is groups = sym (flat_map-map (λ (g : Ordered Instruction). flat_map f (loading_order Down g)) (placed is) groups)

-- One job more is in order

pub arranged_more : (js : List Job) (arrangements : List Arrangement) (j : Job) (a : Arrangement) → AreArrangements js arrangements → a.job.now ≡ j → AreOrderedGroups (depends j.instructions) (length j.instructions) a.groups → AreArrangements (js ++ j ∷ []) (arrangements ++ a ∷ [])
arranged_more [] [] j a are same groups = (same, groups, tt)
arranged_more [] (b ∷ bs) j a are same groups = absurd are
arranged_more (i ∷ js) [] j a are same groups = absurd are
arranged_more (i ∷ js) (b ∷ bs) j a are same groups = (are.0, are.1, arranged_more js bs j a are.2 same groups)

pub arranged_next : (jobs : List Job) (arrangements next : List Arrangement) (i : ℕ) (j : Job) (a : Arrangement) → i < length jobs → j ≡ get_or jobs i j → a.job.now ≡ j → AreOrderedGroups (depends j.instructions) (length j.instructions) a.groups → next ≡ arrangements ++ a ∷ [] → AreArrangements (take i jobs) arrangements → AreArrangements (take (i + 1) jobs) next
arranged_next jobs arrangements next i j a within is same groups push are =
    let last : take (i + 1) jobs ≡ take i jobs ++ j ∷ [] = take_more jobs i j within ∙ ap (λ u. take i jobs ++ u ∷ []) (sym is) in
    subst (λ js. AreArrangements js next) (sym last) (subst (AreArrangements (take i jobs ++ j ∷ [])) (sym push) (arranged_more (take i jobs) arrangements j a are same groups))

-- Jobs in order are an arrangement

is_arrangement : (job : Job) (a : Arrangement) → a.job.now ≡ job → AreOrderedGroups (depends job.instructions) (length job.instructions) a.groups → IsArrangement job (arranged a)
is_arrangement job a same groups = record {
  app = ap (λ j. j.app) same;
  groups = record {
    ordered = a.groups;
    are_ordered = groups;
    is_placed = ap (λ j. map (placed j.instructions) a.groups) same;
  };
}

pub are_arranged : (jobs : List Job) (arrangements : List Arrangement) → AreArrangements jobs arrangements → AreArranged jobs (map arranged arrangements)
are_arranged [] [] are = tt
are_arranged [] (a ∷ others) are = absurd are
are_arranged (job ∷ jobs) [] are = absurd are
are_arranged (job ∷ jobs) (a ∷ others) are = (is_arrangement job a are.0 are.1, are_arranged jobs others are.2)

-- The script is made of these parts, one behind the other

pub is_script : (way : Way) (jobs : List Job) (arrangements : List Arrangement) (s0 s1 s2 s3 s4 : List Low) (loaded : List (Name × Name)) → AreArrangements jobs arrangements → loaded ≡ flat_map (loaded_in way) (map arranged arrangements) → s0 ≡ [] → s1 ≡ s0 ++ object_code way loaded → s2 ≡ s1 ++ flat_map (λ job. flat_map own_object_code job.instructions) jobs → s3 ≡ s2 ++ lows.PointOfNoReturn ∷ [] → s4 ≡ s3 ++ flat_map (parts_in_order way) (map arranged arrangements) → IsScript way jobs s4
is_script way jobs arrangements s0 s1 s2 s3 s4 loaded are loads e0 e1 e2 e3 e4 = record {
  arranged = map arranged arrangements;
  are = are_arranged jobs arrangements are;
  is =
      e4 ∙ ap (λ s. s ++ flat_map (parts_in_order way) (map arranged arrangements)) (e3 ∙ ap (λ s. s ++ lows.PointOfNoReturn ∷ []) (e2 ∙ ap (λ s. s ++ flat_map (λ job. flat_map own_object_code job.instructions) jobs) (e1 ∙ ap (λ s. s ++ object_code way loaded) e0 ∙ ap (object_code way) loads)))
      ∙ append_assoc (object_code way (flat_map (loaded_in way) (map arranged arrangements)) ++ flat_map (λ job. flat_map own_object_code job.instructions) jobs) (lows.PointOfNoReturn ∷ []) (flat_map (parts_in_order way) (map arranged arrangements));
}
