-- Appups and relups: a term says one, or is refused.
use Rattle.std.specs.Prelude.{⊤}
use Rattle.std.proofs.Common.{◌≡◌, ℕ, List, Option, Some, Result, Ok, Err, refl, sym, ap, subst, ◌∙◌, inl, inr, option_map}
use Rattle.erl_term.specs.declared.term.Term.{Term}
use Rattle.erl_term.specs.Accessors.{list_of}
use Rattle.erl_term.specs.Conversions.{pair_of, rows_of, triple_of}
use Rattle.erl_term.specs.Term.{term_of}
use Rattle.erl_term.specs.Tree.{Tree}
use Rattle.release_words.specs.declared.fault.InstructionFault.{InstructionFault}
use Rattle.release_words.specs.Reading.{version_of}
use Rattle.release_words.proofs.Parts.{map_is}
use Rattle.otp_files.specs.declared.error.FileError.{FileError}
use Rattle.otp_files.specs.declared.upgrade.Entry.{Entry}
use Rattle.otp_files.specs.declared.upgrade.Upgrades.{Upgrades}
use Rattle.otp_files.specs.declared.upgrade.drafts.Draft.{Draft}
use Rattle.otp_files.specs.Parts.{IsAny, IsList, IsListOf, IsPair, IsTriple, IsVersion, Says}
use Rattle.otp_files.specs.Reading.{after, appup_draft_of, count_in, entries_from, relup_draft_of, upgrades_of, upgrades_with}
use Rattle.otp_files.specs.Upgrades.{AreEntries, AreUpgrades, HasUpgradeParts, IsAppupDraft, IsFirstWrong, IsRelupDraft, UpgradesRefused, instruction, instructions_in, misshapen}
use Rattle.otp_files.proofs.Sayings.{Reads, any_reads, list_reads, pair_reads, rows_reads, triple_reads, version_reads}
use Rattle.otp_files.proofs.Scripts.{Judges, ReadsAll, down_wrong, entries_done, entries_judged, then_judged, up_wrong, ups_or_downs}
use Rattle.otp_files.proofs.Shapes.{three_done, three_judged, three_misshapen}

-- Drafts

pub appup_draft_reads : Reads appup_draft_of IsAppupDraft
appup_draft_reads = record { found = found; back = λ t d is. ap (option_map (λ p. record { vsn = p.0; description = tt; instructions = p.1 })) (pairs.back t (d.vsn, d.instructions) is) }
  where
    pairs : Reads (pair_of version_of list_of) (IsPair IsVersion IsList)
    pairs = pair_reads version_of list_of IsVersion IsList version_reads list_reads

    found : (t : Tree) (d : Draft ⊤) → appup_draft_of t ≡ Some d → IsAppupDraft t d
    found t d e =
        let p = map_is _ (pair_of version_of list_of t) d e in
        subst (IsAppupDraft t) p.2 (pairs.found t p.0 p.1)

pub relup_draft_reads : Reads relup_draft_of IsRelupDraft
relup_draft_reads = record { found = found; back = λ t d is. ap (option_map (λ p. record { vsn = p.0; description = p.1; instructions = p.2 })) (triples.back t (d.vsn, d.description, d.instructions) is) }
  where
    triples : Reads (triple_of version_of (λ u. Some (term_of u)) list_of) (IsTriple IsVersion IsAny IsList)
    triples = triple_reads version_of (λ u. Some (term_of u)) list_of IsVersion IsAny IsList version_reads any_reads list_reads

    found : (t : Tree) (d : Draft Term) → relup_draft_of t ≡ Some d → IsRelupDraft t d
    found t d e =
        let p = map_is _ (triple_of version_of (λ u. Some (term_of u)) list_of t) d e in
        subst (IsRelupDraft t) p.2 (triples.found t p.0 p.1)

-- Files

pub upgrades_judged : {D I : Type 0} (draft : Tree → Option (Draft D)) (read : Tree → Result I InstructionFault) (IsDraft : Tree → Draft D → Type 0) (Is : Tree → I → Type 0) (IsOut : Tree → Type 0) → Reads draft IsDraft → ReadsAll read Is IsOut → (t : Tree) → Judges (AreUpgrades IsDraft Is t) (UpgradesRefused IsDraft Is IsOut t) (upgrades_of draft read t)
unfolding upgrades_of
upgrades_judged {D} {I} draft read IsDraft Is IsOut drafts tells t =
    three_judged version_of (rows_of draft) (rows_of draft) IsVersion (IsListOf IsDraft) (IsListOf IsDraft) (λ vsn ups downs. upgrades_with read vsn ups downs) P t version_reads (rows_reads draft IsDraft drafts) (rows_reads draft IsDraft drafts) (λ n wrong. misshapen n wrong refl) made
  where
    P : Result (Upgrades D I) FileError → Type 0
    P r = Judges (AreUpgrades IsDraft Is t) (UpgradesRefused IsDraft Is IsOut t) r

    made : (vsn : List ℕ) (ups downs : List (Draft D)) → HasUpgradeParts IsDraft t vsn ups downs → P (upgrades_with read vsn ups downs)
    made vsn ups downs parts =
        then_judged P (entries_from read 0 ups) _ (AreEntries Is ups) (IsFirstWrong (Says Is) IsOut 0 (instructions_in ups)) (entries_judged read Is IsOut tells 0 ups)
        (λ up are_up. then_judged P (entries_from read (count_in ups) downs) _ (AreEntries Is downs) (IsFirstWrong (Says Is) IsOut (count_in ups) (instructions_in downs)) (entries_judged read Is IsOut tells (count_in ups) downs)
        (λ down are_down. record { ups = ups; downs = downs; parts = parts; up = are_up; down = are_down })
        (λ f wrong. instruction vsn ups downs parts (down_wrong Is IsOut ups downs up f are_up wrong)))
        (λ f wrong. instruction vsn ups downs parts (up_wrong Is IsOut ups downs f wrong))

pub upgrades_done : {D I : Type 0} (draft : Tree → Option (Draft D)) (read : Tree → Result I InstructionFault) (IsDraft : Tree → Draft D → Type 0) (Is : Tree → I → Type 0) (IsOut : Tree → Type 0) → Reads draft IsDraft → ReadsAll read Is IsOut → (t : Tree) (file : Upgrades D I) → AreUpgrades IsDraft Is t file → upgrades_of draft read t ≡ Ok file
unfolding upgrades_of
upgrades_done draft read IsDraft Is IsOut drafts tells t file is =
    three_done version_of (rows_of draft) (rows_of draft) IsVersion (IsListOf IsDraft) (IsListOf IsDraft) (λ vsn ups downs. upgrades_with read vsn ups downs) t version_reads (rows_reads draft IsDraft drafts) (rows_reads draft IsDraft drafts) file.vsn is.ups is.downs is.parts ∙ ap (λ r. after r (λ up. after (entries_from read (count_in is.ups) is.downs) (λ down. Ok (record { vsn = file.vsn; up = up; down = down })))) (entries_done read Is IsOut tells 0 is.ups file.up is.up) ∙ ap (λ r. after r (λ down. Ok (record { vsn = file.vsn; up = file.up; down = down }))) (entries_done read Is IsOut tells (count_in is.ups) is.downs file.down is.down)

pub upgrades_refused : {D I : Type 0} (draft : Tree → Option (Draft D)) (read : Tree → Result I InstructionFault) (IsDraft : Tree → Draft D → Type 0) (Is : Tree → I → Type 0) (IsOut : Tree → Type 0) → Reads draft IsDraft → ReadsAll read Is IsOut → (t : Tree) (f : FileError) → UpgradesRefused IsDraft Is IsOut t f → upgrades_of draft read t ≡ Err f
unfolding upgrades_of
upgrades_refused draft read IsDraft Is IsOut drafts tells t f (misshapen n wrong is) =
    three_misshapen version_of (rows_of draft) (rows_of draft) IsVersion (IsListOf IsDraft) (IsListOf IsDraft) (λ vsn ups downs. upgrades_with read vsn ups downs) t version_reads (rows_reads draft IsDraft drafts) (rows_reads draft IsDraft drafts) n wrong ∙ ap Err (sym is)
upgrades_refused {D} {I} draft read IsDraft Is IsOut drafts tells t f (instruction vsn ups downs parts wrong) =
    three_done version_of (rows_of draft) (rows_of draft) IsVersion (IsListOf IsDraft) (IsListOf IsDraft) (λ vsn ups downs. upgrades_with read vsn ups downs) t version_reads (rows_reads draft IsDraft drafts) (rows_reads draft IsDraft drafts) vsn ups downs parts ∙ elim (ups_or_downs read Is IsOut tells ups downs f wrong) [
      | inl up ↦ ap (λ r. after r with_up) up
      | inr down ↦ ap (λ r. after r with_up) down.1 ∙ ap (λ r. after {B = Upgrades D I} r (λ xs. Ok (record { vsn = vsn; up = down.0; down = xs }))) down.2
    ]
  where
    with_up : List (Entry D I) → Result (Upgrades D I) FileError
    with_up up = after (entries_from read (count_in ups) downs) (λ down. Ok (record { vsn = vsn; up = up; down = down }))
