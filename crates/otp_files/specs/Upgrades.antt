-- Application and release upgrade files: which term says which, and what is wrong with one that says none (appup(4),
-- relup(4)). They differ in what describes an entry, nothing or a term, and in the instructions.
use Rattle.std.specs.Prelude.{◌≡◌, ◌⊎◌, ℕ, ◌+◌, ◌-◌, ◌^◌, min, true, List, [], ◌∷◌, ◌++◌, ⊤}
use Rattle.std.specs.List.{All}
use Rattle.erl_term.specs.declared.term.Term.{Term}
use Rattle.erl_term.specs.Conversions.{row, rows}
use Rattle.erl_term.specs.Tree.{Tree, Trees, tuple, list, none, more}
use Rattle.erl_term.specs.Term.{tree}
use Rattle.low_instructions.specs.declared.low.Low.{Low}
use Rattle.low_instructions.specs.Forms.{IsLow, is_out_of_profile, low_tree}
use Rattle.low_instructions.specs.Laws.{is_low}
use Rattle.release_words.specs.Words.{is_version, string_tree}
use Rattle.instructions.specs.declared.instruction.Instruction.{Instruction}
use Rattle.instructions.specs.Instructions.{IsInstruction, is_instruction}
use Rattle.otp_files.specs.declared.error.FileError.{FileError}
use Rattle.otp_files.specs.declared.error.FileError.TheVariants.{Shape, BadInstruction, OutOfProfile}
use Rattle.otp_files.specs.declared.upgrade.Entry.{Entry}
use Rattle.otp_files.specs.declared.upgrade.Upgrades.{Upgrades}
use Rattle.otp_files.specs.declared.upgrade.drafts.Draft.{Draft}
use Rattle.otp_files.specs.Parts.{Each, IsAny, IsList, IsListOf, IsMisshapen, IsPair, IsTriple, IsVersion, Parts, Says, end, part}

-- Instructions, and terms that are out of the profile

abbrev pub IsAppupInstruction : Tree → Instruction → Type 0
IsAppupInstruction t i = IsInstruction t i × (is_instruction i ≡ true)

abbrev pub IsRelupInstruction : Tree → Low → Type 0
IsRelupInstruction t low = IsLow t low × (is_low low ≡ true)

-- out of the profile, in either file
abbrev pub IsExcluded : Tree → Type 0
IsExcluded t = is_out_of_profile t ≡ true

-- Entries before their instructions are looked at: a version, what describes it, and the terms of the instructions

-- `{Version,Instrs}`
abbrev pub IsAppupDraft : Tree → Draft ⊤ → Type 0
IsAppupDraft t draft = IsPair IsVersion IsList t (draft.vsn, draft.instructions)

-- `{Version,Descr,Script}`
abbrev pub IsRelupDraft : Tree → Draft Term → Type 0
IsRelupDraft t draft = IsTriple IsVersion IsAny IsList t (draft.vsn, draft.description, draft.instructions)

-- Files

-- `{Vsn,[{UpFrom,..}],[{DownTo,..}]}`
abbrev pub upgrade_parts : {D : Type 0} → (Tree → Draft D → Type 0) → Parts
upgrade_parts IsDraft =
    part (Says IsVersion) (part (Says (IsListOf IsDraft)) (part (Says (IsListOf IsDraft)) end))

abbrev pub HasUpgradeParts : {D : Type 0} → (Tree → Draft D → Type 0) → Tree → List ℕ → List (Draft D) → List (Draft D) → Type 0
HasUpgradeParts IsDraft t vsn ups downs = IsTriple IsVersion (IsListOf IsDraft) (IsListOf IsDraft) t (vsn, ups, downs)

-- the entry of a draft: its instructions are what the draft's terms say
pub record IsEntry {D I : Type 0} (IsInstruction' : Tree → I → Type 0) (draft : Draft D) (entry : Entry D I) : Type 0 where
  pub vsn : entry.vsn ≡ draft.vsn
  pub description : entry.description ≡ draft.description
  pub instructions : Each IsInstruction' draft.instructions entry.instructions

abbrev pub AreEntries : {D I : Type 0} → (Tree → I → Type 0) → List (Draft D) → List (Entry D I) → Type 0
AreEntries IsInstruction' [] [] = ⊤
AreEntries IsInstruction' [] (e ∷ es) = ⊥
AreEntries IsInstruction' (d ∷ ds) [] = ⊥
AreEntries IsInstruction' (d ∷ ds) (e ∷ es) = IsEntry IsInstruction' d e × AreEntries IsInstruction' ds es

pub record AreUpgrades {D I : Type 0} (IsDraft : Tree → Draft D → Type 0) (IsInstruction' : Tree → I → Type 0)
    (t : Tree) (file : Upgrades D I) : Type 0 where
  pub ups : List (Draft D)
  pub downs : List (Draft D)
  pub parts : HasUpgradeParts IsDraft t file.vsn ups downs
  pub up : AreEntries IsInstruction' ups file.up
  pub down : AreEntries IsInstruction' downs file.down

-- The instructions of a file, in order, up before down; the number that is told of one ends at 2^64 - 1

abbrev pub terms_in : Trees → List Tree
terms_in none = []
terms_in (more t ts) = t ∷ terms_in ts

abbrev pub instructions_in : {D : Type 0} → List (Draft D) → List Tree
instructions_in [] = []
instructions_in (d ∷ ds) = terms_in d.instructions ++ instructions_in ds

abbrev pub saturated : ℕ → ℕ
saturated n = min n (2 ^ 64 - 1)

-- what is wrong with the term that stands at a number
abbrev pub IsFaultAt : (Tree → Type 0) → (Tree → Type 0) → ℕ → Tree → FileError → Type 0
IsFaultAt IsRight IsOut n t fault =
    (IsOut t × (fault ≡ OutOfProfile (saturated n))) ⊎
    ((IsOut t → ⊥) × (IsRight t → ⊥) × (fault ≡ BadInstruction (saturated n)))

-- what is wrong with the first of some terms that is no instruction, where the first of them has the number n
abbrev pub IsFirstWrong : (Tree → Type 0) → (Tree → Type 0) → ℕ → List Tree → FileError → Type 0
IsFirstWrong IsRight IsOut n [] fault = ⊥
IsFirstWrong IsRight IsOut n (t ∷ ts) fault =
    IsFaultAt IsRight IsOut n t fault ⊎ (IsRight t × IsFirstWrong IsRight IsOut (n + 1) ts fault)

pub data UpgradesRefused {D I : Type 0} (IsDraft : Tree → Draft D → Type 0) (IsInstruction' : Tree → I → Type 0)
    (IsOut : Tree → Type 0) (t : Tree) (fault : FileError) : Type 0 where
  misshapen : (n : ℕ) → IsMisshapen (upgrade_parts IsDraft) t n → fault ≡ Shape n →
      UpgradesRefused IsDraft IsInstruction' IsOut t fault
  instruction : (vsn : List ℕ) → (ups downs : List (Draft D)) → HasUpgradeParts IsDraft t vsn ups downs →
      IsFirstWrong (Says IsInstruction') IsOut 0 (instructions_in ups ++ instructions_in downs) fault →
      UpgradesRefused IsDraft IsInstruction' IsOut t fault

abbrev pub IsAppup : Tree → Upgrades ⊤ Instruction → Type 0
IsAppup = AreUpgrades IsAppupDraft IsAppupInstruction

abbrev pub AppupRefused : Tree → FileError → Type 0
AppupRefused = UpgradesRefused IsAppupDraft IsAppupInstruction IsExcluded

abbrev pub IsRelup : Tree → Upgrades Term Low → Type 0
IsRelup = AreUpgrades IsRelupDraft IsRelupInstruction

abbrev pub RelupRefused : Tree → FileError → Type 0
RelupRefused = UpgradesRefused IsRelupDraft IsRelupInstruction IsExcluded

-- How a relup is printed: each instruction in its printed form

-- what holds of an entry whatever it is: its version is one, and its instructions are some that can be written
pub record IsWritable (entry : Entry Term Low) : Type 0 where
  pub vsn : is_version entry.vsn ≡ true
  pub instructions : All (λ low. is_low low ≡ true) entry.instructions

abbrev pub relup_entry_tree : Entry Term Low → Tree
relup_entry_tree e = tuple (row (string_tree e.vsn ∷ tree e.description ∷ list (rows low_tree e.instructions) ∷ []))

abbrev pub relup_tree : Upgrades Term Low → Tree
relup_tree relup =
    tuple (row (string_tree relup.vsn ∷ list (rows relup_entry_tree relup.up) ∷ list (rows relup_entry_tree relup.down) ∷ []))
