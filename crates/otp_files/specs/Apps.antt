-- Application resource files: which term says which, and what is wrong with one that says none (app(4)).
use Rattle.std.specs.Prelude.{◌≡◌, ◌⊎◌, ◌≤◌, ℕ, if◌then◌else◌, List, [], ◌∷◌, length, codes, Option, Some, None}
use Rattle.std.specs.Str.{bytes_eq}
use Rattle.erl_term.specs.Tree.{Tree, Trees, list, none, more}
use Rattle.otp_files.specs.declared.app.AppSpec.{AppSpec}
use Rattle.otp_files.specs.declared.app.StartModule.{StartModule}
use Rattle.otp_files.specs.declared.app.used.Used.{Used}
use Rattle.otp_files.specs.declared.error.FileError.{FileError}
use Rattle.otp_files.specs.declared.error.FileError.TheVariants.{Shape, DuplicateKey}
use Rattle.otp_files.specs.Parts.{Each, IsAny, IsListOf, IsMisshapen, IsName, IsPair, IsTriple}
use Rattle.otp_files.specs.Parts.{IsVersion, IsWord, Parts, Says, end, part}

-- `{Key,Value}`
abbrev pub Property : Type 0
Property = List ℕ × Tree

abbrev pub IsProperty : Tree → Property → Type 0
IsProperty = IsPair IsName (λ t value. t ≡ value)

-- the values that stand under a key, in order
abbrev pub values_of : List ℕ → List Property → Trees
values_of key [] = none
values_of key (p ∷ ps) = if bytes_eq p.0 key then more p.1 (values_of key ps) else values_of key ps

-- a callback module: `{M,Args}`, or `[]` for none
abbrev pub IsStart : Tree → Option StartModule → Type 0
IsStart t (Some start) = IsPair IsName IsAny t (start.name, start.arguments)
IsStart t None = t ≡ list none

-- `[{Key,Value}]`, of whose keys `vsn`, `modules`, `applications` and `mod` are used, the first of them once or more; the
-- values under other keys are any
pub record AreProperties (t : Tree) (used : Used) : Type 0 where
  pub properties : List Property
  pub is : IsListOf IsProperty t properties
  pub versions : Each IsVersion (values_of (codes "vsn") properties) used.versions
  pub modules : Each (IsListOf IsName) (values_of (codes "modules") properties) used.modules
  pub applications : Each (IsListOf IsName) (values_of (codes "applications") properties) used.applications
  pub starts : Each IsStart (values_of (codes "mod") properties) used.starts
  pub stands : 1 ≤ length used.versions

-- a value that stands once, or not at all, and is then the default
abbrev pub IsOnly : {A : Type 0} → A → List A → A → Type 0
IsOnly default values value = (values ≡ value ∷ []) ⊎ ((values ≡ []) × (value ≡ default))

-- `{application,App,[{Key,Value}]}`
abbrev pub app_parts : Parts
app_parts = part (Says (IsWord (codes "application"))) (part (Says IsName) (part (Says AreProperties) end))

abbrev pub HasAppParts : Tree → List ℕ → Used → Type 0
HasAppParts t name used = IsTriple (IsWord (codes "application")) IsName AreProperties t (tt, name, used)

pub record IsApp (t : Tree) (app : AppSpec) : Type 0 where
  pub used : Used
  pub parts : HasAppParts t app.name used
  pub vsn : used.versions ≡ app.vsn ∷ []
  pub modules : IsOnly [] used.modules app.modules
  pub applications : IsOnly [] used.applications app.applications
  pub start : IsOnly None used.starts app.start

-- a key that is used stands more than once
abbrev pub StandsTwice : Used → Type 0
StandsTwice used =
    (2 ≤ length used.versions) ⊎ ((2 ≤ length used.modules) ⊎
    ((2 ≤ length used.applications) ⊎ (2 ≤ length used.starts)))

pub data AppRefused (t : Tree) (fault : FileError) : Type 0 where
  misshapen : (n : ℕ) → IsMisshapen app_parts t n → fault ≡ Shape n → AppRefused t fault
  twice : (name : List ℕ) → (used : Used) → HasAppParts t name used → StandsTwice used → fault ≡ DuplicateKey →
      AppRefused t fault
