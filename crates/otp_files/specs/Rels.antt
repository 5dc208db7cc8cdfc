-- Release resource files: which term says which, and what is wrong with one that says none (rel(4)).
use Rattle.std.specs.Prelude.{◌≡◌, ℕ, nat_le, Bool, true, ◌&&◌, ◌||◌, List, [], ◌∷◌, codes, Some, None}
use Rattle.std.specs.List.{list_all}
use Rattle.erl_term.specs.Conversions.{row}
use Rattle.erl_term.specs.Tree.{Tree, atom, tuple}
use Rattle.release_words.specs.Words.{string_tree, names_tree, is_version, start_type_tree}
use Rattle.release_words.specs.declared.start_type.StartType.TheVariants.{Permanent}
use Rattle.otp_files.specs.declared.rel.RelSpec.{RelSpec}
use Rattle.otp_files.specs.declared.applications.RelApp.{RelApp}
use Rattle.otp_files.specs.declared.error.FileError.{FileError}
use Rattle.otp_files.specs.declared.error.FileError.TheVariants.{Shape}
use Rattle.otp_files.specs.Distinct.{are_distinct, app_names}
use Rattle.otp_files.specs.Parts.{IsListOf, IsMisshapen, IsPair, IsVersion, IsWord, Parts, Says, end, part}

-- characters of Unicode
abbrev pub is_scalar : ℕ → Bool
is_scalar n = nat_le n 55295 || (nat_le 57344 n && nat_le n 1114111)

abbrev pub IsText : Tree → List ℕ → Type 0
IsText t text = (t ≡ string_tree text) × (list_all is_scalar text ≡ true)

-- `{Name,Vsn}`
abbrev pub IsTitle : Tree → List ℕ × List ℕ → Type 0
IsTitle = IsPair IsText IsVersion

-- `{erts,EVsn}`
abbrev pub IsErts : Tree → List ℕ → Type 0
IsErts t vsn = IsPair (IsWord (codes "erts")) IsVersion t (tt, vsn)

-- how an application is written: with its type and the applications that it includes, or without
pub data IsSpelled (t : Tree) (app : RelApp) : Type 0 where
  -- `{App,Vsn}`
  plain : t ≡ tuple (row (atom app.name ∷ string_tree app.vsn ∷ [])) → app.start_type ≡ Permanent → app.included ≡ None →
      IsSpelled t app
  -- `{App,Vsn,Type}`
  typed : t ≡ tuple (row (atom app.name ∷ string_tree app.vsn ∷ start_type_tree app.start_type ∷ [])) →
      app.included ≡ None → IsSpelled t app
  -- `{App,Vsn,IncApps}`
  including : (names : List (List ℕ)) → t ≡ tuple (row (atom app.name ∷ string_tree app.vsn ∷ names_tree names ∷ [])) →
      app.start_type ≡ Permanent → app.included ≡ Some names → IsSpelled t app
  -- `{App,Vsn,Type,IncApps}`
  typed_including : (names : List (List ℕ)) →
      t ≡ tuple (row (atom app.name ∷ string_tree app.vsn ∷ start_type_tree app.start_type ∷ names_tree names ∷ [])) →
      app.included ≡ Some names → IsSpelled t app

abbrev pub IsRelApp : Tree → RelApp → Type 0
IsRelApp t app = IsSpelled t app × (is_version app.vsn ≡ true)

-- applications, none of them twice
abbrev pub AreApps : Tree → List RelApp → Type 0
AreApps t apps = IsListOf IsRelApp t apps × (are_distinct (app_names apps) ≡ true)

-- `{release,{Name,Vsn},{erts,EVsn},[{App,Vsn,..}]}`
abbrev pub rel_parts : Parts
rel_parts = part (Says (IsWord (codes "release"))) (part (Says IsTitle) (part (Says IsErts) (part (Says AreApps) end)))

pub record IsRel (t : Tree) (rel : RelSpec) : Type 0 where
  pub head : Tree
  pub title : Tree
  pub erts : Tree
  pub apps : Tree
  pub is : t ≡ tuple (row (head ∷ title ∷ erts ∷ apps ∷ []))
  pub release : IsWord (codes "release") head tt
  pub titled : IsTitle title (rel.name, rel.vsn)
  pub runtime : IsErts erts rel.erts
  pub applications : AreApps apps rel.apps

pub record RelRefused (t : Tree) (fault : FileError) : Type 0 where
  pub element : ℕ
  pub wrong : IsMisshapen rel_parts t element
  pub is : fault ≡ Shape element
