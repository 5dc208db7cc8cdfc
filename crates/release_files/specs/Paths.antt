-- Where the files of a release stand.
use Rattle.std.specs.Prelude.{◌≡◌, ℕ, List, ◌++◌, codes, Contains, encode_utf8_all}
use Rattle.std.specs.Cmp.Lexicographic.{slice_cmp}
use Rattle.std.specs.Ordering.{nat_cmp}
use Rattle.std.specs.declared.cmp.Ordering.TheVariants.{Less}
use Rattle.otp_files.specs.declared.applications.RelApp.{RelApp}

-- Releases, by the bytes of a version

-- `releases/VSN`
abbrev pub release_path : List ℕ → List ℕ
release_path vsn = codes "releases/" ++ vsn

-- `releases/VSN/relup`
abbrev pub relup_path : List ℕ → List ℕ
relup_path vsn = release_path vsn ++ codes "/relup"

-- `releases/VSN/NAME.rel`
abbrev pub rel_path : List ℕ → List ℕ → List ℕ
rel_path vsn name = release_path vsn ++ (codes "/" ++ (name ++ codes ".rel"))

-- a path of that form, where no `/` (47) stands in NAME
pub record IsRelName (vsn : List ℕ) (path : List ℕ) : Type 0 where
  pub name : List ℕ
  pub is : path ≡ rel_path vsn name
  pub no_slash : Contains name 47 → ⊥

-- in the order of their bytes
abbrev pub IsBefore : List ℕ → List ℕ → Type 0
IsBefore path other = slice_cmp nat_cmp path other ≡ Less

-- the first path of that form among these, in the order of their bytes
pub record IsRelPath (paths : List (List ℕ)) (vsn : List ℕ) (path : List ℕ) : Type 0 where
  pub stands : Contains paths path
  pub named : IsRelName vsn path
  pub first : (other : List ℕ) → Contains paths other → IsRelName vsn other → IsBefore other path → ⊥

-- none of these has that form
abbrev pub HasNoRel : List (List ℕ) → List ℕ → Type 0
HasNoRel paths vsn = (path : List ℕ) → Contains paths path → IsRelName vsn path → ⊥

-- Applications of a `.rel`

-- `lib/APP-AVSN`
abbrev pub app_folder : RelApp → List ℕ
app_folder app = codes "lib/" ++ (encode_utf8_all app.name ++ (codes "-" ++ encode_utf8_all app.vsn))

-- `lib/APP-AVSN/ebin/APP.app`
abbrev pub app_path : RelApp → List ℕ
app_path app = app_folder app ++ (codes "/ebin/" ++ (encode_utf8_all app.name ++ codes ".app"))

-- `lib/APP-AVSN/ebin/APP.appup`
abbrev pub appup_path : RelApp → List ℕ
appup_path app = app_folder app ++ (codes "/ebin/" ++ (encode_utf8_all app.name ++ codes ".appup"))

-- `lib/APP-AVSN/src/MOD.erl`
abbrev pub source_path : RelApp → List ℕ → List ℕ
source_path app m = app_folder app ++ (codes "/src/" ++ (encode_utf8_all m ++ codes ".erl"))
