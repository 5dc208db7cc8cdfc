-- What each error says of the bytes of which it is told.
use Rattle.std.specs.Prelude.{◌≡◌, ℕ, ◌≤◌, List, [], length, Option, None, Some}
use Rattle.std.specs.Str.{chars, IsUtf8, IsValidUpTo}
use Rattle.erl_scan.specs.declared.error.Fault.{Fault}
use Rattle.erl_scan.specs.declared.error.Fault.TheVariants as faults
use Rattle.erl_scan.specs.declared.error.ReadError.{ReadError}
use Rattle.erl_scan.specs.declared.token.Spot.{Spot}
use Rattle.erl_scan.specs.Scan.{IsScanOf}
use Rattle.erl_ast.specs.declared.form.ModuleTree.{ModuleTree}
use Rattle.erl_ast.specs.Terminal.{terminals}
use Rattle.erl_ast.specs.Forms.{IsModule}
use Rattle.erl_expressions.specs.declared.refusal.Reason.{Reason}
use Rattle.erl_expressions.specs.declared.refusal.Reason.TheVariants as reasons
use Rattle.erl_expressions.specs.declared.refusal.Refusal.{Refusal}
use Rattle.erl_expressions.specs.Refusing.{from_dot}
use Rattle.module_forms.specs.Brackets.{innermost}
use Rattle.module_forms.specs.FirstFault.{Reaches, IsFirstFaulty, IsToldFirst, StandsAt}
use Rattle.erl_lint.specs.declared.fault.StaticFault.{StaticFault}
use Rattle.erl_lint.specs.declared.fault.StaticFault.TheVariants as statics
use Rattle.erl_lint.specs.First.{IsFirstFault}
use Rattle.erl_lint.specs.Faults.{faults_of}
use Rattle.erl_lower.specs.Meaning.{HasNoMeaning}
use Rattle.erl_parse.specs.declared.error.LangError.{LangError}
use Rattle.erl_parse.specs.declared.error.LangError.TheVariants as errors
use Rattle.erl_parse.specs.Sources.{IsWritten}

-- Errors

-- a fault of the text
abbrev pub text_error : Fault → ℕ → LangError
text_error kind at = errors.Text (record { kind = kind; at = at })

-- the fault of a token by itself
abbrev pub error_by : Fault → ReadError → LangError
error_by faults.Syntax e = errors.Syntax e.at
error_by faults.Unsupported e = errors.Unsupported e.at
error_by kind e = errors.Text e

abbrev pub error_of_token : ReadError → LangError
error_of_token e = error_by e.kind e

-- a static fault
abbrev pub error_of_static : StaticFault → LangError
error_of_static (statics.DuplicateFunction at) = errors.DuplicateFunction at
error_of_static (statics.UnboundVariable at) = errors.UnboundVariable at
error_of_static (statics.UndefinedLocal at) = errors.UndefinedLocal at

-- a token of a form that is none, by the reason
abbrev pub error_at : Reason → ℕ → LangError
error_at reasons.Syntax at = errors.Syntax at
error_at reasons.Unsupported at = errors.Unsupported at
error_at reasons.IntegerRange at = text_error faults.IntegerRange at
error_at reasons.TooDeep at = text_error faults.TooDeep at

-- the end of a text of so many bytes in a form, by the offset of the innermost bracket that is open there
abbrev pub cut_off : Option ℕ → ℕ → LangError
cut_off (Some at) total = text_error faults.Unclosed at
cut_off None total = text_error faults.MissingDot total

-- Bytes

-- A token of the text is faulty by itself, of this kind and told here, and those before it are not. What stands before the form
-- that it is in is `-module` and whole forms, if anything.
pub record StopsAt (bytes : List ℕ) (e : ReadError) : Type 0 where
  pub utf8 : IsUtf8 bytes
  pub tokens : List Spot
  pub scan : IsScanOf (chars bytes) tokens (Some e)
  pub form : List Spot
  pub reached : Reaches (terminals tokens) (terminals form)
  pub no_dot : from_dot form ≡ 0

-- The tokens of the text, up to its end or to the first that is faulty by itself, are written as no module, and from these on as
-- no form: what stands before them is `-module` and whole forms, if anything.
pub record AreNoModule (bytes : List ℕ) (stop : Option ReadError) (tokens form : List Spot) : Type 0 where
  pub utf8 : IsUtf8 bytes
  pub scan : IsScanOf (chars bytes) tokens stop
  pub none : (tree : ModuleTree) → IsModule (terminals tokens) tree → ⊥
  pub first : IsFirstFaulty (terminals tokens) (terminals form)

-- A token stands at this byte in the first form that is none, up to its dot.
pub record IsMisplaced (bytes : List ℕ) (at : ℕ) : Type 0 where
  pub stop : Option ReadError
  pub tokens : List Spot
  pub form : List Spot
  pub no_module : AreNoModule bytes stop tokens form
  pub spot : Spot
  pub left : ℕ
  pub stands : StandsAt tokens left spot
  pub behind_start : left ≤ length form
  pub before_dot : from_dot form ≤ left
  pub offset : at ≡ spot.at

-- The text ends in a form, before its dot, and this is the innermost bracket that is open there, if there is one.
pub record EndsInForm (bytes : List ℕ) (bracket : Option ℕ) : Type 0 where
  pub tokens : List Spot
  pub form : List Spot
  pub no_module : AreNoModule bytes None tokens form
  pub no_dot : from_dot form ≡ 0
  pub is_innermost : innermost tokens ≡ bracket

-- The bytes are written as a module with this static fault, and with none at a lesser offset.
pub record FaultsFirst (bytes : List ℕ) (fault : StaticFault) : Type 0 where
  pub tree : ModuleTree
  pub written : IsWritten bytes tree
  pub first : IsFirstFault (Some fault) (faults_of tree)

-- What an error says of the bytes.
pub data Says (bytes : List ℕ) (error : LangError) : Type 0 where
  not_utf8 : {at : ℕ} → error ≡ text_error faults.NotUtf8 at → (IsUtf8 bytes → ⊥) → IsValidUpTo bytes at → Says bytes error
  -- a token that is faulty by itself
  faulty : {e : ReadError} → error ≡ error_of_token e → StopsAt bytes e → Says bytes error
  -- a token of the first form that is none
  misplaced : (reason : Reason) {at : ℕ} → error ≡ error_at reason at → IsMisplaced bytes at → Says bytes error
  -- the end inside a bracket, and elsewhere
  unclosed : {at : ℕ} → error ≡ text_error faults.Unclosed at → EndsInForm bytes (Some at) → Says bytes error
  no_dot : error ≡ text_error faults.MissingDot (length bytes) → EndsInForm bytes None → Says bytes error
  -- a static fault
  static : {fault : StaticFault} → error ≡ error_of_static fault → FaultsFirst bytes fault → Says bytes error

-- Parts of it, for the steps of reading

-- what is told of the end of tokens, by what stops them, in a text of so many bytes
pub data TellsEnd (tokens : List Spot) (stop : Option ReadError) (total : ℕ) (error : LangError) : Type 0 where
  stopped : {e : ReadError} → stop ≡ Some e → error ≡ error_of_token e → TellsEnd tokens stop total error
  at_end : stop ≡ None → error ≡ cut_off (innermost tokens) total → TellsEnd tokens stop total error

-- what is told of a refusal of tokens: of the token with so many of them from it on, or of their end
pub data TellsRefusal (tokens : List Spot) (r : Refusal) (stop : Option ReadError) (total : ℕ) (error : LangError) :
    Type 0 where
  at_token : {spot : Spot} → StandsAt tokens r.left spot → error ≡ error_at r.reason spot.at →
      TellsRefusal tokens r stop total error
  of_end : r.left ≡ 0 → TellsEnd tokens stop total error → TellsRefusal tokens r stop total error

-- what is told of tokens that are no module
pub record TellsTokens (tokens : List Spot) (stop : Option ReadError) (total : ℕ) (error : LangError) : Type 0 where
  pub refusal : Refusal
  pub none : (tree : ModuleTree) → IsModule (terminals tokens) tree → ⊥
  pub first : IsToldFirst tokens refusal
  pub told : TellsRefusal tokens refusal stop total error

-- what is told of a module as it is written
pub data TellsTree (tree : ModuleTree) (error : LangError) : Type 0 where
  has_fault : {fault : StaticFault} → error ≡ error_of_static fault → IsFirstFault (Some fault) (faults_of tree) →
      TellsTree tree error
  has_no_meaning : faults_of tree ≡ [] → HasNoMeaning tree → error ≡ errors.Syntax tree.name.at → TellsTree tree error
