-- The bytes of a module tell it, and are those of its functions and, behind them, of its name and its attribute.
use Rattle.std.proofs.Common.{◌≡◌, ℕ, List, [], ◌∷◌, ◌++◌, Option, sym, ◌∙◌, refl}
use base.Stored.{gcons}
use Rattle.erl_term.specs.declared.term.Term.{Term}
use Rattle.erl_term.specs.TreeCode.{chars_code}
use Rattle.erl_ir.specs.declared.function.Function.{Function}
use Rattle.erl_ir.specs.FormsCode.{begun, entry_code, forms_bytes, forms_code, forms_code-injective, functions_code, vsn_code}
use Rattle.erl_ir.specs.Module.{Forms, Key}
use Rattle.erl_ir.specs.ModuleBytes.{written}
use Rattle.erl_ir.proofs.Written.{IsNoNumber, both_is, chars-parts, written-nil, written-pair, written-same}

pub bytes_tell : (m n : Forms) → forms_bytes m ≡ forms_bytes n → m ≡ n
bytes_tell m n same = forms_code-injective m n (written-same (forms_code m) (forms_code n) same)

-- one function more
pub begun_push : (fs : List (Key × Function)) (f : Key × Function) (out : List ℕ) →
    begun (fs ++ f ∷ []) out ≡ written (entry_code f) (begun fs out ++ 1 ∷ [])
begun_push [] f out = refl
begun_push (e ∷ es) f out = begun_push es f (written (entry_code e) (out ++ 1 ∷ []))

begun_end : (fs : List (Key × Function)) (out : List ℕ) → written (functions_code fs) out ≡ begun fs out ++ 0 ∷ []
begun_end [] out = written-nil out
begun_end (f ∷ fs) out = written-pair (entry_code f) (functions_code fs) out tt ∙ begun_end fs (written (entry_code f) (out ++ 1 ∷ []))

functions-parts : (fs : List (Key × Function)) → IsNoNumber (functions_code fs)
functions-parts [] = tt
functions-parts (f ∷ fs) = tt

pub whole_bytes : (fs : List (Key × Function)) (name : List ℕ) (vsn : Option Term) →
    written (vsn_code vsn) (written (chars_code name) (begun fs (1 ∷ []) ++ 0 ∷ [] ++ 1 ∷ []))
    ≡ forms_bytes (record { name = name; vsn = vsn; functions = fs })
whole_bytes fs name vsn =
    let functions = begun fs (1 ∷ []) ++ 0 ∷ [] in
    both_is (chars_code name) (vsn_code vsn) functions (functions ++ 1 ∷ []) (written (chars_code name) (functions ++ 1 ∷ [])) (chars-parts name) refl refl ∙
    both_is (functions_code fs) (gcons (chars_code name) (vsn_code vsn)) [] (1 ∷ []) functions (functions-parts fs) refl (sym (begun_end fs (1 ∷ [])))
