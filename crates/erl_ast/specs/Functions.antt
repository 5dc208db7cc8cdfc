-- Functions that are built in and may be called in guards (Erlang Reference Manual, Guard Sequences), each by its name, with
-- the number of its arguments.
use Rattle.std.specs.Prelude.{ℕ, Bool, false, ◌==◌, if◌then◌else◌, List, [], ◌∷◌, codes, Option, None, Some}
use Rattle.std.specs.Str.{bytes_eq}

abbrev pub guard_functions : List (List ℕ × ℕ)
guard_functions =
    (codes "abs", 1) ∷ (codes "element", 2) ∷ (codes "hd", 1) ∷ (codes "is_atom", 1) ∷ (codes "is_boolean", 1) ∷
    (codes "is_integer", 1) ∷ (codes "is_list", 1) ∷ (codes "is_pid", 1) ∷ (codes "is_tuple", 1) ∷ (codes "length", 1) ∷
    (codes "self", 0) ∷ (codes "tl", 1) ∷ (codes "tuple_size", 1) ∷ []

-- the number that stands beside a name
abbrev pub arity_among : List (List ℕ × ℕ) → List ℕ → Option ℕ
arity_among [] name = None
arity_among (f ∷ fs) name = if bytes_eq name f.0 then Some f.1 else arity_among fs name

abbrev pub guard_arity : List ℕ → Option ℕ
guard_arity name = arity_among guard_functions name

abbrev pub is_arity : Option ℕ → ℕ → Bool
is_arity None n = false
is_arity (Some arity) n = arity == n

-- whether a function of this name and so many arguments may be called in a guard
abbrev pub is_guard_function : List ℕ → ℕ → Bool
is_guard_function name n = is_arity (guard_arity name) n
