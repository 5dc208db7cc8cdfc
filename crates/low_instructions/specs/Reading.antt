-- Low-level instructions as they are read: one line a form.
use Rattle.std.specs.Prelude.{ℕ, List, [], ◌∷◌, codes, Option, Some, Result, option_map}
use Rattle.erl_term.specs.Tree.{Tree, Trees}
use Rattle.erl_term.specs.Term.{term_of}
use Rattle.erl_term.specs.Accessors.{atom_of, tuple_of, list_of}
use Rattle.erl_term.specs.Conversions.{given, pair_of, triple_of, rows_of}
use Rattle.release_words.specs.declared.fault.InstructionFault.{InstructionFault}
use Rattle.release_words.specs.declared.timeout.Timeout.TheVariants.{Default}
use Rattle.release_words.specs.Reading.{alone_of, either_of, leading_of, named, names_of, purge_of, result_of, timeout_of}
use Rattle.release_words.specs.Reading.{version_of, word_of}
use Rattle.low_instructions.specs.declared.low.Low.{Low}
use Rattle.low_instructions.specs.declared.low.Low.TheVariants.{LoadObjectCode, PointOfNoReturn, Load, Remove, Purge, Suspend}
use Rattle.low_instructions.specs.declared.low.Low.TheVariants.{Resume, CodeChange, Stop, Start, Apply}
use Rattle.low_instructions.specs.declared.modules.Direction.{Direction}
use Rattle.low_instructions.specs.declared.modules.Direction.TheVariants.{Up, Down}
use Rattle.low_instructions.specs.declared.modules.ModuleChange.{ModuleChange}
use Rattle.low_instructions.specs.declared.modules.Suspension.{Suspension}
use Rattle.low_instructions.specs.Forms.{is_out_of_profile}

abbrev pub direction_words : List (List ℕ × Direction)
direction_words = (codes "up", Up) ∷ (codes "down", Down) ∷ []

unfoldable pub direction_of : Tree → Option Direction
direction_of t = word_of direction_words t

-- `Mod` or `{Mod,Timeout}`
unfoldable pub suspension_of : Tree → Option Suspension
suspension_of t =
    either_of (option_map (λ name. record { name = name; timeout = Default }) (atom_of t))
    (option_map (λ p. record { name = p.0; timeout = p.1 }) (pair_of atom_of timeout_of t))

-- `{Mod,Extra}`
unfoldable pub change_of : Tree → Option ModuleChange
change_of t = option_map (λ p. record { name = p.0; extra = p.1 }) (pair_of atom_of (λ u. Some (term_of u)) t)

-- `[{Mod,Extra}]`, which means up, or `up or down,[{Mod,Extra}]`
unfoldable pub code_change_of : Trees → Option Low
code_change_of ts =
    either_of (option_map (CodeChange Up) (alone_of (rows_of change_of) ts))
    (given (leading_of direction_of ts) (λ p. option_map (CodeChange p.0) (alone_of (rows_of change_of) p.1)))

-- what stands behind each name

abbrev pub module_forms : List (List ℕ × (Trees → Option Low))
module_forms =
    (codes "purge", λ ts. option_map Purge (alone_of names_of ts)) ∷
    (codes "suspend", λ ts. option_map Suspend (alone_of (rows_of suspension_of) ts)) ∷
    (codes "resume", λ ts. option_map Resume (alone_of names_of ts)) ∷
    (codes "stop", λ ts. option_map Stop (alone_of names_of ts)) ∷
    (codes "start", λ ts. option_map Start (alone_of names_of ts)) ∷ []

abbrev pub low_forms : List (List ℕ × (Trees → Option Low))
low_forms = (
  codes "load_object_code",
  λ ts. option_map (λ p. LoadObjectCode p.0 p.1 p.2)
      (alone_of (triple_of atom_of version_of names_of) ts),
) ∷
    (codes "load", λ ts. option_map (λ p. Load p.0 p.1 p.2) (alone_of (triple_of atom_of purge_of purge_of) ts)) ∷
    (codes "remove", λ ts. option_map (λ p. Remove p.0 p.1 p.2) (alone_of (triple_of atom_of purge_of purge_of) ts)) ∷
    (codes "code_change", λ ts. code_change_of ts) ∷
    (codes "apply", λ ts. option_map (λ p. Apply p.0 p.1 p.2) (alone_of (triple_of atom_of atom_of list_of) ts)) ∷ module_forms

abbrev pub low_in : Trees → Option Low
low_in ts = given (leading_of atom_of ts) (λ p. given (named low_forms p.0) (λ read. read p.1))

-- and the names that stand alone
abbrev pub lone_forms : List (List ℕ × Low)
lone_forms = (codes "point_of_no_return", PointOfNoReturn) ∷ []

unfoldable pub low_of : Tree → Option Low
low_of t = either_of (word_of lone_forms t) (given (tuple_of t) low_in)

-- the instruction that a term is, or why it is none
unfoldable pub low_result : Tree → Result Low InstructionFault
low_result t = result_of (is_out_of_profile t) (low_of t)
